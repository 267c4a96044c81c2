use Rattle.std.proofs.Common.{refl}
use Rattle.shop_engine.proofs.cited.Fresh.{all_fresh}
use Rattle.shop_keep.proofs.SessionEnds.{session_by_end, standing_first}
use Rattle.shop_keep.proofs.session.serve_over.Goals as goal

pub returns-clause-kept : goal.returns-clause-kept
returns-clause-kept g c session named first ready =
    let kept = c.serve_kept-kept.ensures in
    rw c.status_of.ensures
    (session_by_end session named (g.D.Disk.state c.args.journal) (g.D.Disk.state c.serve_kept-kept.result.disk) first _ _ _ c.serve_kept-kept.result.points ready.has ready.legal ready.run kept.tells refl refl kept.failures kept.asks kept.lawful (all_fresh _ _ _ kept.fresh)
    _ (standing_first session first c.args.worker _ _ ready.is_first) c.serve_kept-kept.result.end kept.kept kept.disk_fault kept.read_fault kept.write_fault)
