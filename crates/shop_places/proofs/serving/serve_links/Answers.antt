use Rattle.std.proofs.Common.{◌∙◌, refl, sym, ap, arith}
use Rattle.shop_edges.specs.Causes.{count_up}
use Rattle.shop_places.specs.Listening.{seen_by}
use Rattle.shop_places.specs.Outcomes.{ServesLinks}
use Rattle.shop_places.proofs.cited.Counts.{counted_next}
use Rattle.shop_places.proofs.Steps.{passed_up, started_more, started_none, stopped_at}
use Rattle.shop_places.proofs.serving.serve_links.Goals as goal

pub loop-before-init : goal.loop-before-init
loop-before-init g c = record { started = started_none g.S.Station.serves _ _; starts = refl; later = omega arith }

pub loop-before-preserved : goal.loop-before-preserved
loop-before-preserved g c =
    let was = c.loop-before.invariant in
    record {
      started = started_more g.S.Station.serves c.loop-before.before _ _ _ _ _ _ _ was.started c.in_ok-serve_one.ensures.served (omega (arith, c.from-link.ensures));
      starts = c.in_ok-serve_one.ensures.starts ∙ ap count_up was.starts ∙ sym (counted_next c.loop-before.before _);
      later = omega (arith, was.later, c.serve_one.ensures.later);
    }

pub returns-in_err-serve_one-clause-served : goal.returns-in_err-serve_one-clause-served
returns-in_err-serve_one-clause-served g c =
    let seen = seen_by g.L.Listener.links g.L.Listener.faults g.L.Listener.accepted g.L.Listener.dialled in
    let stop = c.in_err-serve_one.field-0.0 in
    passed_up (ServesLinks g.S.Station.serves c.args.links c.args.spots.now.items c.serve_one.new.spots.items (seen c.args.listener.now) (seen c.serve_one.new.listener)) c.from_residual.result stop c.from_residual.ensures.1
    (stopped_at g.S.Station.serves c.loop-before.before c.args.links stop _ _ _ _ _ _ c.loop-before.invariant.started c.in_err-serve_one.ensures.served (omega (arith, c.loop-before-test.true)))
