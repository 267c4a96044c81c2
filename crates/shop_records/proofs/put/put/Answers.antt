use Rattle.std.proofs.Common.{length}
use Rattle.shop_records.proofs.Putting.{torn_write, and_more}
use Rattle.shop_records.proofs.put.put.Goals as goal

pub returns-then-eq-clause-any_moment : goal.returns-then-eq-clause-any_moment
returns-then-eq-clause-any_moment g c = λ file is.
    torn_write _ _ c.args.at (length c.args.bytes.now) file is c.requires.durable c.write_at.ensures.crash (g.D.Disk.is_disk _) c.write_at.ensures.time

pub returns-clause-any_moment : goal.returns-clause-any_moment
returns-clause-any_moment g c = λ file is.
    let wrote = torn_write _ _ c.args.at (length c.args.bytes.now) file is c.requires.durable c.write_at.ensures.crash (g.D.Disk.is_disk _) c.write_at.ensures.time in
    and_more _ _ c.args.at (length c.args.bytes.now) file is c.requires.durable c.write_at.ensures.crash _ wrote c.sync.ensures.crash c.sync.ensures.time
