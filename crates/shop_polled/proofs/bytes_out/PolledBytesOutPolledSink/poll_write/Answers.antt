use Rattle.std.proofs.Common.{rules}
use Rattle.shop_polled.proofs.bytes_out.PolledBytesOutPolledSink.poll_write.Goals as goal

pub returns-then-contains-clause-piece : goal.returns-then-contains-clause-piece
returns-then-contains-clause-piece c = rw c.yield_now.ensures.pending (search rules)
