use Rattle.shop_replay.proofs.OneByOne.{Replays}
use Rattle.shop_replay.proofs.replaying.add_all.Given as goal

abbrev pub invariant-loop-count : goal.invariant-loop-count
invariant-loop-count l = Replays l.fn.solo.book.opening l.entries l.solo l.latest l.count
