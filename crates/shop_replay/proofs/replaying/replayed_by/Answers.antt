use Rattle.std.proofs.Common.{arith}
use Rattle.shop_replay.proofs.OneByOne.{first_illegal}
use Rattle.shop_replay.proofs.replaying.replayed_by.Goals as goal

pub returns-then-added-all : goal.returns-then-added-all
returns-then-added-all c opening entries added all_is = first_illegal opening entries _ _ added (omega (arith, c.if-added-all.true, all_is))
