use Rattle.shop_replay.proofs.OneByOne.{replays_more}
use Rattle.shop_replay.proofs.replaying.add_all.Goals as goal

pub loop-count-preserved : goal.loop-count-preserved
loop-count-preserved c =
    replays_more _ _ _ _ _ c.loop-count.invariant c.index-entries-count.result c.loop-count-test.true c.index-entries-count.is c.add.new.solo c.in-Ok.ensures.adds c.in-Ok.ensures.valid
