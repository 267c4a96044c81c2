use Rattle.shop_window.proofs.Filling.{cycle_first, cycle_then}
use Rattle.shop_window.proofs.related.following.Goals as goal

pub returns-then-others-last : goal.returns-then-others-last
returns-then-others-last c = cycle_first c.args.item c.args.items c.args.others c.if-others-last.true

pub returns-else-others-last : goal.returns-else-others-last
returns-else-others-last c =
    cycle_then c.args.item c.args.items c.args.others c.requires.item.first c.requires.item.last c.if-others-last.false c.requires.others
