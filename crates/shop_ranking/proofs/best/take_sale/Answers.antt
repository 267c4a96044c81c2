use Rattle.shop_model.specs.lists.Rankings.{better}
use Rattle.shop_ranking.specs.StandingBest.{is_sold}
use Rattle.shop_ranking.proofs.cited.Order.{better_strict}
use Rattle.shop_ranking.proofs.Kept.{sorted_shown}
use Rattle.shop_ranking.proofs.best.take_sale.Goals as goal

pub take_out-requires-clause-sorted : goal.take_out-requires-clause-sorted
take_out-requires-clause-sorted c =
    rw c.requires.is (sorted_shown is_sold better better_strict.total c.args.sale.now c.requires.others)
