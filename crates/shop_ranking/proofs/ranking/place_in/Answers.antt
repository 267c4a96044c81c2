use Rattle.std.proofs.Common.{rules}
use Rattle.std.specs.Ordering.{is_gt}
use Rattle.std.proofs.lemmas.List.Sorted.{IsPartitionPoint-from_clause}
use Rattle.shop_ranking.proofs.Putting.{parted}
use Rattle.shop_ranking.proofs.ranking.place_in.Goals as goal

pub returns-clause-passes : goal.returns-clause-passes
returns-clause-passes g c =
    let order = g.T.Ranked.order in let x = c.args.element.now in
    IsPartitionPoint-from_clause (λ y. is_gt (order x y)) _ _ c.partition_point.ensures.partitioned
    (parted order c.requires.order x c.args.others.now c.requires.sorted) (λ a r q k. search rules)
