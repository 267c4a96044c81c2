use Rattle.std.proofs.Common.{◌≡◌}
use Rattle.shop_turn.proofs.share.Share.commit.Given as goal

abbrev pub invariant-loop : goal.invariant-loop
invariant-loop g l =
    (goal.iterator-loop g).can_next l.iterator'
    × (goal.iterator-loop g).is_finite l.iterator'
    × (l.prepared ≡ l.initial.prepared)
    × (l.self-inside ≡ l.initial.self-inside)
