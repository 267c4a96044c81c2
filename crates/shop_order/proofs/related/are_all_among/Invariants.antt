use Rattle.std.proofs.Common.{All, take}
use Rattle.shop_model.specs.rows.Sound.{Has}
use Rattle.shop_order.proofs.related.are_all_among.Given as goal

-- the first items are among them
abbrev pub invariant-loop-pair : goal.invariant-loop-pair
invariant-loop-pair l = All (λ p. Has l.items p.0) (take l.pair-index l.totals)
