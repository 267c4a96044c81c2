use Rattle.std.proofs.Common.{All, take}
use Rattle.shop_model.specs.rows.Sound.{Has}
use Rattle.shop_order.specs.AdminConfirm.{totals_in}
use Rattle.shop_order.proofs.related.are_among.Given as goal

-- what the first reads say was bought is among them
abbrev pub invariant-loop-read : goal.invariant-loop-read
invariant-loop-read l = All (λ r. All (λ p. Has l.items p.0) (totals_in r.row)) (take l.read-index l.bought)
