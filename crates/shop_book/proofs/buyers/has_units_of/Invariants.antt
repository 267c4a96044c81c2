use Rattle.std.proofs.Common.{◌≡◌, ℕ, Contains, map, take}
use Rattle.shop_model.specs.rows.Sound.{units_in}
use Rattle.shop_book.proofs.buyers.has_units_of.Given as goal

-- there are as many units of the first lines' items
abbrev pub invariant-loop-line : goal.invariant-loop-line
invariant-loop-line l = (item : ℕ) → Contains (map (λ r. r.item) (take l.line-index l.lines)) item → units_in item l.lines ≡ units_in item l.others
