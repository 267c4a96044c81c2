-- What a map of quantities does to its lines is what a set does, and keeps them within their bounds.
use Rattle.std.proofs.Common.{◌≡◌, ◌≢◌, ℕ, zero, suc, ◌<◌, ◌≤◌, false, cond, ◌==◌, nat_eq, eqb, List, [], ◌∷◌, length, get_or, take, AllPairs, refl, sym, ap, arith, rules, ne_eqb}
use Rattle.indexmap.specs.IndexMap.{insert_entry, shift_remove_entry}
use Rattle.shop_model.specs.trade.Carts.{set_line, is_too_many}
use Rattle.shop_model.specs.rows.Limits.{quantity_limit}
use Rattle.shop_model.specs.rows.Sound.{IsQuantity}
use Rattle.shop_model.proofs.cited.SetLines.{set_line_all, set_line_few}
use Rattle.shop_pricing.specs.Bounds.{AreLines}

-- a set to 0 is a removal
pub set_line-none : (item : ℕ) (lines : List (ℕ × ℕ)) → set_line item 0 lines ≡ shift_remove_entry (nat_eq item) lines
unfolding set_line
set_line-none item [] = refl
set_line-none item (line ∷ lines) =
    let rest = set_line-none item lines in ap (cond (nat_eq item line.0) lines) (ap (λ l. line ∷ l) rest)

-- a set to more is an insert
pub set_line-some : (item quantity : ℕ) (lines : List (ℕ × ℕ)) → (quantity == 0) ≡ false
    → set_line item quantity lines ≡ insert_entry nat_eq lines item quantity
unfolding set_line
set_line-some item quantity [] some = rw some refl
set_line-some item quantity (line ∷ lines) some = let rest = set_line-some item quantity lines some in rw (some, rest) refl

pub some_units : (quantity : ℕ) → 1 ≤ quantity → (quantity == 0) ≡ false
some_units quantity some = search (rules, some)

-- lines stay within their bounds
pub set_line_kept : (item quantity : ℕ) (lines : List (ℕ × ℕ)) → quantity ≤ quantity_limit → is_too_many item quantity lines ≡ false
    → AreLines lines → AreLines (set_line item quantity lines)
set_line_kept item quantity lines few fits are = record {
  few = set_line_few item quantity lines fits are.few;
  quantities = set_line_all (λ l. IsQuantity l.1) item quantity lines (λ some. record { some = omega arith; few = few }) are.quantities;
}

-- lines of distinct items, put in one after another
pub insert_next : (lines : List (ℕ × ℕ)) (n : ℕ) (d : ℕ × ℕ) → AllPairs (λ a b. a.0 ≢ b.0) lines → n < length lines
    → insert_entry nat_eq (take n lines) (get_or lines n d).0 (get_or lines n d).1 ≡ take (suc n) lines
insert_next [] n d distinct within = absurd (omega arith)
insert_next (line ∷ lines) zero d distinct within = refl
insert_next (line ∷ lines) (suc n) d distinct within =
    let apart : line.0 ≢ (get_or lines n d).0 = distinct 0 (suc n) d (omega arith) within in
    let other : eqb (get_or lines n d).0 line.0 ≡ false = ne_eqb (get_or lines n d).0 line.0 (λ same. apart (sym same)) in
    let rest = insert_next lines n d (λ i j e lt inside. distinct (suc i) (suc j) e (omega arith) (omega arith)) (omega arith) in
    rw (other, rest) refl
