-- The lines of a cart stay fit as quantities are set.
use Rattle.std.proofs.Common.{◌≡◌, ◌≢◌, ℕ, suc, ◌+◌, ◌%◌, ◌<◌, ◌≤◌, Bool, true, false, cond, eqb, ltb, List, [], ◌∷◌, length, Option, Some, None, All, AllPairs, refl, sym, arith}
use Rattle.std.proofs.lemmas.Bool.{eqb-false, ltb-false, or_parts, cond_both}
use Rattle.std.proofs.lemmas.List.Elements.{All-nil, All-cons}
use Rattle.std.proofs.lemmas.List.Kept.{AllPairs-cons}
use Rattle.std.proofs.lemmas.Nat.{mod_below}
use Rattle.shop_model.specs.declared.refusal.Refusal.{Refusal}
use Rattle.shop_model.specs.asked.CartAsked.{CartAsked}
use Rattle.shop_model.specs.trade.Carts.{set_line, set_lines, wanted, or_drawn, cart_lines, is_too_many, check_line, first_of, check_lines}
use Rattle.shop_model.specs.rows.Limits.{lines_limit, quantity_limit}
use Rattle.shop_model.specs.rows.Sound.{Has, IsQuantity}
use Rattle.shop_model.proofs.cited.SetLines.{set_line_all, set_line_few}

-- lines of distinct items
abbrev pub Apart : ℕ × ℕ → ℕ × ℕ → Type 0
Apart one other = one.0 ≢ other.0

-- few lines, of distinct items that there are, each of a quantity that a line may have
pub record AreFit (items : ℕ) (lines : List (ℕ × ℕ)) : Type 0 where
  pub few : length lines ≤ lines_limit
  pub distinct : AllPairs Apart lines
  pub quantities : All (λ l. IsQuantity l.1) lines
  pub exist : All (λ l. Has items l.0) lines

-- lines stay of distinct items
set_line_distinct : (item quantity : ℕ) (lines : List (ℕ × ℕ)) → AllPairs Apart lines → AllPairs Apart (set_line item quantity lines)
unfolding set_line
set_line_distinct item quantity [] distinct =
    cond_both (eqb quantity 0) [] ((item, quantity) ∷ []) (AllPairs Apart) (λ _. distinct)
    (λ _. AllPairs-cons Apart (item, quantity) [] (All-nil (Apart (item, quantity))) distinct)
set_line_distinct item quantity (line ∷ lines) distinct =
    let rest : AllPairs Apart lines = λ i j d lt within. distinct (suc i) (suc j) d (omega arith) (omega arith) in
    let head : All (Apart line) lines = λ k d within. distinct 0 (suc k) d (omega arith) (omega arith) in
    cond_both (eqb item line.0) (cond (eqb quantity 0) lines ((line.0, quantity) ∷ lines)) (line ∷ set_line item quantity lines) (AllPairs Apart)
    (λ here. cond_both (eqb quantity 0) lines ((line.0, quantity) ∷ lines) (AllPairs Apart) (λ _. rest)
    (λ _. AllPairs-cons Apart (line.0, quantity) lines head rest))
    (λ apart. AllPairs-cons Apart line (set_line item quantity lines)
    (set_line_all (Apart line) item quantity lines (λ _. λ same. eqb-false item line.0 apart (sym same)) head)
    (set_line_distinct item quantity lines rest))

-- a quantity that can be set

record MaySet (items item quantity : ℕ) (lines : List (ℕ × ℕ)) : Type 0 where
  exists : Has items item
  few : quantity ≤ quantity_limit
  fits : is_too_many item quantity lines ≡ false

cond_none : (b : Bool) (refusal : Refusal) (other : Option Refusal) → cond b (Some refusal) other ≡ None → (b ≡ false) × (other ≡ None)
cond_none true refusal other none = absurd cc
cond_none false refusal other none = (refl, none)

may_set : (items item quantity : ℕ) (lines : List (ℕ × ℕ)) → check_line items item quantity lines ≡ None → MaySet items item quantity lines
unfolding check_line
may_set items item quantity lines passes =
    let one = cond_none _ _ _ passes in
    let two = cond_none _ _ _ one.1 in
    let three = cond_none _ _ _ two.1 in
    let there = or_parts (eqb item 0) (ltb items item) one.0 in
    record {
      exists = record { first = (let some : item ≢ 0 = eqb-false item 0 there.0 in omega arith); last = ltb-false items item there.1 };
      few = ltb-false quantity_limit quantity two.0;
      fits = three.0;
    }

set_line_fit : (items item quantity : ℕ) (lines : List (ℕ × ℕ)) → check_line items item quantity lines ≡ None → AreFit items lines → AreFit items (set_line item quantity lines)
set_line_fit items item quantity lines passes fit =
    let may : MaySet items item quantity lines = may_set items item quantity lines passes in
    record {
      few = set_line_few item quantity lines may.fits fit.few;
      distinct = set_line_distinct item quantity lines fit.distinct;
      quantities = set_line_all (λ l. IsQuantity l.1) item quantity lines (λ some. record { some = omega arith; few = may.few }) fit.quantities;
      exist = set_line_all (λ l. Has items l.0) item quantity lines (λ _. may.exists) fit.exist;
    }

first_none : (one other : Option Refusal) → first_of one other ≡ None → (one ≡ None) × (other ≡ None)
first_none None other none = (refl, none)
first_none (Some refusal) other none = absurd cc

set_lines_fit : (items : ℕ) (sets lines : List (ℕ × ℕ)) → check_lines items sets lines ≡ None → AreFit items lines → AreFit items (set_lines sets lines)
unfolding set_lines check_lines
set_lines_fit items [] lines passes fit = fit
set_lines_fit items (set ∷ sets) lines passes fit =
    let both = first_none (check_line items set.0 set.1 lines) (check_lines items sets (set_line set.0 set.1 lines)) passes in
    set_lines_fit items sets (set_line set.0 set.1 lines) both.1 (set_line_fit items set.0 set.1 lines both.0 fit)

-- no lines, and a line of a drawn item

pub none_fit : (items : ℕ) → AreFit items []
none_fit items = record {
  few = omega arith;
  distinct = λ i j d lt within. absurd (omega arith);
  quantities = All-nil (λ (l : ℕ × ℕ). IsQuantity l.1);
  exist = All-nil (λ (l : ℕ × ℕ). Has items l.0);
}

or_drawn_fit : (items draw : ℕ) (lines : List (ℕ × ℕ)) → 0 < items → AreFit items lines → AreFit items (or_drawn items draw lines)
or_drawn_fit items draw [] some fit =
    let drawn : draw % items < items = mod_below draw items some in
    record {
      few = omega arith;
      distinct = λ i j d lt within. absurd (omega arith);
      quantities = All-cons (λ (l : ℕ × ℕ). IsQuantity l.1) (1 + draw % items, 1) [] (record { some = omega arith; few = omega arith }) fit.quantities;
      exist = All-cons (λ (l : ℕ × ℕ). Has items l.0) (1 + draw % items, 1) [] (record { first = omega arith; last = omega arith }) fit.exist;
    }
or_drawn_fit items draw (line ∷ lines) some fit = fit

-- the lines of a request that is not refused
pub cart_lines_fit : (items : ℕ) (asked : CartAsked) (draw : ℕ) (lines : List (ℕ × ℕ)) → 0 < items
    → check_lines items (wanted asked lines) lines ≡ None → AreFit items lines → AreFit items (cart_lines items asked draw lines)
unfolding cart_lines
cart_lines_fit items asked draw lines some passes fit = or_drawn_fit items draw (set_lines (wanted asked lines) lines) some (set_lines_fit items (wanted asked lines) lines passes fit)
