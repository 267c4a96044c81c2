-- What the lines of a cart keep as a quantity is set.
use Rattle.std.proofs.Common.{◌≡◌, ◌≢◌, ℕ, ◌+◌, ◌<◌, ◌≤◌, Bool, true, false, cond, not, ◌&&◌, nat_eq, eqb, ltb, List, [], ◌∷◌, length, is_some, All, subst, arith}
use Rattle.std.specs.Map.{lookup}
use Rattle.std.proofs.lemmas.Bool.{eqb-true, eqb-false, ltb-true, not-false, cond_both}
use Rattle.std.proofs.lemmas.Grind.{common_steps}
use Rattle.std.proofs.lemmas.List.Elements.{All-cons, All-head, All-tail}
use Rattle.shop_model.specs.trade.Carts.{set_line, is_too_many}
use Rattle.shop_model.specs.rows.Limits.{lines_limit}

-- what holds of all lines, and of the new one, holds of all lines after
pub set_line_all : (P : ℕ × ℕ → Type 0) (item quantity : ℕ) (lines : List (ℕ × ℕ)) → (quantity ≢ 0 → P (item, quantity)) → All P lines → All P (set_line item quantity lines)
unfolding set_line
set_line_all P item quantity [] new all =
    cond_both (eqb quantity 0) [] ((item, quantity) ∷ []) (All P) (λ _. all) (λ some. All-cons P (item, quantity) [] (new (eqb-false quantity 0 some)) all)
set_line_all P item quantity (line ∷ lines) new all =
    let rest : All P lines = All-tail P line lines all in
    cond_both (eqb item line.0) (cond (eqb quantity 0) lines ((line.0, quantity) ∷ lines)) (line ∷ set_line item quantity lines) (All P)
    (λ here. cond_both (eqb quantity 0) lines ((line.0, quantity) ∷ lines) (All P) (λ _. rest)
    (λ some. All-cons P (line.0, quantity) lines (subst (λ i. P (i, quantity)) (eqb-true item line.0 here) (new (eqb-false quantity 0 some))) rest))
    (λ apart. All-cons P line (set_line item quantity lines) (All-head P line lines all) (set_line_all P item quantity lines new rest))

-- a line more only where a quantity is set of an item that has none
set_line_length : (item quantity : ℕ) (lines : List (ℕ × ℕ))
    → length (set_line item quantity lines) ≤ length lines + cond (not (eqb quantity 0) && not (is_some (lookup (nat_eq item) lines))) 1 0
unfolding set_line
set_line_length item quantity [] = grind (arith, common_steps)
set_line_length item quantity (line ∷ lines) = grind (arith, common_steps, set_line_length item quantity lines)

length_fits : (is_set is_new : Bool) (before after limit : ℕ) → (is_set && is_new && not (ltb before limit)) ≡ false → before ≤ limit
    → after ≤ before + cond (is_set && is_new) 1 0 → after ≤ limit
length_fits true true before after limit fits few grown =
    let less : before < limit = ltb-true before limit (not-false (ltb before limit) fits) in omega (arith, less, grown)
length_fits true false before after limit fits few grown = omega (arith, few, grown)
length_fits false is_new before after limit fits few grown = omega (arith, few, grown)

-- few lines stay few, where the new one is not too many
pub set_line_few : (item quantity : ℕ) (lines : List (ℕ × ℕ)) → is_too_many item quantity lines ≡ false → length lines ≤ lines_limit → length (set_line item quantity lines) ≤ lines_limit
set_line_few item quantity lines fits few =
    length_fits (not (eqb quantity 0)) (not (is_some (lookup (nat_eq item) lines))) (length lines) _ lines_limit fits few (set_line_length item quantity lines)
