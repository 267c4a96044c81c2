-- Quantities set in two runs, one behind the other.
use Rattle.std.proofs.Common.{◌≡◌, ℕ, ◌+◌, ◌<◌, ◌≤◌, List, [], ◌∷◌, ◌++◌, length, get_or, take, drop, Option, Some, None, refl, sym, ap, ◌∙◌, subst}
use Rattle.std.proofs.lemmas.List.{take_more, take-append-drop, take_all}
use Rattle.shop_model.specs.declared.refusal.Refusal.{Refusal}
use Rattle.shop_model.specs.trade.Carts.{set_line, set_lines, wanted, or_drawn, cart_lines, check_line, check_lines, first_of}
use Rattle.shop_model.specs.asked.CartAsked.{CartAsked}
use Rattle.shop_pricing.specs.declared.filling.Filled.{Filled}
use Rattle.shop_pricing.specs.declared.filling.Filled.TheVariants.{Done, Refused, Memory}
use Rattle.shop_pricing.specs.Fills.{AreSet, IsDrawn, IsFilled}

first_of-assoc : (a b c : Option Refusal) → first_of (first_of a b) c ≡ first_of a (first_of b c)
first_of-assoc None b c = refl
first_of-assoc (Some refusal) b c = refl

set_append : (xs ys lines : List (ℕ × ℕ)) → set_lines (xs ++ ys) lines ≡ set_lines ys (set_lines xs lines)
unfolding set_lines
set_append [] ys lines = refl
set_append (x ∷ xs) ys lines = set_append xs ys (set_line x.0 x.1 lines)

check_append : (items : ℕ) (xs ys lines : List (ℕ × ℕ))
    → check_lines items (xs ++ ys) lines ≡ first_of (check_lines items xs lines) (check_lines items ys (set_lines xs lines))
unfolding check_lines set_lines
check_append items [] ys lines = refl
check_append items (x ∷ xs) ys lines =
    let next : List (ℕ × ℕ) = set_line x.0 x.1 lines in
    let one : Option Refusal = check_line items x.0 x.1 lines in
    ap (first_of one) (check_append items xs ys next)
    ∙ sym (first_of-assoc one (check_lines items xs next) (check_lines items ys (set_lines xs next)))

-- where the first run is done, the second says how both end
pub set_then : (items : ℕ) (xs ys old mid now : List (ℕ × ℕ)) (answer : Filled)
    → AreSet items xs old mid Done → AreSet items ys mid now answer → AreSet items (xs ++ ys) old now answer
set_then items xs ys old mid now answer first rest =
    let second : check_lines items (xs ++ ys) old ≡ check_lines items ys mid =
    check_append items xs ys old ∙ ap (λ (o : Option Refusal). first_of o (check_lines items ys (set_lines xs old))) first.0
    ∙ ap (λ (lines : List (ℕ × ℕ)). check_lines items ys lines) (sym first.1) in
    let made : set_lines ys mid ≡ set_lines (xs ++ ys) old =
    ap (λ (lines : List (ℕ × ℕ)). set_lines ys lines) first.1 ∙ sym (set_append xs ys old) in
    by answer second made rest
  where
    by : (answer : Filled) → check_lines items (xs ++ ys) old ≡ check_lines items ys mid → set_lines ys mid ≡ set_lines (xs ++ ys) old
        → AreSet items ys mid now answer → AreSet items (xs ++ ys) old now answer
    by Done second made rest = (second ∙ rest.0, rest.1 ∙ made)
    by (Refused refusal) second made rest = second ∙ rest
    by Memory second made rest = tt

-- a refusal of the first run is the refusal of both
pub set_refused : (items : ℕ) (xs ys old : List (ℕ × ℕ)) (refusal : Refusal)
    → check_lines items xs old ≡ Some refusal → check_lines items (xs ++ ys) old ≡ Some refusal
set_refused items xs ys old refusal is =
    check_append items xs ys old ∙ ap (λ (o : Option Refusal). first_of o (check_lines items ys (set_lines xs old))) is

-- one set more of a list
pub set_more : (items : ℕ) (sets old mid now : List (ℕ × ℕ)) (n : ℕ) (d : ℕ × ℕ) (answer : Filled) → n < length sets
    → AreSet items (take n sets) old mid Done → AreSet items (get_or sets n d ∷ []) mid now answer → AreSet items (take (n + 1) sets) old now answer
set_more items sets old mid now n d answer within before one =
    subst (λ (xs : List (ℕ × ℕ)). AreSet items xs old now answer) (sym (take_more sets n d within))
    (set_then items (take n sets) (get_or sets n d ∷ []) old mid now answer before one)

-- a refusal in the front of a list is the list's
pub front_refused : (items : ℕ) (sets old : List (ℕ × ℕ)) (n : ℕ) (refusal : Refusal)
    → check_lines items (take n sets) old ≡ Some refusal → check_lines items sets old ≡ Some refusal
front_refused items sets old n refusal is =
    subst (λ (xs : List (ℕ × ℕ)). check_lines items xs old ≡ Some refusal) (take-append-drop n sets)
    (set_refused items (take n sets) (drop n sets) old refusal is)

pub all_set : (items : ℕ) (sets old now : List (ℕ × ℕ)) (n : ℕ) → length sets ≤ n → AreSet items (take n sets) old now Done → AreSet items sets old now Done
all_set items sets old now n past are = subst (λ (xs : List (ℕ × ℕ)). AreSet items xs old now Done) (take_all n sets past) are

-- the drawn item comes last
pub drawn_last : (items : ℕ) (asked : CartAsked) (draw : ℕ) (old mid now : List (ℕ × ℕ)) (answer : Filled)
    → AreSet items (wanted asked old) old mid Done → IsDrawn items draw mid now answer → IsFilled items asked draw old now answer
unfolding cart_lines
drawn_last items asked draw old mid now Done are drawn = (are.0, drawn ∙ ap (or_drawn items draw) are.1)
drawn_last items asked draw old mid now (Refused refusal) are drawn = absurd drawn
drawn_last items asked draw old mid now Memory are drawn = tt
