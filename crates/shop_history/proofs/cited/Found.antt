-- The first row that passes a test, as rows are changed and come.
use Rattle.std.proofs.Common.{◌≡◌, ℕ, suc, ◌+◌, ◌-◌, ◌<◌, Bool, true, false, cond, List, [], ◌∷◌, ◌++◌, length, map, Option, Some, None, option_map, slice_get, refl, sym, ap, ◌∙◌, arith}
use Rattle.std.specs.List.{find}
use Rattle.std.specs.Option.{option_or}
use Rattle.std.proofs.lemmas.List.Folds.{find-append}
use Rattle.std.proofs.lemmas.Option.{slice_get_within, get_or_from_slice_get}
use Rattle.shop_model.specs.rows.Lookups.{row_numbered}
use Rattle.shop_model.specs.rows.Sound.{Has, Runs}
use Rattle.shop_model.proofs.cited.Lists.{id_of_place}
use Rattle.shop_history.proofs.cited.Places.{row_there}

module _ {A : Type 0} (p : A → Bool) where
  -- it stands in a place, and passes
  pub record IsFound (xs : List A) (x : A) : Type 0 where
    pub place : ℕ
    pub at : slice_get xs place ≡ Some x
    pub passes : p x ≡ true

  pub found_at : (xs : List A) (x : A) → find p xs ≡ Some x → IsFound xs x
  found_at [] x is = absurd cc
  found_at (y ∷ ys) x is = by (p y) refl (found_at ys x) is
    where
      by : (b : Bool) → p y ≡ b → (find p ys ≡ Some x → IsFound ys x) → cond b (Some y) (find p ys) ≡ Some x → IsFound (y ∷ ys) x
      by true passes rest here = record { place = 0; at = here; passes = (let same : y ≡ x = cc in ap p (sym same) ∙ passes) }
      by false fails rest later = let found = rest later in record { place = suc found.place; at = found.at; passes = found.passes }

  -- a row more is not found where one was found before, or where it fails the test
  pub found_pushed : (xs : List A) (y : A) (found : Option A) → find p xs ≡ found → (found ≡ None → p y ≡ true → ⊥) → find p (xs ++ y ∷ []) ≡ find p xs
  found_pushed xs y found is others = find-append p xs (y ∷ []) ∙ by found is others
    where
      last : (b : Bool) → p y ≡ b → (p y ≡ true → ⊥) → cond b (Some y) None ≡ None
      last true passes fails = absurd (fails passes)
      last false passes fails = refl

      by : (found : Option A) → find p xs ≡ found → (found ≡ None → p y ≡ true → ⊥) → option_or (find p xs) (find p (y ∷ [])) ≡ find p xs
      by None is others = ap (λ f. option_or f (find p (y ∷ []))) is ∙ last (p y) refl (others refl) ∙ sym is
      by (Some x) is others = ap (λ f. option_or f (find p (y ∷ []))) is ∙ sym is

-- where ids run from 1, its id is its number
pub found_numbered : {A : Type 0} (p : A → Bool) (id_of : A → ℕ) (xs : List A) (x : A) → Runs (map id_of xs) → find p xs ≡ Some x → row_numbered xs (id_of x) ≡ Some x
found_numbered p id_of xs x runs is =
    let found = found_at p xs x is in
    let id : id_of x ≡ 1 + found.place
    = ap id_of (sym (get_or_from_slice_get xs found.place x x found.at)) ∙ id_of_place id_of xs found.place x runs (slice_get_within xs found.place x found.at) in
    let before : id_of x - 1 ≡ found.place = omega (arith, id) in
    row_there xs (id_of x) x (record { above = omega (arith, id); at = ap (slice_get xs) before ∙ found.at })

-- it is one of the table's
pub found_has : {A : Type 0} (p : A → Bool) (id_of : A → ℕ) (xs : List A) (x : A) → Runs (map id_of xs) → find p xs ≡ Some x → Has (length xs) (id_of x)
found_has p id_of xs x runs is =
    let found = found_at p xs x is in
    let within : found.place < length xs = slice_get_within xs found.place x found.at in
    let id : id_of x ≡ 1 + found.place = ap id_of (sym (get_or_from_slice_get xs found.place x x found.at)) ∙ id_of_place id_of xs found.place x runs within in
    record { first = omega (arith, id); last = omega (arith, id, within) }

-- what is found of rows is found of what a test and a look see of them
pub found_alike : {A B C : Type 0} (f : A → B) (p : B → Bool) (look : B → C) (xs : List A)
    → option_map (λ x. look (f x)) (find (λ x. p (f x)) xs) ≡ option_map look (find p (map f xs))
found_alike f p look [] = refl
found_alike {A} {B} {C} f p look (x ∷ xs) = by (p (f x)) (found_alike f p look xs)
  where
    by : (b : Bool) → option_map (λ x. look (f x)) (find (λ x. p (f x)) xs) ≡ option_map look (find p (map f xs))
        → option_map (λ x. look (f x)) (cond b (Some x) (find (λ x. p (f x)) xs)) ≡ option_map look (cond b (Some (f x)) (find p (map f xs)))
    by true rest = refl
    by false rest = rest
