-- Rows by their numbers, in lists that are written and that grow.
use Rattle.std.proofs.Common.{◌≡◌, ℕ, zero, suc, ◌+◌, ◌-◌, ◌<◌, cond, true, false, List, [], ◌∷◌, ◌++◌, length, map, get_or, All, Some, None, slice_get, slice_set, eqb, refl, sym, ◌∙◌, ap, subst, ⊎_elim, arith}
use Rattle.std.proofs.Math.Seq.{map-set_same}
use Rattle.std.proofs.lemmas.Bool.{eqb-false, cond-true, cond-false, eq-eqb, ne_eqb, cases_eq}
use Rattle.std.proofs.lemmas.Option.{slice_get_within, slice_get-get_or, get_or_from_slice_get}
use Rattle.shop_model.specs.rows.Lookups.{row_numbered}
use Rattle.shop_model.specs.rows.Sound.{Has, Runs}
use Rattle.shop_model.proofs.cited.Lists.{id_of_place}

module _ {A : Type 0} where
  set_other : (xs : List A) (i j : ℕ) (y : A) → (j ≡ i → ⊥) → slice_get (slice_set xs i y) j ≡ slice_get xs j
  set_other [] i j y apart = refl
  set_other (z ∷ xs) zero zero y apart = absurd (apart refl)
  set_other (z ∷ xs) zero (suc j) y apart = refl
  set_other (z ∷ xs) (suc i) zero y apart = refl
  set_other (z ∷ xs) (suc i) (suc j) y apart = set_other xs i j y (λ e. apart (ap suc e))

  push_other : (xs : List A) (j : ℕ) (y : A) → (j ≡ length xs → ⊥) → slice_get (xs ++ y ∷ []) j ≡ slice_get xs j
  push_other [] zero y apart = absurd (apart refl)
  push_other [] (suc j) y apart = refl
  push_other (z ∷ xs) zero y apart = refl
  push_other (z ∷ xs) (suc j) y apart = push_other xs j y (λ e. apart (ap suc e))

  pub push_here : (xs : List A) (y : A) → slice_get (xs ++ y ∷ []) (length xs) ≡ Some y
  push_here [] y = refl
  push_here (z ∷ xs) y = push_here xs y

  -- a row that is there has a number above 0, and stands in its place
  pub record IsThere (xs : List A) (id : ℕ) (x : A) : Type 0 where
    pub above : 0 < id
    pub at : slice_get xs (id - 1) ≡ Some x

  pub is_there : (xs : List A) (id : ℕ) (x : A) → row_numbered xs id ≡ Some x → IsThere xs id x
  is_there xs id x is =
      elim (eqb id 0) as (λ b. b ≡ eqb id 0 → cond b None (slice_get xs (id - 1)) ≡ Some x → IsThere xs id x) [
        | true ↦ (λ zero_is some. absurd cc)
        | false ↦ (λ apart some. record { above = (let above : id ≡ 0 → ⊥ = eqb-false id 0 (sym apart) in omega arith); at = some })
      ] refl is

  pub row_there : (xs : List A) (id : ℕ) (x : A) → IsThere xs id x → row_numbered xs id ≡ Some x
  row_there xs id x there = cond-false _ _ _ (ne_eqb id 0 (λ e. omega (arith, e, there.above))) ∙ there.at

  -- two lists have the same row of a number where they have the same in its place
  row_same : (xs ys : List A) (id : ℕ) → (0 < id → slice_get xs (id - 1) ≡ slice_get ys (id - 1)) → row_numbered xs id ≡ row_numbered ys id
  row_same xs ys id same = ⊎_elim
      (λ e. cond-true _ _ _ (eq-eqb id 0 e) ∙ sym (cond-true _ _ _ (eq-eqb id 0 e)))
      (λ (e : id ≡ 0 → ⊥). cond-false _ _ _ (ne_eqb id 0 e) ∙ same (omega arith) ∙ sym (cond-false _ _ _ (ne_eqb id 0 e)))
      (cases_eq id 0)

  -- a row in the place of another
  pub row_set_apart : (xs : List A) (id other : ℕ) (y : A) → 0 < id → (other ≡ id → ⊥) → row_numbered (slice_set xs (id - 1) y) other ≡ row_numbered xs other
  row_set_apart xs id other y above apart = row_same (slice_set xs (id - 1) y) xs other (λ some. set_other xs (id - 1) (other - 1) y (λ e. apart (omega (arith, above))))

  pub row_set_other : (xs : List A) (id other : ℕ) (x y : A) → row_numbered xs id ≡ Some x → (other ≡ id → ⊥) → row_numbered (slice_set xs (id - 1) y) other ≡ row_numbered xs other
  row_set_other xs id other x y is apart = row_set_apart xs id other y (is_there xs id x is).above apart

  -- a row behind the others
  pub row_push_other : (xs : List A) (other : ℕ) (y : A) → (other ≡ length xs + 1 → ⊥) → row_numbered (xs ++ y ∷ []) other ≡ row_numbered xs other
  row_push_other xs other y apart = row_same (xs ++ y ∷ []) xs other (λ above. push_other xs (other - 1) y (λ e. apart (omega arith)))

  -- what is seen of all rows, where another row comes of which the same is seen
  pub seen_set : {B : Type 0} (see : A → B) (xs : List A) (id : ℕ) (x y : A) → row_numbered xs id ≡ Some x → see y ≡ see x → map see (slice_set xs (id - 1) y) ≡ map see xs
  seen_set see xs id x y is same =
      let there : IsThere xs id x = is_there xs id x is in
      map-set_same see xs (id - 1) y x (same ∙ ap see (sym (get_or_from_slice_get xs (id - 1) x x there.at)))

  -- a row that is there has a number that there is
  pub has_row : (xs : List A) (id : ℕ) (x : A) → row_numbered xs id ≡ Some x → Has (length xs) id
  has_row xs id x is =
      let there : IsThere xs id x = is_there xs id x is in
      record { first = omega (arith, there.above); last = omega (arith, there.above, slice_get_within xs (id - 1) x there.at) }

  -- a number that there is has a row
  pub some_row : (xs : List A) (id : ℕ) → Has (length xs) id → (x : A) × (row_numbered xs id ≡ Some x)
  some_row [] id has = absurd (omega (arith, has.first, has.last))
  some_row (x ∷ xs) id has = (
    get_or (x ∷ xs) (id - 1) x,
    cond-false _ _ _ (ne_eqb id 0 (λ e. omega (arith, e, has.first))) ∙ slice_get-get_or (x ∷ xs) (id - 1) x (omega (arith, has.first, has.last)),
  )

  -- what holds of all rows holds of one
  pub all_numbered : (P : A → Type 0) (xs : List A) (id : ℕ) (x : A) → row_numbered xs id ≡ Some x → All P xs → P x
  all_numbered P xs id x is all =
      let there : IsThere xs id x = is_there xs id x is in
      subst P (get_or_from_slice_get xs (id - 1) x x there.at) (all (id - 1) x (slice_get_within xs (id - 1) x there.at))

  -- where ids run from 1, a row's id is its number
  pub id_numbered : (id_of : A → ℕ) (xs : List A) (id : ℕ) (x : A) → Runs (map id_of xs) → row_numbered xs id ≡ Some x → id_of x ≡ id
  id_numbered id_of xs id x runs is =
      let there : IsThere xs id x = is_there xs id x is in
      ap id_of (sym (get_or_from_slice_get xs (id - 1) x x there.at)) ∙ id_of_place id_of xs (id - 1) x runs (slice_get_within xs (id - 1) x there.at) ∙ omega (arith, there.above)
