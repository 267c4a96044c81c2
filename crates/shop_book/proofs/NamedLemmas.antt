-- A customer is found by decoding the user name.
use Rattle.std.proofs.Common.{◌≡◌, ◌≢◌, ℕ, zero, suc, ◌-◌, ◌<◌, ◌^◌, Bool, true, false, cond, List, [], ◌∷◌, length, Option, Some, None, option_map, slice_get, refl, sym, ◌∙◌, ap, subst, arith}
use Rattle.std.specs.List.{find}
use Rattle.std.specs.Str.{bytes_eq}
use Rattle.std.proofs.lemmas.List.{length-map}
use Rattle.std.proofs.lemmas.Option.{slice_get_within, get_or_from_slice_get}
use Rattle.std.proofs.lemmas.Slice.Eq.{bytes_eq-Decides}
use Rattle.shop_text.specs.Texts.{digsyl}
use Rattle.shop_model.specs.rows.Lookups.{row_numbered}
use Rattle.shop_model.specs.rows.Rows.{CustomerRow}
use Rattle.shop_model.specs.rows.Sound.{Has}
use Rattle.shop_text.proofs.cited.Syllables.{digsyl_injective}
use Rattle.shop_history.proofs.cited.Found.{found_at, found_has}
use Rattle.shop_history.proofs.cited.Places.{is_there, some_row, all_numbered, id_numbered}
use Rattle.shop_book.specs.Named.{AreNamed, named_id}

-- where a row passes the test, one is found
pub some_found : {A : Type 0} (p : A → Bool) (xs : List A) (i : ℕ) (x : A) → slice_get xs i ≡ Some x → p x ≡ true → find p xs ≡ None → ⊥
some_found p [] i x at passes none = absurd cc
some_found {A} p (y ∷ ys) zero x at passes none =
    let here : p y ≡ true = (let same : y ≡ x = cc in ap p same ∙ passes) in
    let found : Some y ≡ None = sym (ap (λ (b : Bool). cond b (Some y) (find p ys)) here) ∙ none in
    absurd cc
some_found {A} p (y ∷ ys) (suc i) x at passes none = by (p y) none (some_found p ys i x at passes)
  where
    by : (b : Bool) → cond b (Some y) (find p ys) ≡ None → (find p ys ≡ None → ⊥) → ⊥
    by true is rest = absurd cc
    by false is rest = rest is

module _ (customers : List CustomerRow) (named : AreNamed customers) (user : List ℕ) where
  abbrev Named : CustomerRow → Bool
  Named c = bytes_eq c.user user

  few : length customers < 2 ^ 32
  few = rw length-map at named.ids.fits

  -- the name of who is found spells the id
  spells : (c : CustomerRow) → find Named customers ≡ Some c → digsyl c.id ≡ user
  spells c is =
      let found = found_at Named customers c is in
      let at : c.user ≡ digsyl c.id = subst (λ (x : CustomerRow). x.user ≡ digsyl x.id) (get_or_from_slice_get customers found.place c c found.at) (named.users found.place c (slice_get_within customers found.place c found.at)) in
      sym at ∙ (bytes_eq-Decides c.user user).0 found.passes

  has : (c : CustomerRow) → find Named customers ≡ Some c → Has (length customers) c.id
  has c is = found_has Named (λ (x : CustomerRow). x.id) customers c named.ids is

  -- no id is spelled so
  pub id_none : ((n : ℕ) → n < 2 ^ 32 → digsyl n ≢ user) → None ≡ named_id customers user
  id_none none = by (find Named customers) refl
    where
      by : (found : Option CustomerRow) → find Named customers ≡ found → None ≡ option_map (λ c. c.id) found
      by None is = refl
      by (Some c) is = absurd (none c.id (omega (arith, (has c is).last, few)) (spells c is))

  module _ (n : ℕ) (fits : n < 2 ^ 32) (spelled : digsyl n ≡ user) where
    id_is : (c : CustomerRow) → find Named customers ≡ Some c → c.id ≡ n
    id_is c is = digsyl_injective c.id n (omega (arith, (has c is).last, few)) (omega (arith, fits)) (spells c is ∙ sym spelled)

    -- the customer with this id is there
    pub id_there : (row : CustomerRow) → row_numbered customers n ≡ Some row → Some n ≡ named_id customers user
    id_there row there = by (find Named customers) refl
      where
        by : (found : Option CustomerRow) → find Named customers ≡ found → Some n ≡ option_map (λ c. c.id) found
        by (Some c) is = ap Some (sym (id_is c is))
        by None is =
            let id : row.id ≡ n = id_numbered (λ (x : CustomerRow). x.id) customers n row named.ids there in
            let user_is : row.user ≡ user = all_numbered (λ (x : CustomerRow). x.user ≡ digsyl x.id) customers n row there named.users ∙ ap digsyl id ∙ spelled in
            absurd (some_found Named customers (n - 1) row (is_there customers n row there).at ((bytes_eq-Decides row.user user).1 user_is) is)

    -- or it is not, and no one has the name
    pub id_absent : row_numbered customers n ≡ None → None ≡ named_id customers user
    id_absent gone = by (find Named customers) refl
      where
        by : (found : Option CustomerRow) → find Named customers ≡ found → None ≡ option_map (λ c. c.id) found
        by None is = refl
        by (Some c) is =
            let some = some_row customers n (subst (Has (length customers)) (id_is c is) (has c is)) in
            let apart : None ≡ Some some.0 = sym gone ∙ some.1 in
            absurd cc
