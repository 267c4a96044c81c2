-- Texts that are told apart, and the id of the first address that says one as addresses come.
use Rattle.std.proofs.Common.{◌≡◌, ℕ, ◌&&◌, ◌==◌, Bool, true, false, cond, List, [], ◌∷◌, ◌++◌, Option, Some, None, option_map, refl, sym, ◌∙◌, ap}
use Rattle.std.specs.Prelude.{bytes_eq, is_some}
use Rattle.std.specs.List.{find}
use Rattle.std.specs.Option.{option_or}
use Rattle.std.proofs.lemmas.Bool.{and_parts, eqb-true}
use Rattle.std.proofs.lemmas.List.Folds.{find-append}
use Rattle.std.proofs.lemmas.Slice.Eq.{bytes_eq-Decides}
use Rattle.shop_model.specs.declared.address.Address.{Address}
use Rattle.shop_model.specs.declared.address.AddressText.{AddressText}
use Rattle.shop_model.specs.trade.Buyers.{says_same}
use Rattle.shop_history.proofs.cited.Found.{found_pushed}
use Rattle.shop_book.specs.Said.{alike, said_id, AreSaid}

regroup : (p q r s t u : Bool) → (p && (q && (r && (s && (t && u))))) ≡ (((((p && q) && r) && s) && t) && u)
regroup false q r s t u = refl
regroup true false r s t u = refl
regroup true true false s t u = refl
regroup true true true false t u = refl
regroup true true true true t u = refl

alike_same : (a b : AddressText) → alike a b ≡ says_same a b
alike_same a b = regroup (bytes_eq a.street1 b.street1) (bytes_eq a.street2 b.street2) (bytes_eq a.city b.city) (bytes_eq a.state b.state) (bytes_eq a.zip b.zip) (a.country == b.country)

-- texts that pass the test are equal, and equal ones pass it

text_of : List ℕ → List ℕ → List ℕ → List ℕ → List ℕ → ℕ → AddressText
text_of street1 street2 city state zip country = record { street1 = street1; street2 = street2; city = city; state = state; zip = zip; country = country }

pub alike_is : (a b : AddressText) → alike a b ≡ true → a ≡ b
unfolding text_of
alike_is a b same =
    let street1 = and_parts (bytes_eq a.street1 b.street1) _ same in
    let street2 = and_parts (bytes_eq a.street2 b.street2) _ street1.1 in
    let city = and_parts (bytes_eq a.city b.city) _ street2.1 in
    let state = and_parts (bytes_eq a.state b.state) _ city.1 in
    let zip = and_parts (bytes_eq a.zip b.zip) (a.country == b.country) state.1 in
    ap (λ x. text_of x a.street2 a.city a.state a.zip a.country) ((bytes_eq-Decides a.street1 b.street1).0 street1.0)
    ∙ ap (λ x. text_of b.street1 x a.city a.state a.zip a.country) ((bytes_eq-Decides a.street2 b.street2).0 street2.0)
    ∙ ap (λ x. text_of b.street1 b.street2 x a.state a.zip a.country) ((bytes_eq-Decides a.city b.city).0 city.0)
    ∙ ap (λ x. text_of b.street1 b.street2 b.city x a.zip a.country) ((bytes_eq-Decides a.state b.state).0 state.0)
    ∙ ap (λ x. text_of b.street1 b.street2 b.city b.state x a.country) ((bytes_eq-Decides a.zip b.zip).0 zip.0)
    ∙ ap (λ x. text_of b.street1 b.street2 b.city b.state b.zip x) (eqb-true a.country b.country zip.1)

pub apart_unlike : (a b : AddressText) → (a ≡ b → ⊥) → alike a b ≡ false
apart_unlike a b apart = by (alike a b) refl
  where
    by : (x : Bool) → alike a b ≡ x → x ≡ false
    by true is = absurd (apart (alike_is a b is))
    by false is = refl

-- an address more

none_found : (found : Option Address) → option_map (λ a. a.id) found ≡ None → found ≡ None
none_found None is = refl
none_found (Some a) is = absurd cc

not_some : (id : Option ℕ) → is_some id ≡ false → id ≡ None
not_some None is = refl
not_some (Some n) is = absurd cc

module _ (rows : List Address) (row : Address) (text : AddressText) (ids : AddressText → Option ℕ) (are : AreSaid rows ids) (says : row.text ≡ text) where
  abbrev Says : AddressText → Address → Bool
  Says q a = says_same a.text q

  alike_row : (q : AddressText) → alike text q ≡ says_same row.text q
  alike_row q = ap (λ t. alike t q) (sym says) ∙ alike_same row.text q

  -- one that says what no other does
  pub said_new : (later : AddressText → Option ℕ) (id : ℕ) → id ≡ row.id → is_some (ids text) ≡ false → ((q : AddressText) → later q ≡ cond (alike text q) (Some id) (ids q)) → AreSaid (rows ++ row ∷ []) later
  said_new later id is_id absent changes = record { each = λ q. changes q ∙ by q (alike text q) refl }
    where
      by : (q : AddressText) (b : Bool) → alike text q ≡ b → cond b (Some id) (ids q) ≡ said_id (rows ++ row ∷ []) q
      by q true is =
          let none : find (Says q) rows ≡ None = none_found _ (sym (are.each q) ∙ ap ids (sym (alike_is text q is)) ∙ not_some (ids text) absent) in
          ap Some is_id
          ∙ sym (ap (option_map (λ (a : Address). a.id))
          (find-append (Says q) rows (row ∷ [])
          ∙ ap (λ (f : Option Address). option_or f (find (Says q) (row ∷ []))) none
          ∙ ap (λ (b : Bool). cond b (Some row) None) (sym (alike_row q) ∙ is)))
      by q false is =
          are.each q
          ∙ sym (ap (option_map (λ (a : Address). a.id)) (found_pushed (Says q) rows row _ refl
          (λ _ passes. absurd (let apart : true ≡ false = sym passes ∙ sym (alike_row q) ∙ is in cc))))

  -- one that says what another does
  pub said_again : is_some (ids text) ≡ true → AreSaid (rows ++ row ∷ []) ids
  said_again some = record {
    each = λ q.
        are.each q
        ∙ sym (ap (option_map (λ (a : Address). a.id)) (found_pushed (Says q) rows row (find (Says q) rows) refl
        (λ none passes.
        let absent : ids text ≡ None = ap ids (alike_is text q (alike_row q ∙ passes)) ∙ are.each q ∙ ap (option_map (λ (a : Address). a.id)) none in
        let apart : true ≡ false = sym some ∙ ap is_some absent in absurd cc)));
  }
