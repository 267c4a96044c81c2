-- The parameters by their names and places, and the value that one more pair keeps.
use Rattle.std.proofs.Common.{◌≡◌, ◌≢◌, ℕ, ◌==◌, ◌<◌, Bool, true, false, cond, List, [], ◌∷◌, length, Option, Some, None, refl, sym, ap, ◌∙◌, set}
use Rattle.std.specs.Borrow.{Bor}
use Rattle.std.specs.List.{find, list_all}
use Rattle.std.specs.Option.{is_some, option_or}
use Rattle.std.specs.Prelude.{slice_get, slice_index_or}
use Rattle.std.specs.Str.{bytes_eq}
use Rattle.std.proofs.lemmas.Bool.{eq-eqb, eqb-true, false≢true}
use Rattle.std.proofs.lemmas.List.{get_or-set_same, get_or-set_other}
use Rattle.std.proofs.lemmas.Option.{slice_get_within}
use Rattle.std.proofs.lemmas.Slice.Eq.{bytes_eq-Decides}
use Rattle.shop_model.specs.declared.parameter.Parameter.{Parameter}
use Rattle.shop_model.specs.declared.parameter.Parameter.TheVariants.{C, Cart, Item, Qty, Subject, Kind, Text, User, Pass, FirstName, LastName, Street1, Street2, City, State, Zip, Country, Phone, Email, Card, Number, Name, Expiry, Ship, Cost, Image, Thumb, Title, Author, Publisher, About, Srp, Stock, Pages, Backing}
use Rattle.shop_model.specs.asked.Parameters.{parameter_name}
use Rattle.shop_http.specs.Firsts.{kept}
use Rattle.shop_http.specs.Forms.{decoded_text, is_plain, value_of}
use Rattle.shop_http.specs.declared.requests.names.TheConstants.{PARAMETERS}
use Rattle.shop_http.specs.Names.{parameters, parameter_named, place_of}
use Rattle.shop_http.specs.Sets.{set_asked}
use Rattle.shop_http.proofs.DecodedLemmas.{decoded_text-plain}
use Rattle.shop_http.proofs.FirstLemmas.{none_behind}

-- each is found by its name and at its place

by_name : (parameter : Parameter) → parameter_named (parameter_name parameter) ≡ Some parameter
unfolding parameter_named parameters
by_name C = refl
by_name Cart = refl
by_name Item = refl
by_name Qty = refl
by_name Subject = refl
by_name Kind = refl
by_name Text = refl
by_name User = refl
by_name Pass = refl
by_name FirstName = refl
by_name LastName = refl
by_name Street1 = refl
by_name Street2 = refl
by_name City = refl
by_name State = refl
by_name Zip = refl
by_name Country = refl
by_name Phone = refl
by_name Email = refl
by_name Card = refl
by_name Number = refl
by_name Name = refl
by_name Expiry = refl
by_name Ship = refl
by_name Cost = refl
by_name Image = refl
by_name Thumb = refl
by_name Title = refl
by_name Author = refl
by_name Publisher = refl
by_name About = refl
by_name Srp = refl
by_name Stock = refl
by_name Pages = refl
by_name Backing = refl

by_place : (parameter : Parameter) → slice_get parameters (place_of parameter) ≡ Some parameter
unfolding parameters
by_place C = refl
by_place Cart = refl
by_place Item = refl
by_place Qty = refl
by_place Subject = refl
by_place Kind = refl
by_place Text = refl
by_place User = refl
by_place Pass = refl
by_place FirstName = refl
by_place LastName = refl
by_place Street1 = refl
by_place Street2 = refl
by_place City = refl
by_place State = refl
by_place Zip = refl
by_place Country = refl
by_place Phone = refl
by_place Email = refl
by_place Card = refl
by_place Number = refl
by_place Name = refl
by_place Expiry = refl
by_place Ship = refl
by_place Cost = refl
by_place Image = refl
by_place Thumb = refl
by_place Title = refl
by_place Author = refl
by_place Publisher = refl
by_place About = refl
by_place Srp = refl
by_place Stock = refl
by_place Pages = refl
by_place Backing = refl

pub place-within : (parameter : Parameter) → place_of parameter < PARAMETERS
unfolding parameters
place-within parameter = slice_get_within parameters (place_of parameter) parameter (by_place parameter)

same_place : (one other : Parameter) → place_of one ≡ place_of other → one ≡ other
same_place one other same =
    let both : Some one ≡ Some other = sym (by_place one) ∙ ap (slice_get parameters) same ∙ by_place other in
    cc

passes : {A : Type 0} (test : A → Bool) (xs : List A) (x : A) → find test xs ≡ Some x → test x ≡ true
passes test [] x is = cc
passes test (y ∷ ys) x is = go (test y) refl is (passes test ys x)
  where
    go : (first : Bool) → test y ≡ first → cond first (Some y) (find test ys) ≡ Some x
        → (find test ys ≡ Some x → test x ≡ true) → test x ≡ true
    go true holds is later = let same : y ≡ x = cc in ap test (sym same) ∙ holds
    go false fails is later = later is

-- the name of a parameter is its own

has_name : (name : List ℕ) (parameter : Parameter) → parameter_named name ≡ Some parameter → bytes_eq name (parameter_name parameter) ≡ true
unfolding parameter_named
has_name name parameter is = passes (λ parameter. bytes_eq name (parameter_name parameter)) parameters parameter is

other_name : (name : List ℕ) (parameter : Parameter) → parameter_named name ≢ Some parameter → bytes_eq name (parameter_name parameter) ≡ false
other_name name parameter other = go (bytes_eq name (parameter_name parameter)) refl
  where
    go : (same : Bool) → bytes_eq name (parameter_name parameter) ≡ same → same ≡ false
    go true is = absurd (other (ap parameter_named ((bytes_eq-Decides name (parameter_name parameter)).0 is) ∙ by_name parameter))
    go false is = refl

-- and stands for itself

plain_name : (parameter : Parameter) → list_all is_plain (parameter_name parameter) ≡ true
plain_name C = refl
plain_name Cart = refl
plain_name Item = refl
plain_name Qty = refl
plain_name Subject = refl
plain_name Kind = refl
plain_name Text = refl
plain_name User = refl
plain_name Pass = refl
plain_name FirstName = refl
plain_name LastName = refl
plain_name Street1 = refl
plain_name Street2 = refl
plain_name City = refl
plain_name State = refl
plain_name Zip = refl
plain_name Country = refl
plain_name Phone = refl
plain_name Email = refl
plain_name Card = refl
plain_name Number = refl
plain_name Name = refl
plain_name Expiry = refl
plain_name Ship = refl
plain_name Cost = refl
plain_name Image = refl
plain_name Thumb = refl
plain_name Title = refl
plain_name Author = refl
plain_name Publisher = refl
plain_name About = refl
plain_name Srp = refl
plain_name Stock = refl
plain_name Pages = refl
plain_name Backing = refl

pub named-encoded : (encoded : List ℕ) (parameter : Parameter) → parameter_named encoded ≡ Some parameter → decoded_text encoded ≡ encoded
named-encoded encoded parameter is =
    let same : encoded ≡ parameter_name parameter = (bytes_eq-Decides encoded (parameter_name parameter)).0 (has_name encoded parameter is) in
    decoded_text-plain encoded (ap (list_all is_plain) same ∙ plain_name parameter)

-- and begins no name that sets a quantity

own-sets-nothing : (parameter : Parameter) (text : List ℕ) → set_asked (parameter_name parameter, text) ≡ None
unfolding set_asked
own-sets-nothing C text = refl
own-sets-nothing Cart text = refl
own-sets-nothing Item text = refl
own-sets-nothing Qty text = refl
own-sets-nothing Subject text = refl
own-sets-nothing Kind text = refl
own-sets-nothing Text text = refl
own-sets-nothing User text = refl
own-sets-nothing Pass text = refl
own-sets-nothing FirstName text = refl
own-sets-nothing LastName text = refl
own-sets-nothing Street1 text = refl
own-sets-nothing Street2 text = refl
own-sets-nothing City text = refl
own-sets-nothing State text = refl
own-sets-nothing Zip text = refl
own-sets-nothing Country text = refl
own-sets-nothing Phone text = refl
own-sets-nothing Email text = refl
own-sets-nothing Card text = refl
own-sets-nothing Number text = refl
own-sets-nothing Name text = refl
own-sets-nothing Expiry text = refl
own-sets-nothing Ship text = refl
own-sets-nothing Cost text = refl
own-sets-nothing Image text = refl
own-sets-nothing Thumb text = refl
own-sets-nothing Title text = refl
own-sets-nothing Author text = refl
own-sets-nothing Publisher text = refl
own-sets-nothing About text = refl
own-sets-nothing Srp text = refl
own-sets-nothing Stock text = refl
own-sets-nothing Pages text = refl
own-sets-nothing Backing text = refl

pub sets-nothing : (name text : List ℕ) (parameter : Parameter) → parameter_named name ≡ Some parameter → set_asked (name, text) ≡ None
sets-nothing name text parameter is =
    ap (λ name. set_asked (name, text)) ((bytes_eq-Decides name (parameter_name parameter)).0 (has_name name parameter is))
    ∙ own-sets-nothing parameter text

-- the value that a pair gives

module _ (name text : List ℕ) (parameter : Parameter) where
  pub value-named : parameter_named name ≡ Some parameter → value_of ((name, text) ∷ []) parameter ≡ Some text
  value-named is = rw (has_name name parameter is) refl

  pub value-other : parameter_named name ≢ Some parameter → value_of ((name, text) ∷ []) parameter ≡ None
  value-other other = rw (other_name name parameter other) refl

-- what is kept once a pair is read

none_kept : (slot : Option (Bor (List ℕ))) → is_some slot ≡ false → kept slot ≡ None
none_kept None none = refl
none_kept (Some value) none = absurd (false≢true (sym none))

still_kept : (slot : Option (Bor (List ℕ))) (other : Option (List ℕ)) → is_some slot ≡ true → kept slot ≡ option_or (kept slot) other
still_kept None other some = absurd (false≢true some)
still_kept (Some value) other some = refl

-- the value that is kept of a parameter
abbrev at : List (Option (Bor (List ℕ))) → Parameter → Option (List ℕ)
at values parameter = kept (slice_index_or values (place_of parameter) None)

-- the same, or else the value of a pair
abbrev or_pair : List ℕ → List ℕ → Parameter → Option (List ℕ) → Option (List ℕ)
or_pair name text parameter value = option_or value (value_of ((name, text) ∷ []) parameter)

pub kept-other : (values : List (Option (Bor (List ℕ)))) (name text : List ℕ) (parameter : Parameter)
    → parameter_named name ≢ Some parameter → at values parameter ≡ or_pair name text parameter (at values parameter)
kept-other values name text parameter other =
    sym (ap (option_or (at values parameter)) (value-other name text parameter other) ∙ none_behind (at values parameter))

-- where a pair has the name of a parameter of which this is kept
module _ (values : List (Option (Bor (List ℕ)))) (name : List ℕ) (own : Parameter) (named : parameter_named name ≡ Some own)
    (slot : Option (Bor (List ℕ))) (there : kept slot ≡ at values own) where
  elsewhere : (parameter : Parameter) → (place_of parameter == place_of own) ≡ false → parameter_named name ≢ Some parameter
  elsewhere parameter apart found =
      let same : own ≡ parameter = cc in
      false≢true (sym apart ∙ eq-eqb (place_of parameter) (place_of own) (ap place_of (sym same)))

  pub kept-again : is_some slot ≡ true → (text : List ℕ) (parameter : Parameter)
      → at values parameter ≡ or_pair name text parameter (at values parameter)
  kept-again some text parameter = go (place_of parameter == place_of own) refl
    where
      go : (same : Bool) → (place_of parameter == place_of own) ≡ same → at values parameter ≡ or_pair name text parameter (at values parameter)
      go true same =
          let here : kept slot ≡ at values parameter =
          there ∙ ap (λ i. kept (slice_index_or values i None)) (sym (eqb-true (place_of parameter) (place_of own) same)) in
          sym here ∙ still_kept slot _ some ∙ ap (or_pair name text parameter) here
      go false apart = kept-other values name text parameter (elsewhere parameter apart)

  module _ (place : ℕ) (at_place : place ≡ place_of own) (has_place : place < length values) (none : is_some slot ≡ false) (value : Bor (List ℕ)) where
    -- the values when this one is kept too
    abbrev more : List (Option (Bor (List ℕ)))
    more = set values place (Some value)

    here : (parameter : Parameter) → place_of parameter ≡ place_of own
        → at more parameter ≡ or_pair name (decoded_text value.now) parameter (at values parameter)
    here parameter same =
        let is : own ≡ parameter = same_place own parameter (sym same) in
        let found : parameter_named name ≡ Some parameter = named ∙ ap (λ p. Some p) is in
        ap (λ i. kept (slice_index_or more i None)) (same ∙ sym at_place) ∙ ap kept (get_or-set_same values place (Some value) None has_place)
        ∙ sym
        (ap (or_pair name (decoded_text value.now) parameter)
        (ap (λ i. kept (slice_index_or values i None)) same ∙ sym there ∙ none_kept slot none)
        ∙ value-named name (decoded_text value.now) parameter found)

    pub kept-first : (parameter : Parameter) → at more parameter ≡ or_pair name (decoded_text value.now) parameter (at values parameter)
    kept-first parameter = go (place_of parameter == place_of own) refl
      where
        go : (same : Bool) → (place_of parameter == place_of own) ≡ same
            → at more parameter ≡ or_pair name (decoded_text value.now) parameter (at values parameter)
        go true same = here parameter (eqb-true (place_of parameter) (place_of own) same)
        go false apart =
            ap kept (get_or-set_other values place (place_of parameter) (Some value) None
            (λ same. false≢true (sym apart ∙ eq-eqb (place_of parameter) (place_of own) (same ∙ at_place))))
            ∙ kept-other values name (decoded_text value.now) parameter (elsewhere parameter apart)
