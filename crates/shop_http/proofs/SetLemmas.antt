-- The sets of a request, read one after another.
use Rattle.std.proofs.Common.{◌≡◌, ℕ, ◌<◌, ◌≤◌, List, [], ◌∷◌, ◌++◌, map, length, Option, Some, None, refl, sym, ap, ◌∙◌, append_assoc, append-nil}
use Rattle.std.specs.List.{cons_option, filter_map}
use Rattle.std.specs.Option.{option_map, option_and_then}
use Rattle.std.proofs.lemmas.Bool.{le-leb, lt-leb}
use Rattle.std.proofs.lemmas.Iterator.Adapters.{option_map_id}
use Rattle.shop_model.specs.rows.Limits.{sets_limit}
use Rattle.shop_http.specs.Forms.{Pair, decoded_text, decoded}
use Rattle.shop_http.specs.Sets.{set_asked, SetNothing, all_of, few, sets_behind, sets_asked}

-- no pairs set nothing
pub sets_behind-nil : (sets : List (ℕ × ℕ)) → sets_behind sets [] ≡ Some sets
unfolding all_of
sets_behind-nil sets = ap (λ all. Some all) (append-nil sets)

-- one more pair

pub sets_behind-other : (sets : List (ℕ × ℕ)) (pair : Pair) (pairs : List Pair)
    → set_asked pair ≡ None → sets_behind sets (pair ∷ pairs) ≡ sets_behind sets pairs
sets_behind-other sets pair pairs other = rw other refl

pub sets_behind-bad : (sets : List (ℕ × ℕ)) (pair : Pair) (pairs : List Pair)
    → set_asked pair ≡ Some None → sets_behind sets (pair ∷ pairs) ≡ None
unfolding all_of
sets_behind-bad sets pair pairs bad = rw bad refl

one_more : (sets : List (ℕ × ℕ)) (set : ℕ × ℕ) (others : Option (List (ℕ × ℕ)))
    → option_map (λ more. sets ++ more) (option_map (λ values. set ∷ values) others)
    ≡ option_map (λ more. (sets ++ set ∷ []) ++ more) others
one_more sets set None = refl
one_more sets set (Some values) = ap (λ all. Some all) (sym (append_assoc sets (set ∷ []) values))

pub sets_behind-one : (sets : List (ℕ × ℕ)) (pair : Pair) (set : ℕ × ℕ) (pairs : List Pair)
    → set_asked pair ≡ Some (Some set) → sets_behind sets (pair ∷ pairs) ≡ sets_behind (sets ++ set ∷ []) pairs
unfolding all_of
sets_behind-one sets pair set pairs one = rw one (one_more sets set (all_of (filter_map set_asked pairs)))

-- pairs that set nothing

pub nothing-next : (left left' : List Pair) (name value : List ℕ) → left ≡ (name, value) ∷ left'
    → set_asked (decoded_text name, decoded_text value) ≡ None → SetNothing (map decoded left') → SetNothing (map decoded left)
nothing-next left left' name value is one others =
    ap (λ pairs. filter_map set_asked (map decoded pairs)) is
    ∙ ap (λ asked. cons_option asked (filter_map set_asked (map decoded left'))) one ∙ others

pub sets_asked-nothing : (pairs : List Pair) → SetNothing pairs → sets_asked pairs ≡ Some []
unfolding sets_asked all_of
sets_asked-nothing pairs nothing = rw nothing refl

-- the pairs of two texts

pub sets_behind-append : (sets : List (ℕ × ℕ)) (pairs others : List Pair)
    → sets_behind sets (pairs ++ others) ≡ option_and_then (λ more. sets_behind more others) (sets_behind sets pairs)
sets_behind-append sets [] others = rw (sets_behind-nil sets) refl
sets_behind-append sets (pair ∷ pairs) others = by_case (set_asked pair) refl (λ more. sets_behind-append more pairs others)
  where
    then : Option (List (ℕ × ℕ)) → Option (List (ℕ × ℕ))
    then = option_and_then (λ more. sets_behind more others)

    by_case : (asked : Option (Option (ℕ × ℕ))) → set_asked pair ≡ asked
        → ((more : List (ℕ × ℕ)) → sets_behind more (pairs ++ others) ≡ then (sets_behind more pairs))
        → sets_behind sets (pair ∷ (pairs ++ others)) ≡ then (sets_behind sets (pair ∷ pairs))
    by_case None other later =
        sets_behind-other sets pair (pairs ++ others) other ∙ later sets ∙ ap then (sym (sets_behind-other sets pair pairs other))
    by_case (Some None) bad later =
        sets_behind-bad sets pair (pairs ++ others) bad ∙ ap then (sym (sets_behind-bad sets pair pairs bad))
    by_case (Some (Some set)) one later =
        sets_behind-one sets pair set (pairs ++ others) one ∙ later (sets ++ set ∷ [])
        ∙ ap then (sym (sets_behind-one sets pair set pairs one))

-- all that a request sets

pub asked-behind : (pairs : List Pair) → sets_asked pairs ≡ option_and_then few (sets_behind [] pairs)
unfolding sets_asked
asked-behind pairs = ap (option_and_then few) (sym (option_map_id (all_of (filter_map set_asked pairs))))

pub sets_asked-many : (pairs : List Pair) (sets : List (ℕ × ℕ)) → sets_behind [] pairs ≡ Some sets → sets_limit < length sets → sets_asked pairs ≡ None
sets_asked-many pairs sets all many = asked-behind pairs ∙ ap (option_and_then few) all ∙ rw (lt-leb _ _ many) refl

pub sets_asked-few : (pairs : List Pair) (sets : List (ℕ × ℕ)) → sets_behind [] pairs ≡ Some sets → length sets ≤ sets_limit → sets_asked pairs ≡ Some sets
sets_asked-few pairs sets all short = asked-behind pairs ∙ ap (option_and_then few) all ∙ rw (le-leb _ _ short) refl
