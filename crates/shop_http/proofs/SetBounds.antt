-- The bounds of the sets that a request may ask for.
use Rattle.std.proofs.Common.{◌≡◌, ℕ, ◌≤◌, Bool, true, false, List, [], ◌∷◌, length, take, drop, Option, Some, None, refl, ap, subst, arith}
use Rattle.std.specs.Prelude.{nat_le, if◌then◌else◌, codes, Ok}
use Rattle.std.specs.List.{All, cons_option, filter_map}
use Rattle.std.specs.Option.{option_map, option_and_then, ok_or}
use Rattle.std.specs.Str.{bytes_eq}
use Rattle.std.proofs.lemmas.Bool.Decides.{leb_tells}
use Rattle.std.proofs.lemmas.List.Elements.{All-nil, All-cons}
use Rattle.shop_model.specs.declared.parameter.Parameter.TheVariants.{Qty}
use Rattle.shop_model.specs.asked.CustomersAsked.{IsId}
use Rattle.shop_model.specs.rows.Limits.{quantity_limit, sets_limit}
use Rattle.shop_text.specs.Numbers.{number_of}
use Rattle.shop_http.specs.Forms.{Pair}
use Rattle.shop_http.specs.Sets.{quantity_of, set_of, set_asked, all_of, few, sets_asked}

few_is : (found sets : List (ℕ × ℕ)) → few found ≡ Some sets → (length sets ≤ sets_limit) × (found ≡ sets)
few_is found sets is = grind (arith, leb_tells)

few_of : (found : Option (List (ℕ × ℕ))) (sets : List (ℕ × ℕ)) → option_and_then few found ≡ Some sets
    → (length sets ≤ sets_limit) × (found ≡ Some sets)
few_of None sets is = cc
few_of (Some found) sets is = let few = few_is found sets is in (few.0, ap (λ all. Some all) few.1)

-- an item's id, and a quantity that is not over the limit
abbrev pub IsSet : ℕ × ℕ → Type 0
IsSet set = IsId set.0 × (set.1 ≤ quantity_limit)

id_bound : (digits : List ℕ) (id : ℕ) → number_of digits ≡ Some id → IsId id
unfolding number_of
id_bound digits id is = grind (arith, leb_tells)

number_bound : (number : Option ℕ) (quantity : ℕ)
    → option_and_then (λ n. if nat_le n quantity_limit then Some n else None) number ≡ Some quantity → quantity ≤ quantity_limit
number_bound None quantity is = cc
number_bound (Some number) quantity is = grind (arith, leb_tells)

pair_is : (id number : Option ℕ) (set : ℕ × ℕ)
    → option_and_then (λ id. option_map (λ n. (id, n)) number) id ≡ Some set → (id ≡ Some set.0) × (number ≡ Some set.1)
pair_is None number set is = cc
pair_is (Some id) None set is = cc
pair_is (Some id) (Some number) set is =
    (ap (λ (asked : Option (ℕ × ℕ)). option_map (λ one. one.0) asked) is, ap (λ (asked : Option (ℕ × ℕ)). option_map (λ one. one.1) asked) is)

set_bound : (item quantity : List ℕ) (set : ℕ × ℕ) → set_of item quantity ≡ Some set → IsSet set
unfolding set_of
set_bound item quantity set is =
    let parts = pair_is (number_of item) (quantity_of quantity) set is in
    (id_bound item set.0 parts.0, number_bound (number_of quantity) set.1 parts.1)

asked_bound : (is_one : Bool) (one : Option (ℕ × ℕ)) (set : ℕ × ℕ) → (if is_one then Some one else None) ≡ Some (Some set) → one ≡ Some set
asked_bound true one set is = cc
asked_bound false one set is = cc

cons_bounds : (set : ℕ × ℕ) (others : Option (List (ℕ × ℕ))) (sets : List (ℕ × ℕ)) → IsSet set
    → ((more : List (ℕ × ℕ)) → others ≡ Some more → All IsSet more)
    → option_map (λ values. set ∷ values) others ≡ Some sets → All IsSet sets
cons_bounds set None sets one more is = cc
cons_bounds set (Some values) sets one more is =
    let all : set ∷ values ≡ sets = cc in
    subst (All IsSet) all (All-cons IsSet set values one (more values refl))

more_bounds : (asked : Option (Option (ℕ × ℕ))) (others : List (Option (ℕ × ℕ))) (sets : List (ℕ × ℕ))
    → ((set : ℕ × ℕ) → asked ≡ Some (Some set) → IsSet set)
    → ((more : List (ℕ × ℕ)) → all_of others ≡ Some more → All IsSet more)
    → all_of (cons_option asked others) ≡ Some sets → All IsSet sets
unfolding all_of
more_bounds None others sets one more is = more sets is
more_bounds (Some None) others sets one more is = cc
more_bounds (Some (Some set)) others sets one more is = cons_bounds set (all_of others) sets (one set refl) more is

all_bounds : (pairs : List Pair) (sets : List (ℕ × ℕ)) → all_of (filter_map set_asked pairs) ≡ Some sets → All IsSet sets
unfolding all_of set_asked
all_bounds [] sets is =
    let none : [] ≡ sets = cc in
    subst (All IsSet) none (All-nil IsSet)
all_bounds ((name, value) ∷ pairs) sets is =
    more_bounds (set_asked (name, value)) (filter_map set_asked pairs) sets
    (λ set one. set_bound (drop 4 name) value set (asked_bound (bytes_eq (take 4 name) (codes "qty_")) _ set one))
    (λ more all. all_bounds pairs more all) is

pub found_is : (asked : Option (List (ℕ × ℕ))) (sets : List (ℕ × ℕ)) → ok_or asked Qty ≡ Ok sets → asked ≡ Some sets
found_is None sets is = cc
found_is (Some found) sets is = cc

-- the bounds of what is asked
pub sets_bounds : (pairs : List Pair) (sets : List (ℕ × ℕ)) → ok_or (sets_asked pairs) Qty ≡ Ok sets
    → (length sets ≤ sets_limit) × All IsSet sets
unfolding sets_asked
sets_bounds pairs sets is =
    let few = few_of (all_of (filter_map set_asked pairs)) sets (found_is _ sets is) in
    (few.0, all_bounds pairs sets few.1)
