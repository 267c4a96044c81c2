-- What a request for a cart spells is read as that request.
use Rattle.std.proofs.Common.{◌≡◌, ℕ, ◌≤◌, false, List, [], ◌∷◌, ◌++◌, map, length, take, append-nil, codes, decimal, suc, Option, Some, None, All, refl, ◌∙◌, ap, arith}
use Rattle.std.specs.Prelude.{Ok}
use Rattle.std.specs.List.{AllByRecursion, filter_map}
use Rattle.std.specs.Option.{option_map, option_and_then}
use Rattle.std.specs.Str.{bytes_eq}
use Rattle.std.proofs.lemmas.Bool.{cond-false, le-leb}
use Rattle.std.proofs.lemmas.List.{length-append}
use Rattle.std.proofs.lemmas.List.Elements.{filter_map-append}
use Rattle.std.proofs.lemmas.Str.{IsUtf8-append}
use Rattle.shop_model.specs.declared.parameter.Parameter.{Parameter}
use Rattle.shop_model.specs.declared.parameter.Parameter.TheVariants.{C, Cart, Item}
use Rattle.shop_model.specs.declared.requests.IdsAsked.{IdsAsked}
use Rattle.shop_model.specs.declared.requests.Interaction.TheVariants as interaction
use Rattle.shop_model.specs.declared.requests.Request.TheVariants as request
use Rattle.shop_model.specs.asked.CartAsked.{CartAsked, IsCartAsked}
use Rattle.shop_model.specs.asked.CustomersAsked.{IsId}
use Rattle.shop_model.specs.asked.Interactions.{interaction_of, path_of}
use Rattle.shop_model.specs.asked.Parameters.{parameter_name}
use Rattle.shop_model.specs.rows.Limits.{quantity_limit}
use Rattle.shop_http.specs.Forms.{Pair, optional, value_named, value_of}
use Rattle.shop_http.specs.Requests.{asked_of, ids_asked, shopping_cart}
use Rattle.shop_http.specs.Sets.{all_of, few, set_asked, set_of, sets_asked}
use Rattle.shop_text.specs.Numbers.{number_of}
use Rattle.shop_journal.specs.Pairs.{optional_pair}
use Rattle.shop_journal.specs.Targets.{cart_pairs, cart_target, ids_pairs, set_pair}
use Rattle.shop_journal.proofs.Forms.{optional_is}
use Rattle.shop_journal.proofs.Numbers.{number_again, number_length, number_text}
use Rattle.shop_journal.proofs.Spelled.{AllSpelled, HasPath, IsSpelled, ascii_text, both, c_first, cart_first, ids_named, optional_named, read_at}

-- an item's id, and a quantity that a line can have
abbrev pub IsSet : ℕ × ℕ → Type 0
IsSet set = IsId set.0 × (set.1 ≤ quantity_limit)

-- ---- the first values

-- sets have no other parameter's name
past_sets : (name : List ℕ) → ((bytes : List ℕ) → bytes_eq (codes "qty_" ++ bytes) name ≡ false) → (sets : List (ℕ × ℕ)) (rest : List Pair)
    → value_named (map set_pair sets ++ rest) name ≡ value_named rest name
past_sets name other [] rest = refl
past_sets name other (set ∷ sets) rest =
    ap (option_map (λ (pair : Pair). pair.1)) (cond-false _ _ _ (other (decimal set.0))) ∙ past_sets name other sets rest

item_first : (asked : CartAsked) → value_of (cart_pairs asked) Item ≡ option_map decimal asked.item
item_first asked = by asked.item
  where
    ids : (c cart : Option ℕ) → value_of (optional_pair C c ++ optional_pair Cart cart) Item ≡ None
    ids None None = refl
    ids None (Some n) = refl
    ids (Some n) None = refl
    ids (Some n) (Some m) = refl

    by : (item : Option ℕ) → value_of (optional_pair Item item ++ (map set_pair asked.sets ++ ids_pairs asked.ids)) Item ≡ option_map decimal item
    by None = past_sets (codes "item") (λ bytes. refl) asked.sets (ids_pairs asked.ids) ∙ ids asked.ids.c asked.ids.cart
    by (Some n) = refl

-- past the item
past_item : (parameter : Parameter) → bytes_eq (codes "item") (parameter_name parameter) ≡ false → (item : Option ℕ) (rest : List Pair)
    → value_of (optional_pair Item item ++ rest) parameter ≡ value_of rest parameter
past_item parameter other None rest = refl
past_item parameter other (Some n) rest = ap (option_map (λ (pair : Pair). pair.1)) (cond-false _ _ _ other)

c_of : (asked : CartAsked) → value_of (cart_pairs asked) C ≡ option_map decimal asked.ids.c
c_of asked =
    past_item C refl asked.item (map set_pair asked.sets ++ ids_pairs asked.ids)
    ∙ past_sets (codes "c") (λ bytes. refl) asked.sets (ids_pairs asked.ids)
    ∙ c_first asked.ids.c asked.ids.cart

cart_of : (asked : CartAsked) → value_of (cart_pairs asked) Cart ≡ option_map decimal asked.ids.cart
cart_of asked =
    past_item Cart refl asked.item (map set_pair asked.sets ++ ids_pairs asked.ids)
    ∙ past_sets (codes "cart") (λ bytes. refl) asked.sets (ids_pairs asked.ids)
    ∙ cart_first asked.ids.c asked.ids.cart

-- ---- the sets

pub each : (P : ℕ × ℕ → Type 0) (sets : List (ℕ × ℕ)) → All P sets → AllByRecursion P sets
each P [] all = tt
each P (set ∷ sets) all = (all 0 set (omega arith), each P sets (λ k d within. all (suc k) d (omega (arith, within))))

set_again : (set : ℕ × ℕ) → IsSet set → set_asked (set_pair set) ≡ Some (Some set)
unfolding set_asked set_of
set_again set is = rw (number_again set.0 is.0, number_again set.1 (omega (arith, is.1)), le-leb set.1 quantity_limit is.1) refl

sets_again : (sets : List (ℕ × ℕ)) → AllByRecursion IsSet sets → all_of (filter_map set_asked (map set_pair sets)) ≡ Some sets
unfolding all_of
sets_again [] are = refl
sets_again (set ∷ sets) are = rw (set_again set are.0) (ap (option_map (λ values. set ∷ values)) (sets_again sets are.1))

no_sets : (parameter : Parameter) → bytes_eq (take 4 (parameter_name parameter)) (codes "qty_") ≡ false → (number : Option ℕ) → filter_map set_asked (optional_pair parameter number) ≡ []
unfolding set_asked
no_sets parameter other None = refl
no_sets parameter other (Some n) = rw other refl

sets_among : (asked : CartAsked) → filter_map set_asked (cart_pairs asked) ≡ filter_map set_asked (map set_pair asked.sets)
sets_among asked =
    let item = optional_pair Item asked.item in
    let sets = map set_pair asked.sets in
    let c = optional_pair C asked.ids.c in
    let cart = optional_pair Cart asked.ids.cart in
    filter_map-append set_asked item (sets ++ (c ++ cart))
    ∙ ap (λ (l : List (Option (ℕ × ℕ))). l ++ filter_map set_asked (sets ++ (c ++ cart))) (no_sets Item refl asked.item)
    ∙ filter_map-append set_asked sets (c ++ cart)
    ∙ ap (λ (l : List (Option (ℕ × ℕ))). filter_map set_asked sets ++ l) (filter_map-append set_asked c cart ∙ (λ i. no_sets C refl asked.ids.c i ++ no_sets Cart refl asked.ids.cart i))
    ∙ append-nil (filter_map set_asked sets)

sets_are : (asked : CartAsked) → IsCartAsked asked → sets_asked (cart_pairs asked) ≡ Some asked.sets
unfolding sets_asked
sets_are asked is =
    ap (λ l. option_and_then few (all_of l)) (sets_among asked)
    ∙ ap (option_and_then few) (sets_again asked.sets (each _ asked.sets is.sets))
    ∙ rw (le-leb (length asked.sets) 100 is.few) refl

-- ---- the whole

ids_read : (pairs : List Pair) (ids : IdsAsked) → optional number_of pairs C ≡ Ok ids.c → optional number_of pairs Cart ≡ Ok ids.cart → ids_asked pairs ≡ Ok ids
ids_read pairs ids c cart = rw (c, cart) refl

cart_read : (pairs : List Pair) (asked : CartAsked) → optional number_of pairs Item ≡ Ok asked.item → sets_asked pairs ≡ Some asked.sets → ids_asked pairs ≡ Ok asked.ids
    → shopping_cart pairs ≡ Ok (request.CartRequest asked)
cart_read pairs asked item sets ids = rw (item, sets, ids) refl

cart_again : (asked : CartAsked) → IsCartAsked asked → shopping_cart (cart_pairs asked) ≡ Ok (request.CartRequest asked)
cart_again asked is =
    let pairs = cart_pairs asked in
    let ids = ids_read pairs asked.ids (optional_is pairs C asked.ids.c is.ids.0 (c_of asked)) (optional_is pairs Cart asked.ids.cart is.ids.1 (cart_of asked)) in
    cart_read pairs asked (optional_is pairs Item asked.item is.item (item_first asked)) (sets_are asked is) ids

cart_cut : HasPath (path_of interaction.ShoppingCart)
cart_cut [] = (refl, refl)
cart_cut (pair ∷ others) = (refl, refl)

cart_found : interaction_of (path_of interaction.ShoppingCart) ≡ Some interaction.ShoppingCart
unfolding interaction_of
cart_found = refl

set_named : (set : ℕ × ℕ) → IsSet set → IsSpelled (set_pair set)
set_named set is =
    let id : IsId set.1 = omega (arith, is.1) in
    record {
      texts = (IsUtf8-append (codes "qty_") (decimal set.0) (ascii_text (codes "qty_") refl) (number_text set.0 is.0), number_text set.1 id);
      short = omega (arith, length-append (codes "qty_") (decimal set.0), number_length set.0 is.0, number_length set.1 id);
    }

sets_named : (sets : List (ℕ × ℕ)) → AllByRecursion IsSet sets → AllSpelled (map set_pair sets)
sets_named [] are = tt
sets_named (set ∷ sets) are = (set_named set are.0, sets_named sets are.1)

pub cart_spelled : (asked : CartAsked) → IsCartAsked asked → AllSpelled (cart_pairs asked)
cart_spelled asked is =
    both (optional_pair Item asked.item) (map set_pair asked.sets ++ ids_pairs asked.ids) (optional_named Item asked.item refl is.item)
    (both (map set_pair asked.sets) (ids_pairs asked.ids) (sets_named asked.sets (each _ asked.sets is.sets)) (ids_named asked.ids is.ids))

pub cart_written : (asked : CartAsked) → IsCartAsked asked → asked_of (codes "GET") (cart_target asked) [] ≡ Ok (request.CartRequest asked)
cart_written asked is = read_at interaction.ShoppingCart (path_of interaction.ShoppingCart) (cart_pairs asked) (request.CartRequest asked) cart_cut cart_found (cart_spelled asked is) (cart_again asked is)
