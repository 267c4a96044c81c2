-- Ids that are taken pair by pair.
use Rattle.std.proofs.Common.{◌≡◌, ℕ, List, [], ◌∷◌, ◌++◌, Option, Some, None, codes, refl, sym, ap, ◌∙◌}
use Rattle.std.specs.List.{flat_map}
use Rattle.std.specs.Option.{option_or}
use Rattle.shop_model.specs.declared.requests.IdsAsked.{IdsAsked}
use Rattle.shop_browsers.specs.Scanned.{with_pairs, NamesNoCart, NamesNoMore}
use Rattle.shop_browsers.specs.Shown.{first_number, number_behind, pairs_in}

or_assoc : (a b c : Option ℕ) → option_or a (option_or b c) ≡ option_or (option_or a b) c
or_assoc None b c = refl
or_assoc (Some x) b c = refl

pub or_none : (a : Option ℕ) → option_or a None ≡ a
or_none None = refl
or_none (Some x) = refl

pub first_append : (front : List ℕ) (xs ys : List (List ℕ)) → first_number front (xs ++ ys) ≡ option_or (first_number front xs) (first_number front ys)
first_append front [] ys = refl
first_append front (x ∷ xs) ys =
    ap (option_or (number_behind front x)) (first_append front xs ys)
    ∙ or_assoc (number_behind front x) (first_number front xs) (first_number front ys)

more_of : (front : List ℕ) (id : Option ℕ) (xs ys : List (List ℕ))
    → option_or (option_or id (first_number front xs)) (first_number front ys) ≡ option_or id (first_number front (xs ++ ys))
more_of front id xs ys = sym (or_assoc id (first_number front xs) (first_number front ys)) ∙ ap (option_or id) (sym (first_append front xs ys))

pub same_ids : (c c' cart cart' : Option ℕ) → c ≡ c' → cart ≡ cart' → ◌≡◌ {A = IdsAsked} (record { c = c; cart = cart }) (record { c = c'; cart = cart' })
same_ids c c' cart cart' first second = rw (first, second) refl

-- pairs behind others
pub with_more : (ids : IdsAsked) (xs ys : List (List ℕ)) → with_pairs (with_pairs ids xs) ys ≡ with_pairs ids (xs ++ ys)
with_more ids xs ys = same_ids _ _ _ _ (more_of (codes "c=") ids.c xs ys) (more_of (codes "cart=") ids.cart xs ys)

-- no pairs
pub with_none : (ids : IdsAsked) → with_pairs ids [] ≡ ids
with_none ids = same_ids _ _ _ _ (or_none ids.c) (or_none ids.cart)

or_full : (a b : Option ℕ) (n : ℕ) → a ≡ Some n → option_or a b ≡ a
or_full a b n is = rw is refl

-- nothing lacks
pub none_lacks : (ids : IdsAsked) (bytes : List ℕ) (c cart : ℕ) → ids.c ≡ Some c → ids.cart ≡ Some cart → NamesNoMore ids bytes
none_lacks ids bytes c cart has_customer has_cart targets is =
    let pairs = flat_map pairs_in targets in
    same_ids _ _ _ _ (or_full ids.c (first_number (codes "c=") pairs) c has_customer) (or_full ids.cart (first_number (codes "cart=") pairs) cart has_cart)

-- a cart lacks, and none is named
pub cart_lacks : (ids : IdsAsked) (bytes : List ℕ) (c : ℕ) → ids.c ≡ Some c → NamesNoCart bytes → NamesNoMore ids bytes
cart_lacks ids bytes c has_customer none targets is =
    same_ids _ _ _ _ (or_full ids.c (first_number (codes "c=") (flat_map pairs_in targets)) c has_customer)
    (ap (option_or ids.cart) (none targets is) ∙ or_none ids.cart)
