-- Ids are taken target by target, and pair by pair.
use Rattle.std.proofs.Common.{◌≡◌, ◌≢◌, ℕ, List, [], ◌∷◌, ◌++◌, map, Option, None, codes, refl, sym, ap, ◌∙◌}
use Rattle.std.specs.List.{flat_map}
use Rattle.std.specs.Option.{option_or}
use Rattle.shop_text.specs.Escape.{escape}
use Rattle.shop_model.specs.declared.page.Page.{Page}
use Rattle.shop_model.specs.declared.requests.IdsAsked.{IdsAsked}
use Rattle.shop_text.specs.Numbers.{number_of}
use Rattle.shop_browsers.specs.Scanned.{Begins, TakesNumber, TakesPair, NamesNoMore, first_pair, links_in, with_pairs}
use Rattle.shop_browsers.specs.Shown.{first_number, number_behind, pairs_in, ids_in}
use Rattle.shop_browsers.proofs.Ids.{or_none, same_ids, with_more, with_none}
use Rattle.shop_browsers.proofs.Numbers.{behind_front, front_pair, left_behind, no_front, plain_customer, plain_cart}
use Rattle.shop_browsers.proofs.Reading.{all_left}

-- what one pair gives
one_number : (front pair : List ℕ) (number id : Option ℕ) → number_behind front pair ≡ number → option_or id number ≡ option_or id (first_number front (pair ∷ []))
one_number front pair number id is = ap (option_or id) (sym is ∙ sym (or_none (number_behind front pair)))

one_pair : (ids : IdsAsked) (pair : List ℕ) (c cart customer other : Option ℕ) → number_behind (codes "c=") pair ≡ customer → number_behind (codes "cart=") pair ≡ other
    → c ≡ option_or ids.c customer → cart ≡ option_or ids.cart other
    → ◌≡◌ {A = IdsAsked} (record { c = c; cart = cart }) (with_pairs ids (pair ∷ []))
one_pair ids pair c cart customer other customer_is other_is first second =
    same_ids _ _ _ _ (first ∙ one_number (codes "c=") pair customer ids.c customer_is) (second ∙ one_number (codes "cart=") pair other ids.cart other_is)

-- what reading a number gives
abbrev Reads : List ℕ → Option ℕ → List ℕ → Type 0
Reads digits number left = (t tail : List ℕ) → Begins digits t tail → TakesNumber t tail number left

-- a pair of a customer
pub customer_taken : (ids : IdsAsked) (text digits left : List ℕ) (number c : Option ℕ) → text ≡ codes "c=" ++ digits → Reads digits number left → c ≡ option_or ids.c number
    → (t tail : List ℕ) → Begins text t tail → TakesPair ids t tail (record { c = c; cart = ids.cart }) left
customer_taken ids text digits left number c is reads c_is t tail begins =
    let follows = behind_front (codes "c=") digits t tail plain_customer (sym begins.is ∙ is) begins.ended in
    let taken = reads follows.0 tail follows.2 in
    let pair : first_pair t ≡ codes "c=" ++ first_pair follows.0 = ap first_pair follows.1 ∙ front_pair (codes "c=") follows.0 plain_customer in (
      one_pair ids (first_pair t) c ids.cart (number_of (first_pair follows.0)) None (ap (number_behind (codes "c=")) pair) (ap (number_behind (codes "cart=")) pair)
          (c_is ∙ ap (option_or ids.c) taken.0) (sym (or_none ids.cart)),
      left_behind (codes "c=") t follows.0 tail left plain_customer follows.1 taken.1,
    )

-- a pair of a cart
pub cart_taken : (ids : IdsAsked) (text digits left : List ℕ) (number cart : Option ℕ) → text ≡ codes "cart=" ++ digits → Reads digits number left → cart ≡ option_or ids.cart number
    → (t tail : List ℕ) → Begins text t tail → TakesPair ids t tail (record { c = ids.c; cart = cart }) left
cart_taken ids text digits left number cart is reads cart_is t tail begins =
    let follows = behind_front (codes "cart=") digits t tail plain_cart (sym begins.is ∙ is) begins.ended in
    let taken = reads follows.0 tail follows.2 in
    let pair : first_pair t ≡ codes "cart=" ++ first_pair follows.0 = ap first_pair follows.1 ∙ front_pair (codes "cart=") follows.0 plain_cart in (
      one_pair ids (first_pair t) ids.c cart None (number_of (first_pair follows.0)) (ap (number_behind (codes "c=")) pair) (ap (number_behind (codes "cart=")) pair)
          (sym (or_none ids.c)) (cart_is ∙ ap (option_or ids.cart) taken.0),
      left_behind (codes "cart=") t follows.0 tail left plain_cart follows.1 taken.1,
    )

-- a pair of neither
pub other_taken : (ids : IdsAsked) (text : List ℕ) → ((after : List ℕ) → text ≢ codes "c=" ++ after) → ((after : List ℕ) → text ≢ codes "cart=" ++ after)
    → (t tail : List ℕ) → Begins text t tail → TakesPair ids t tail ids text
other_taken ids text no_customer no_cart t tail begins = (
  one_pair ids (first_pair t) ids.c ids.cart None None (no_front (codes "c=") text t tail refl begins no_customer) (no_front (codes "cart=") text t tail refl begins no_cart)
      (sym (or_none ids.c)) (sym (or_none ids.cart)),
  all_left t tail text begins,
)

none_cons : (x : List ℕ) (xs : List (List ℕ)) → ◌≡◌ {A = List (List ℕ)} [] (x ∷ xs) → ⊥
none_cons x xs e = cc

head_of : List (List ℕ) → List ℕ
head_of [] = []
head_of (x ∷ xs) = x

tail_of : List (List ℕ) → List (List ℕ)
tail_of [] = []
tail_of (x ∷ xs) = xs

parts : (x y : List ℕ) (xs ys : List (List ℕ)) → ◌≡◌ {A = List (List ℕ)} (x ∷ xs) (y ∷ ys) → (x ≡ y) × (xs ≡ ys)
unfolding head_of tail_of
parts x y xs ys e = (ap head_of e, ap tail_of e)

-- the links of a page that are left, and the ids that were taken before them
abbrev pub AreLeft : Page → List ℕ → IdsAsked → Type 0
AreLeft p rest ids = (left : List (List ℕ)) × (links_in rest ≡ map escape left) × (with_pairs ids (flat_map pairs_in left) ≡ ids_in p)

-- a link is taken
by_left : (ids now : IdsAsked) (p : Page) (rest after target : List ℕ) (left : List (List ℕ)) → links_in rest ≡ map escape left
    → with_pairs ids (flat_map pairs_in left) ≡ ids_in p → links_in rest ≡ target ∷ links_in after
    → ((t : List ℕ) → target ≡ escape t → now ≡ with_pairs ids (pairs_in t)) → AreLeft p after now
by_left ids now p rest after target [] left_is same link takes = absurd (none_cons target (links_in after) (sym left_is ∙ link))
by_left ids now p rest after target (t ∷ left) left_is same link takes =
    let both = parts target (escape t) (links_in after) (map escape left) (sym link ∙ left_is) in
    let others = flat_map pairs_in left in
    (left, both.1, ap (λ i. with_pairs i others) (takes t both.0) ∙ with_more ids (pairs_in t) others ∙ same)

pub link_taken : (ids now : IdsAsked) (p : Page) (rest after target : List ℕ) → AreLeft p rest ids → links_in rest ≡ target ∷ links_in after
    → ((t : List ℕ) → target ≡ escape t → now ≡ with_pairs ids (pairs_in t)) → AreLeft p after now
link_taken ids now p rest after target left link takes = by_left ids now p rest after target left.0 left.1 left.2 link takes

-- nothing is left to be taken
pub nothing_more : (ids : IdsAsked) (p : Page) (rest : List ℕ) → AreLeft p rest ids → NamesNoMore ids rest → ids ≡ ids_in p
nothing_more ids p rest left none = sym (none left.0 left.1) ∙ left.2

no_link : (ids : IdsAsked) (p : Page) (rest : List ℕ) (left : List (List ℕ)) → links_in rest ≡ map escape left
    → with_pairs ids (flat_map pairs_in left) ≡ ids_in p → links_in rest ≡ [] → ids ≡ ids_in p
no_link ids p rest [] left_is same none = sym (with_none ids) ∙ same
no_link ids p rest (t ∷ left) left_is same none = absurd (none_cons (escape t) (map escape left) (sym none ∙ left_is))

pub nothing_left : (ids : IdsAsked) (p : Page) (rest : List ℕ) → AreLeft p rest ids → links_in rest ≡ [] → ids ≡ ids_in p
nothing_left ids p rest left none = no_link ids p rest left.0 left.1 left.2 none
