-- The first items by their titles.
use Rattle.std.proofs.Common.{◌≡◌, ℕ, Bool, true, false, cond, ◌+◌, ◌<◌, ◌≤◌, List, [], ◌∷◌, ◌++◌, length, get_or, map, filter, take, refl, sym, ap, ◌∙◌, append-nil, append_assoc, length-append, length-take-le, le_refl, arith}
use Rattle.std.specs.Cmp.Lexicographic.{slice_cmp}
use Rattle.std.specs.Ordering.{nat_cmp}
use Rattle.std.proofs.lemmas.Cmp.{nat_cmp_total, nat_list_cmp_total, on_total, then_total}
use Rattle.std.proofs.lemmas.List.{take-map, take-take, map-append, take_more}
use Rattle.std.proofs.lemmas.List.Elements.{filter-append}
use Rattle.std.proofs.lemmas.Simd.{map-map}
use Rattle.shop_model.specs.declared.requests.SearchKind.{SearchKind}
use Rattle.shop_model.specs.lists.Catalogues.{Catalogue, Naming, by_title, found, matches}
use Rattle.shop_model.specs.lists.Rankings.{in_order, put_among}
use Rattle.shop_model.specs.rows.Limits.{list_limit}
use Rattle.shop_ranking.specs.Order.{IsStrict}
use Rattle.shop_ranking.proofs.cited.Firsts.{first_more, put_end}
use Rattle.shop_ranking.proofs.cited.Order.{ordering_parts, same_number, same_title}
use Rattle.shop_ranking.proofs.cited.Putting.{length_in_order}
use Rattle.shop_ranking.proofs.cited.Standing.{map_in_order}
use Rattle.shop_search.specs.Growing.{with_held}
use Rattle.shop_search.specs.Titles.{TitledItem, titled, by_titled, firsts, firsts_found}

abbrev the_item : List ℕ → ℕ → TitledItem
the_item title id = record { title = title; id = id }

same_item : (s t : List ℕ) (i j : ℕ) → s ≡ t → i ≡ j → the_item s i ≡ the_item t j
same_item s t i j titles ids = rw (titles, ids) refl

pub by_titled_strict : IsStrict by_titled
by_titled_strict = record {
  total = then_total (on_total (λ (i : TitledItem). i.title) nat_list_cmp_total) (on_total (λ (i : TitledItem). i.id) nat_cmp_total);
  apart = λ x y tied.
      let parts = ordering_parts (slice_cmp nat_cmp x.title y.title) (nat_cmp x.id y.id) tied in
      same_item x.title y.title x.id y.id (same_title x.title y.title parts.0) (same_number x.id y.id parts.1);
}

-- the ids of the first ones are what is found
pub firsts_are_found : (c : Catalogue) (kind : SearchKind) (text : List ℕ) → map (λ i. i.id) (firsts_found c kind text) ≡ found c kind text
unfolding found
firsts_are_found c kind text =
    let items = filter (matches c kind text) c.items in
    ap (λ (is : List TitledItem). map (λ i. i.id) (take list_limit is)) (sym (map_in_order titled by_titled items))
    ∙ ap (map (λ (i : TitledItem). i.id)) (take-map titled list_limit (in_order by_title items))
    ∙ map-map (λ (i : TitledItem). i.id) titled (take list_limit (in_order by_title items))

more_by : (b : Bool) (items : List Naming) (item : Naming)
    → cond b (with_held (titled item) (firsts (map titled items))) (firsts (map titled items)) ≡ firsts (map titled (items ++ cond b (item ∷ []) []))
more_by true items item =
    first_more by_titled by_titled_strict list_limit (titled item) (map titled items) ∙ ap firsts (sym (map-append titled items (item ∷ [])))
more_by false items item = ap (λ is. firsts (map titled is)) (sym (append-nil items))

-- the first of those that pass, with one item more
pub firsts_more : (p : Naming → Bool) (items : List Naming) (item : Naming)
    → cond (p item) (with_held (titled item) (firsts (map titled (filter p items)))) (firsts (map titled (filter p items)))
    ≡ firsts (map titled (filter p (items ++ item ∷ [])))
firsts_more p items item =
    more_by (p item) (filter p items) item ∙ ap (λ is. firsts (map titled is)) (sym (filter-append p items (item ∷ [])))

-- one more of some items is put among those before them
pub put_more : (before items list : List TitledItem) (i : ℕ) (item put : TitledItem) → i < length items → item ≡ get_or items i item → put ≡ item
    → list ≡ in_order by_titled (before ++ take i items) → put_among by_titled put list ≡ in_order by_titled (before ++ take (i + 1) items)
put_more before items list i item put within here same is =
    ap (put_among by_titled put) is
    ∙ put_end by_titled by_titled_strict put (before ++ take i items)
    ∙ ap (in_order by_titled)
    (append_assoc before (take i items) (put ∷ [])
    ∙ ap (λ rest. before ++ rest) (ap (λ x. take i items ++ x ∷ []) (same ∙ here) ∙ sym (take_more items i item within)))

pub put_length : (before items list : List TitledItem) (i : ℕ) → i < length items → list ≡ in_order by_titled (before ++ take i items) → length list ≡ length before + i
put_length before items list i within is =
    let some : i ≤ length items = omega arith in
    ap length is ∙ length_in_order by_titled (before ++ take i items) ∙ (rw (length-append, length-take-le i items some) refl)

-- before the first one
pub none_in_order : (list : List TitledItem) → list ≡ [] → list ≡ in_order by_titled []
unfolding in_order
none_in_order list none = none

-- the ids of the first ones
pub ids_found : (c : Catalogue) (kind : SearchKind) (text : List ℕ) (items : List TitledItem)
    → items ≡ firsts_found c kind text → map (λ i. i.id) (take list_limit items) ≡ found c kind text
ids_found c kind text items is =
    ap (map (λ (i : TitledItem). i.id)) (ap (take list_limit) is ∙ take-take list_limit list_limit (in_order by_titled (map titled (filter (matches c kind text) c.items))) (le_refl list_limit))
    ∙ firsts_are_found c kind text
