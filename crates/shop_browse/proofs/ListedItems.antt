-- The items on a list are there.
use Rattle.std.proofs.Common.{◌≡◌, ℕ, ◌+◌, ◌-◌, ◌<◌, min, cond, true, false, List, [], ◌∷◌, length, map, filter, take, get_or, All, slice_get, option_map, unwrap_or, sym, ◌∙◌, ap, subst, arith}
use Rattle.std.specs.declared.cmp.Ordering.{Ordering}
use Rattle.std.specs.Ordering.{is_gt}
use Rattle.std.proofs.lemmas.List.{get_or-take, length-take}
use Rattle.std.proofs.lemmas.List.Elements.{All-cons, All-map, All-filter, All-take, All-drop}
use Rattle.std.proofs.lemmas.Option.{slice_get-get_or}
use Rattle.std.proofs.lemmas.Simd.{map-map}
use Rattle.shop_model.specs.declared.requests.SearchKind.{SearchKind}
use Rattle.shop_model.specs.declared.subject.Subject.{Subject}
use Rattle.shop_model.specs.declared.tables.Tables.{Tables}
use Rattle.shop_model.specs.lists.Catalogues.{Catalogue, Naming, naming, opened, added, matches, by_title, found}
use Rattle.shop_model.specs.rows.Limits.{list_limit}
use Rattle.shop_model.specs.lists.Rankings.{Sale, put_among, in_order, in_subject, newer, newest, sold_lately, sales, better, best}
use Rattle.shop_model.specs.rows.Lookups.{title_of}
use Rattle.shop_model.specs.rows.Rows.{ItemRow}
use Rattle.shop_model.specs.rows.Sound.{Has, Runs, Sound}
use Rattle.shop_model.proofs.cited.Lists.{all_head, all_tail, id_of_place}
use Rattle.shop_history.proofs.cited.Places.{row_there}

-- what holds of all elements holds of all in order

module _ {A : Type 0} (P : A → Type 0) where
  all_put : (order : A → A → Ordering) (x : A) (xs : List A) → P x → All P xs → All P (put_among order x xs)
  unfolding put_among
  all_put order x [] is all = All-cons P x [] is all
  all_put order x (y ∷ ys) is all =
      elim (is_gt (order x y)) as (λ b. All P (cond b (y ∷ put_among order x ys) (x ∷ y ∷ ys))) [
        | true ↦ All-cons P y (put_among order x ys) (all_head P y ys all) (all_put order x ys is (all_tail P y ys all))
        | false ↦ All-cons P x (y ∷ ys) is all
      ]

  all_ordered : (order : A → A → Ordering) (xs : List A) → All P xs → All P (in_order order xs)
  unfolding in_order
  all_ordered order [] all = all
  all_ordered order (x ∷ xs) all = all_put order x (in_order order xs) (all_head P x xs all) (all_ordered order xs (all_tail P x xs all))

  pub all_firsts : (order : A → A → Ordering) (xs : List A) → All P xs → All P (take list_limit (in_order order xs))
  all_firsts order xs all = All-take P list_limit (in_order order xs) (all_ordered order xs all)

  -- so the ids of the first ones are as those of all
  pub first_ids : (Q : ℕ → Type 0) (id : A → ℕ) (order : A → A → Ordering) (xs : List A) → ((x : A) → P x → Q (id x)) → All P xs → All Q (map id (take list_limit (in_order order xs)))
  first_ids Q id order xs each all =
      All-map Q id (take list_limit (in_order order xs)) (λ k d within. each _ (all_firsts order xs all k d within))

-- the ids of what is found are as those of all
pub found_all : (Q : ℕ → Type 0) (c : Catalogue) (kind : SearchKind) (text : List ℕ) → All (λ n. Q n.id) c.items → All Q (found c kind text)
unfolding found
found_all Q c kind text all =
    let P : Naming → Type 0 = λ n. Q n.id in
    first_ids P Q (λ (n : Naming). n.id) by_title (filter (matches c kind text) c.items) (λ n has. has) (All-filter _ P c.items all)

-- the items that a row names are there

ids_within : {A : Type 0} (id : A → ℕ) (rows : List A) → Runs (map id rows) → All (λ x. Has (length rows) (id x)) rows
ids_within id rows runs k d within =
    let at : id (get_or rows k d) ≡ 1 + k = id_of_place id rows k d runs within in
    record { first = omega (arith, at); last = omega (arith, at, within) }

module _ (t : Tables) (sound : Sound t) where
  items_within : All (λ i. Has (length t.items) i.id) t.items
  items_within = ids_within (λ (i : ItemRow). i.id) t.items sound.ids.items

  subject_within : (subject : Subject) → All (λ i. Has (length t.items) i.id) (in_subject subject t.items)
  subject_within subject = All-filter _ (λ (i : ItemRow). Has (length t.items) i.id) t.items items_within

  pub newest_within : (subject : Subject) → All (Has (length t.items)) (newest t subject)
  unfolding newest
  newest_within subject =
      first_ids (λ (i : ItemRow). Has (length t.items) i.id) (Has (length t.items)) (λ (i : ItemRow). i.id) newer (in_subject subject t.items) (λ i has. has) (subject_within subject)

  pub best_within : (subject : Subject) → All (Has (length t.items)) (best t subject)
  unfolding best
  best_within subject =
      let P : Sale → Type 0 = λ s. Has (length t.items) s.id in
      let sale : ItemRow → Sale = λ i. record { id = i.id; units = sold_lately t i.id } in
      let items : List ItemRow = in_subject subject t.items in
      first_ids P (Has (length t.items)) (λ (s : Sale). s.id) better (sales t subject) (λ s has. has)
      (All-filter _ P (map sale items) (All-map P sale items (subject_within subject)))

  named_within : All (λ n. Has (length t.items) n.id) (map naming t.items)
  named_within = All-map (λ n. Has (length t.items) n.id) naming t.items items_within

  -- what is found of those of the opening, and of those that were added
  pub opened_within : (kind : SearchKind) (text : List ℕ) → All (Has (length t.items)) (found (opened t) kind text)
  opened_within kind text = found_all (Has (length t.items)) (opened t) kind text (All-take (λ n. Has (length t.items) n.id) t.born_items (map naming t.items) named_within)

  pub added_within : (kind : SearchKind) (text : List ℕ) → All (Has (length t.items)) (found (added t) kind text)
  added_within kind text = found_all (Has (length t.items)) (added t) kind text (All-drop (λ n. Has (length t.items) n.id) t.born_items (map naming t.items) named_within)

  -- the ids of those of the opening are the first ones
  born_ids : All (λ n. Has (length (opened t).items) n.id) (opened t).items
  born_ids k d within =
      let items : List Naming = map naming t.items in
      let size = length-take t.born_items items in
      let less : k < min t.born_items (length items) = subst (λ n. k < n) size within in
      let runs : Runs (map (λ (n : Naming). n.id) items) = subst Runs (sym (map-map (λ (n : Naming). n.id) naming t.items)) sound.ids.items in
      let at : (get_or (take t.born_items items) k d).id ≡ 1 + k
      = ap (λ (n : Naming). n.id) (get_or-take t.born_items items k d (omega (arith, less))) ∙ id_of_place (λ (n : Naming). n.id) items k d runs (omega (arith, less)) in
      record { first = omega (arith, at); last = omega (arith, at, within) }

  pub born_found : (kind : SearchKind) (text : List ℕ) → All (Has (length (opened t).items)) (found (opened t) kind text)
  born_found kind text = found_all (Has (length (opened t).items)) (opened t) kind text born_ids

  -- an item by its id has its title
  pub titles_named : All (λ n. title_of t n.id ≡ n.title) (map naming t.items)
  titles_named = All-map (λ n. title_of t n.id ≡ n.title) naming t.items (λ k d within.
      let item : ItemRow = get_or t.items k d in
      let at : item.id ≡ 1 + k = id_of_place (λ (i : ItemRow). i.id) t.items k d sound.ids.items within in
      let before : item.id - 1 ≡ k = omega (arith, at) in
      ap (λ o. unwrap_or (option_map (λ (i : ItemRow). i.title) o) [])
      (row_there t.items item.id item (record { above = omega (arith, at); at = ap (slice_get t.items) before ∙ slice_get-get_or t.items k d within })))
