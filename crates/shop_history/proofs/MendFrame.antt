-- What the administration of an item leaves as it was.
use Rattle.std.proofs.Common.{◌≡◌, ℕ, zero, suc, ◌-◌, Bool, true, false, nat_lt, List, [], ◌∷◌, map, filter, take, drop, Option, Some, None, option_map, unwrap_or, slice_get, slice_set, Contains, ◌⊎◌, inl, inr, ⊎_elim, refl, sym, ◌∙◌, ap, arith}
use Rattle.std.specs.Str.{bytes_eq}
use Rattle.std.proofs.lemmas.Bool.{cases_eq}
use Rattle.std.proofs.lemmas.List.{length-set}
use Rattle.shop_model.specs.declared.subject.Subject.{Subject}
use Rattle.shop_model.specs.declared.subject.Subject.TheVariants.{Arts}
use Rattle.shop_model.specs.declared.tables.Tables.{Tables}
use Rattle.shop_model.specs.asked.AdminAsked.{AdminAsked}
use Rattle.shop_model.specs.lists.Catalogues.{Naming, naming, found}
use Rattle.shop_model.specs.lists.Rankings.{newest, best, in_order, better, newer, sold_lately, Sale}
use Rattle.shop_model.specs.rows.Limits.{list_limit}
use Rattle.shop_model.specs.rows.Lookups.{row_numbered}
use Rattle.shop_model.specs.rows.Rows.{ItemRow}
use Rattle.shop_model.specs.rows.Subjects.{subject_name}
use Rattle.shop_model.specs.trade.Mending.{mended_item, with_mended}
use Rattle.shop_history.specs.declared.keys.Key.{Key}
use Rattle.shop_history.specs.declared.keys.Key as key
use Rattle.shop_history.specs.declared.keys.Row.{Row}
use Rattle.shop_history.specs.declared.keys.Row as row
use Rattle.shop_history.specs.Keys.{row_of, shown, label_of}
use Rattle.shop_history.specs.MayChange.{subject_at}
use Rattle.shop_history.proofs.SaleFrame.{by_test, numbered_map, names_one}
use Rattle.shop_history.proofs.cited.Places.{is_there, row_set_other, seen_set}

-- what a row shows of another
shown_seen : {A B : Type 0} (make : B → Row) (look : A → B) (x : Option A) → shown (λ a. make (look a)) x ≡ shown make (option_map look x)
shown_seen make look None = refl
shown_seen make look (Some a) = refl

-- elements that pass a test of what is seen of them
seen_passing : {A B C : Type 0} (see : A → B) (p : B → Bool) (f : B → C) (xs : List A) → map (λ x. f (see x)) (filter (λ x. p (see x)) xs) ≡ map f (filter p (map see xs))
seen_passing see p f [] = refl
seen_passing see p f (x ∷ xs) =
    by_test (p (see x)) (λ (yes : p (see x) ≡ true). rw yes (ap (λ cs. f (see x) ∷ cs) (seen_passing see p f xs))) (λ (no : p (see x) ≡ false). rw no (seen_passing see p f xs))

-- an element that fails a test, in the place of one that fails it
failing_set : {A : Type 0} (p : A → Bool) (xs : List A) (i : ℕ) (x y : A) → slice_get xs i ≡ Some x → p x ≡ false → p y ≡ false → filter p (slice_set xs i y) ≡ filter p xs
failing_set p [] i x y at one other = refl
failing_set p (z ∷ xs) zero x y at one other = let same : z ≡ x = cc in rw (other, same, one) refl
failing_set p (z ∷ xs) (suc i) x y at one other =
    let rest = failing_set p xs i x y at one other in
    by_test (p z) (λ (yes : p z ≡ true). rw yes (ap (λ zs. z ∷ zs) rest)) (λ (no : p z ≡ false). rw no rest)

module _ (t : Tables) (stamp : ℕ) (asked : AdminAsked) (item : ItemRow) (there : row_numbered t.items asked.item ≡ Some item) where
  abbrev mended : ItemRow
  mended = mended_item t stamp asked item

  abbrev now : Tables
  now = with_mended t stamp asked (Some item)

  label_stays : (id : ℕ) → row_of now (key.TheVariants.Label id) ≡ row_of t (key.TheVariants.Label id)
  label_stays id =
      shown_seen row.TheVariants.Label (label_of t) (row_numbered now.items id)
      ∙ ap (shown row.TheVariants.Label)
      (sym (numbered_map (label_of t) now.items id) ∙ ap (λ rows. row_numbered rows id) (seen_set (label_of t) t.items asked.item item mended there refl) ∙ numbered_map (label_of t) t.items id)
      ∙ sym (shown_seen row.TheVariants.Label (label_of t) (row_numbered t.items id))

  best_stays : (subject : Subject) → best now subject ≡ best t subject
  unfolding best sold_lately
  best_stays subject =
      let of : Naming → Bool = λ n. bytes_eq (subject_name n.subject) (subject_name subject) in
      let sale : Naming → Sale = λ n. record { id = n.id; units = sold_lately t n.id } in
      ap (λ (all : List Sale). map (λ s. s.id) (take list_limit (in_order better (filter (λ s. nat_lt 0 s.units) all))))
      (seen_passing naming of sale now.items ∙ ap (λ ns. map sale (filter of ns)) (seen_set naming t.items asked.item item mended there refl) ∙ sym (seen_passing naming of sale t.items))

  newest_stays : (subject : Subject) → bytes_eq (subject_name item.subject) (subject_name subject) ≡ false → newest now subject ≡ newest t subject
  unfolding newest
  newest_stays subject other =
      ap (λ items. map (λ i. i.id) (take list_limit (in_order newer items)))
      (failing_set (λ i. bytes_eq (subject_name i.subject) (subject_name subject)) t.items (asked.item - 1) item mended (is_there t.items asked.item item there).at other other)

  abbrev changes : List Key
  changes = key.TheVariants.Item asked.item ∷ key.TheVariants.NewIn (subject_at t asked.item) ∷ []

  its_subject : subject_at t asked.item ≡ item.subject
  its_subject = ap (λ (x : Option ItemRow). unwrap_or (option_map (λ i. i.subject) x) Arts) there

  -- what a key shows, unless it may change
  pub mended_frame : (key : Key) → Contains changes key ⊎ (row_of now key ≡ row_of t key)
  mended_frame (key.TheVariants.Item id) = ⊎_elim
      (λ same. inl (0, omega arith, ap key.TheVariants.Item (sym same)))
      (λ apart. inr (ap (shown row.TheVariants.Item) (row_set_other t.items asked.item id item mended there apart)))
      (cases_eq id asked.item)
  mended_frame (key.TheVariants.Label id) = inr (label_stays id)
  mended_frame (key.TheVariants.NewIn subject) =
      by_test (bytes_eq (subject_name item.subject) (subject_name subject))
      (λ (same : bytes_eq (subject_name item.subject) (subject_name subject) ≡ true).
      inl (1, omega arith, ap key.TheVariants.NewIn (its_subject ∙ names_one item.subject subject same)))
      (λ (other : bytes_eq (subject_name item.subject) (subject_name subject) ≡ false). inr (ap row.TheVariants.Items (newest_stays subject other)))
  mended_frame (key.TheVariants.BestIn subject) = inr (ap row.TheVariants.Items (best_stays subject))
  mended_frame key.TheVariants.Count = inr (ap row.TheVariants.Number (length-set t.items (asked.item - 1) mended))
  mended_frame (key.TheVariants.Added search) =
      inr (ap (λ (names : List Naming). row.TheVariants.Items (found (record { items = drop t.born_items names; authors = t.authors }) search.kind search.text))
      (seen_set naming t.items asked.item item mended there refl))
  mended_frame _ = inr refl
