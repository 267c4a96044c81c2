-- The ranks of best sold items once an order came: those of the tables after it, and which keys show others.
use Rattle.std.proofs.Common.{◌≡◌, ◌≢◌, ℕ, zero, suc, ◌+◌, ◌-◌, ◌<◌, List, [], ◌∷◌, ◌++◌, length, map, sum_by, get_or, Contains, Option, Some, None, option_map, unwrap_or, slice_get, ◌⊎◌, inl, inr, ⊎_elim, refl, sym, ◌∙◌, ap, subst, arith}
use Rattle.std.specs.Prelude.{slice_index}
use Rattle.std.proofs.lemmas.List.{length-map, get_or-map, ext_get_or}
use Rattle.std.proofs.lemmas.List.Elements.{Contains-append_left, Contains-append_right, Contains-append_cases}
use Rattle.shop_model.specs.declared.subject.Subject.{Subject}
use Rattle.shop_model.specs.declared.subject.Subject.TheVariants.{Arts}
use Rattle.shop_model.specs.declared.tables.Tables.{Tables}
use Rattle.shop_model.specs.lists.Rankings.{best, sold_lately}
use Rattle.shop_model.specs.lists.Related.{Sold, sold_of, last, has_item, units_in_orders}
use Rattle.shop_model.specs.rows.Limits.{counted_orders}
use Rattle.shop_model.specs.rows.Lookups.{row_numbered}
use Rattle.shop_model.specs.rows.Rows.{ItemRow, OrderRow}
use Rattle.shop_model.specs.rows.Sound.{Sound, Runs, units_in}
use Rattle.shop_model.specs.rows.Subjects.{subjects}
use Rattle.shop_model.specs.trade.Sales.{sold_item, with_order}
use Rattle.shop_model.proofs.cited.Lists.{id_of_place}
use Rattle.shop_history.specs.declared.keys.Key.{Key}
use Rattle.shop_history.specs.declared.keys.Key.TheVariants as key
use Rattle.shop_history.specs.declared.keys.Row.TheVariants as row
use Rattle.shop_history.specs.Keys.{row_of}
use Rattle.shop_history.specs.MayChange.{leaving, items_of, subject_at, ranks_change, unranked_changes}
use Rattle.shop_history.proofs.cited.Versions.{RaisedFor}
use Rattle.shop_history.proofs.SaleFrame.{contains_map, any_contains, none_units, numbered_map, ranks_frame}
use Rattle.shop_history.proofs.WindowFrame.{window_frame, sums}
use Rattle.shop_ranking.specs.StandingBest.{Units, AreSoldLately, standing_best}
use Rattle.shop_ranking.proofs.cited.Standing.{standing_best_is}
use Rattle.shop_book.specs.Places.{subject_id}
use Rattle.shop_book.specs.Sales.{Bumps, Renews, IsRenewed, subject_in, subjects_in, gone_items, gone_subjects}
use Rattle.shop_book.proofs.Ascending.{by_test}
use Rattle.shop_book.proofs.KeptLists.{sold_is, value_at}
use Rattle.shop_book.proofs.SubjectIds.{there}

contains_unmap : {A B : Type 0} (f : A → B) (xs : List A) (y : B) → Contains (map f xs) y → (x : A) × Contains xs x × (f x ≡ y)
contains_unmap f [] y has = absurd (omega (arith, has.1))
contains_unmap {A} {B} f (x ∷ xs) y has = by has.0 has.1 has.2 (contains_unmap f xs y)
  where
    by : (k : ℕ) → k < suc (length (map f xs)) → get_or (f x ∷ map f xs) k y ≡ y → (Contains (map f xs) y → (z : A) × Contains xs z × (f z ≡ y)) → (z : A) × Contains (x ∷ xs) z × (f z ≡ y)
    by zero lt is behind = (x, (0, omega arith, refl), is)
    by (suc k) lt is behind =
        let found = behind (k, omega (arith, lt), is) in
        (found.0, (suc found.1.0, omega (arith, found.1.1), found.1.2), found.2)

some_there : {A : Type 0} (xs : List A) (k : ℕ) → k < length xs → slice_get xs k ≢ None
some_there [] k within none = absurd (omega (arith, within))
some_there (x ∷ xs) zero within none = absurd cc
some_there (x ∷ xs) (suc k) within none = some_there xs k (omega (arith, within)) none

-- where a subject's list stands
abbrev place : Subject → ℕ
place s = subject_id s - 1

pub shown : (one other : List ℕ) → row.Items one ≡ row.Items other → one ≡ other
shown one other same = cc

a_subject : (one other : Subject) → key.BestIn one ≡ key.BestIn other → one ≡ other
a_subject one other same = cc

-- keys of best sold items, and others
by_kind : (k : Key) → ((s : Subject) × (k ≡ key.BestIn s)) ⊎ ((s : Subject) → k ≢ key.BestIn s)
by_kind (key.BestIn s) = inl (s, refl)
by_kind _ = inr (λ s same. absurd cc)

module _ (t : Tables) (sound : Sound t) (order : OrderRow) where
  abbrev after : Tables
  after = with_order t order

  abbrev gone : Option OrderRow
  gone = leaving counted_orders t.orders

  abbrev done : List ℕ
  done = items_of order ++ gone_items gone

  -- of other items as many count as before
  sold_stays : (item : ℕ) → Contains done item ⊎ (sold_lately after item ≡ sold_lately t item)
  unfolding sold_lately
  sold_stays item =
      ⊎_elim (λ has. inl has) (λ same. inr (same tt))
      (window_frame 0 (λ a b. a + b) (λ (_ : Unit {0}). sum_by units_of) (λ _. sums units_of) items_of item
      (λ o. by_test (has_item item (sold_of o)) (λ has. inl (any_contains item o.lines has)) (λ without. inr (λ _. omega (arith, none_units item o.lines without))))
      counted_orders t.orders order (omega arith))
    where
      units_of : OrderRow → ℕ
      units_of o = units_in item o.lines

  -- the units are those that were sold lately
  pub units_after : (was now : Units) (kept : List Sold) → AreSoldLately t was → kept ≡ map sold_of (last counted_orders (t.orders ++ order ∷ []))
      → Bumps (λ item. units_in_orders item kept) was done now → AreSoldLately after now
  units_after was now kept are is bumps = record {
    subjects = bumps.subjects ∙ are.subjects ∙ same_subjects t.items;
    units = ext_get_or 0 now.units (map (λ i. sold_lately after i.id) after.items) sizes each;
  }
    where
      same_subjects : (items : List ItemRow) → map (λ i. i.subject) items ≡ map (λ i. i.subject) (map (sold_item order) items)
      same_subjects [] = refl
      same_subjects (i ∷ items) = ap (λ (ss : List Subject). i.subject ∷ ss) (same_subjects items)

      size : length was.units ≡ length t.items
      size = ap length are.units ∙ length-map t.items (λ (i : ItemRow). sold_lately t i.id)

      sizes : length now.units ≡ length (map (λ i. sold_lately after i.id) after.items)
      sizes = bumps.size ∙ size ∙ sym (length-map t.items (sold_item order)) ∙ sym (length-map after.items (λ (i : ItemRow). sold_lately after i.id))

      -- an item's id is its place
      id_at : (k : ℕ) (d : ItemRow) → k < length t.items → (get_or t.items k d).id ≡ k + 1
      id_at k d within = id_of_place (λ (i : ItemRow). i.id) t.items k d sound.ids.items within ∙ omega arith

      some_item : (items : List ItemRow) (k : ℕ) → k < length items → ItemRow
      some_item [] k within = absurd (omega (arith, within))
      some_item (i ∷ items) k within = i

      wanted : (k : ℕ) → k < length t.items → get_or (map (λ i. sold_lately after i.id) after.items) k 0 ≡ sold_lately after (k + 1)
      wanted k within =
          let d : ItemRow = some_item t.items k within in
          get_or-map (λ (i : ItemRow). sold_lately after i.id) after.items k (sold_item order d) 0 (omega (arith, within, length-map t.items (sold_item order)))
          ∙ ap (λ (i : ItemRow). sold_lately after i.id) (get_or-map (sold_item order) t.items k d (sold_item order d) within)
          ∙ ap (sold_lately after) (id_at k d within)

      before : (k : ℕ) → k < length t.items → get_or was.units k 0 ≡ sold_lately t (k + 1)
      before k within =
          let d : ItemRow = some_item t.items k within in
          ap (λ (units : List ℕ). get_or units k 0) are.units
          ∙ get_or-map (λ (i : ItemRow). sold_lately t i.id) t.items k d 0 within
          ∙ ap (sold_lately t) (id_at k d within)

      counted : (item : ℕ) → units_in_orders item kept ≡ sold_lately after item
      counted item = sold_is after kept item is

      each : (k : ℕ) → k < length now.units → get_or now.units k 0 ≡ get_or (map (λ i. sold_lately after i.id) after.items) k 0
      each k lt =
          let within : k < length t.items = omega (arith, lt, bumps.size, size) in
          let placed : k + 1 - 1 ≡ k = omega arith in
          let is_now : get_or now.units k 0 ≡ sold_lately after (k + 1) =
          ⊎_elim
          (λ (as_was : slice_index now.units k ≡ slice_index was.units k).
          ⊎_elim
          (λ (has : Contains done (k + 1)). ap (get_at now.units) (sym placed) ∙ bumps.all (k + 1) has (record { first = omega arith; last = omega (arith, within, size) }) ∙ counted (k + 1))
          (λ (stays : sold_lately after (k + 1) ≡ sold_lately t (k + 1)). as_was ∙ before k within ∙ sym stays)
          (sold_stays (k + 1)))
          (λ (as_sold : slice_index now.units k ≡ units_in_orders (k + 1) kept). as_sold ∙ counted (k + 1))
          (bumps.each k (omega (arith, within, size))) in
          is_now ∙ sym (wanted k within)
        where
          get_at : List ℕ → ℕ → ℕ
          get_at units i = get_or units i 0

  -- the subjects of the items that come or no longer count

  subject_same : (item : ℕ) → subject_in (map (sold_item order) t.items) item ≡ subject_at t item
  subject_same item = ap (λ (o : Option ItemRow). unwrap_or (option_map (λ i. i.subject) o) Arts) (numbered_map (sold_item order) t.items item) ∙ by (row_numbered t.items item)
    where
      by : (o : Option ItemRow) → unwrap_or (option_map (λ (i : ItemRow). i.subject) (option_map (sold_item order) o)) Arts ≡ unwrap_or (option_map (λ i. i.subject) o) Arts
      by None = refl
      by (Some i) = refl

  abbrev touched : List Subject
  touched = subjects_in after.items order ++ gone_subjects after.items gone

  in_subjects : (o : OrderRow) (s : Subject) → Contains (ranks_change t (items_of o)) (key.BestIn s) → Contains (subjects_in after.items o) s
  in_subjects o s has =
      let found = contains_unmap (λ (item : ℕ). key.BestIn (subject_at t item)) (items_of o) (key.BestIn s) has in
      let is : subject_in after.items found.0 ≡ s = subject_same found.0 ∙ a_subject (subject_at t found.0) s found.2 in
      subst (Contains (subjects_in after.items o)) is (contains_map (subject_in after.items) (items_of o) found.0 found.1)

  in_touched : (s : Subject) → Contains (ranks_change t (items_of order)) (key.BestIn s) ⊎ Contains (unranked_changes t gone) (key.BestIn s) → Contains touched s
  in_touched s changes =
      ⊎_elim
      (λ here. Contains-append_left (subjects_in after.items order) (gone_subjects after.items gone) s (in_subjects order s here))
      (λ there_is. Contains-append_right (subjects_in after.items order) (gone_subjects after.items gone) s (by gone there_is))
      changes
    where
      by : (left : Option OrderRow) → Contains (unranked_changes t left) (key.BestIn s) → Contains (gone_subjects after.items left) s
      by None has = absurd (omega (arith, has.1))
      by (Some o) has = in_subjects o s has

  module _ (now : Units) (units : AreSoldLately after now) (number : ℕ) (lists : List (List ℕ)) (old new : Key → ℕ)
      (renews : Renews (best t) (standing_best now) number touched lists old new) where
    runs : Runs (map (λ i. i.id) after.items)
    runs = subst Runs (ids t.items) sound.ids.items
      where
        ids : (items : List ItemRow) → map (λ i. i.id) items ≡ map (λ i. i.id) (map (sold_item order) items)
        ids [] = refl
        ids (i ∷ items) = ap (λ (ns : List ℕ). i.id ∷ ns) (ids items)

    shown_is : (s : Subject) → standing_best now s ≡ best after s
    shown_is s = standing_best_is after now s runs units

    -- the lists are those of the tables after it
    pub lists_after : lists ≡ map (best after) subjects
    lists_after = ext_get_or [] lists (map (best after) subjects) (renews.size ∙ sym (length-map subjects (best after))) each
      where
        each : (k : ℕ) → k < length lists → get_or lists k [] ≡ get_or (map (best after) subjects) k []
        each k lt = by (slice_get subjects k) refl
          where
            within : k < length subjects
            within = omega (arith, lt, renews.size)

            by : (o : Option Subject) → slice_get subjects k ≡ o → get_or lists k [] ≡ get_or (map (best after) subjects) k []
            by None is = absurd (some_there subjects k within is)
            by (Some s) is =
                ⊎_elim
                (λ (stays : (get_or lists k [] ≡ best t s) × (new (key.BestIn s) ≡ old (key.BestIn s))).
                ⊎_elim
                (λ changes. renews.all k s is (in_touched s changes) ∙ shown_is s ∙ sym (at s is))
                (λ (same : best after s ≡ best t s). stays.0 ∙ sym same ∙ sym (at s is))
                (ranks_frame t sound order s))
                (λ renewed. renewed.0 ∙ shown_is s ∙ sym (at s is))
                (renews.each k s is)
              where
                at : (s : Subject) → slice_get subjects k ≡ Some s → get_or (map (best after) subjects) k [] ≡ best after s
                at s is = value_at (best after) subjects k s [] is

    -- and the keys that show others get the number
    pub ranks_raised : RaisedFor t after number (ranks_change t (items_of order) ++ unranked_changes t gone) old new
    ranks_raised = record {
      each = λ k. ⊎_elim (λ best_in. best_each k best_in.0 best_in.1) (λ apart. inl (renews.others k apart)) (by_kind k);
      all = λ k has differs. ⊎_elim (λ best_in. best_all k best_in.0 best_in.1 has differs) (λ apart. absurd (other_kind k apart has)) (by_kind k);
    }
      where
        status : (s : Subject) → IsRenewed (best t s) (standing_best now s) number (get_or lists (place s) []) (old (key.BestIn s)) (new (key.BestIn s))
        status s = renews.each (place s) s (there s)

        best_each : (k : Key) (s : Subject) → k ≡ key.BestIn s → (new k ≡ old k) ⊎ ((row_of after k ≢ row_of t k) × (new k ≡ number))
        best_each k s is =
            ⊎_elim
            (λ stays. inl (ap new is ∙ stays.1 ∙ sym (ap old is)))
            (λ renewed. inr (λ same. renewed.1 (sym (shown (best after s) (best t s) (sym (ap (row_of after) is) ∙ same ∙ ap (row_of t) is)) ∙ sym (shown_is s)), ap new is ∙ renewed.2))
            (status s)

        best_all : (k : Key) (s : Subject) → k ≡ key.BestIn s → Contains (ranks_change t (items_of order) ++ unranked_changes t gone) k → row_of after k ≢ row_of t k → new k ≡ number
        best_all k s is has differs =
            ⊎_elim
            (λ stays.
            let touched_is : Contains touched s = in_touched s (Contains-append_cases (ranks_change t (items_of order)) (unranked_changes t gone) (key.BestIn s) (subst (Contains (ranks_change t (items_of order) ++ unranked_changes t gone)) is has)) in
            let same : best after s ≡ best t s = sym (shown_is s) ∙ sym (renews.all (place s) s (there s) touched_is) ∙ stays.0 in
            absurd (differs (ap (row_of after) is ∙ ap row.Items same ∙ sym (ap (row_of t) is))))
            (λ renewed. ap new is ∙ renewed.2)
            (status s)

        of_kind : (items : List ℕ) (k : Key) → Contains (ranks_change t items) k → (s : Subject) × (k ≡ key.BestIn s)
        of_kind items k has = let found = contains_unmap (λ (item : ℕ). key.BestIn (subject_at t item)) items k has in (subject_at t found.0, sym found.2)

        other_kind : (k : Key) → ((s : Subject) → k ≢ key.BestIn s) → Contains (ranks_change t (items_of order) ++ unranked_changes t gone) k → ⊥
        other_kind k apart has =
            ⊎_elim
            (λ here. let kind = of_kind (items_of order) k here in apart kind.0 kind.1)
            (λ left. by gone left)
            (Contains-append_cases (ranks_change t (items_of order)) (unranked_changes t gone) k has)
          where
            by : (o : Option OrderRow) → Contains (unranked_changes t o) k → ⊥
            by None left = absurd (omega (arith, left.1))
            by (Some o) left = let kind = of_kind (items_of o) k left in apart kind.0 kind.1
