-- Units that are set item by item, and lists of best sold items that are written anew subject by subject.
use Rattle.std.proofs.Common.{◌≡◌, ◌≢◌, ℕ, ◌+◌, ◌-◌, ◌<◌, ◌≤◌, ◌==◌, inl, inr, ⊎_elim, true, false, List, [], ◌∷◌, ◌++◌, length, map, take, set, get_or, All, Contains, Option, Some, option_map, unwrap_or, slice_get, refl, sym, ◌∙◌, ap, subst, arith, append_assoc, length-set}
use Rattle.std.proofs.lemmas.Bool.{cond-false, eqb-true, eqb-false, ne_eqb}
use Rattle.std.proofs.lemmas.Grind.{get_or-set_at}
use Rattle.std.proofs.lemmas.List.{get_or-set_other, map-append, take_all, take_more}
use Rattle.std.proofs.lemmas.List.Elements.{Contains-push_cases}
use Rattle.std.proofs.lemmas.Option.{same_Some, slice_get_read, slice_get_within}
use Rattle.shop_model.specs.declared.subject.Subject.{Subject}
use Rattle.shop_model.specs.declared.subject.Subject.TheVariants.{Arts}
use Rattle.shop_model.specs.rows.Rows.{ItemRow, LineRow, OrderRow}
use Rattle.shop_model.specs.rows.Sound.{Has}
use Rattle.shop_model.specs.rows.Subjects.{subjects}
use Rattle.shop_history.specs.declared.keys.Key.{Key}
use Rattle.shop_history.specs.declared.keys.Key.TheVariants as key
use Rattle.shop_history.specs.MayChange.{items_of}
use Rattle.shop_ranking.specs.StandingBest.{Units}
use Rattle.shop_book.specs.Sales.{AreThere, Bumps, IsRenewed, Renews, subject_in}
use Rattle.shop_book.specs.Places.{subject_id}
use Rattle.shop_book.proofs.Ascending.{by_test}
use Rattle.shop_book.proofs.SubjectIds.{subject_at_place}

-- the items of the first lines of an order

pub items_more : (lines : List LineRow) (i : ℕ) (line : LineRow) → i < length lines → line ≡ get_or lines i line
    → map (λ l. l.item) (take (i + 1) lines) ≡ map (λ l. l.item) (take i lines) ++ line.item ∷ []
items_more lines i line within is =
    ap (map (λ (l : LineRow). l.item)) (take_more lines i line within ∙ ap (λ (l : LineRow). take i lines ++ l ∷ []) (sym is))
    ∙ map-append (λ (l : LineRow). l.item) (take i lines) (line ∷ [])

pub items_all : (lines : List LineRow) (i : ℕ) (order : OrderRow) → lines ≡ order.lines → length lines ≤ i → map (λ l. l.item) (take i lines) ≡ items_of order
items_all lines i order are all = ap (map (λ (l : LineRow). l.item)) (take_all i lines all ∙ are)

-- their subjects
pub subjects_more : (items : List ItemRow) (lines : List LineRow) (i : ℕ) (line : LineRow) (done : List Subject) → i < length lines → line ≡ get_or lines i line
    → (done ++ map (subject_in items) (map (λ l. l.item) (take i lines))) ++ subject_in items line.item ∷ [] ≡ done ++ map (subject_in items) (map (λ l. l.item) (take (i + 1) lines))
subjects_more items lines i line done within is =
    append_assoc done (map (subject_in items) (map (λ (l : LineRow). l.item) (take i lines))) (subject_in items line.item ∷ [])
    ∙ ap (λ (ss : List Subject). done ++ ss)
    (sym (map-append (subject_in items) (map (λ (l : LineRow). l.item) (take i lines)) (line.item ∷ [])) ∙ ap (map (subject_in items)) (sym (items_more lines i line within is)))

pub subject_is : (items : List ItemRow) (id : ℕ) (item : ItemRow) → Has (length items) id → item ≡ get_or items (id - 1) item → subject_in items id ≡ item.subject
subject_is items id item has is =
    ap (λ (found : Option ItemRow). unwrap_or (option_map (λ i. i.subject) found) Arts)
    (cond-false _ _ _ (ne_eqb id 0 (λ none. omega (arith, none, has.first))) ∙ slice_get_read items (length items) (id - 1) item refl (omega (arith, has.first, has.last)) is)

pub item_there : (size : ℕ) (order : OrderRow) (lines : List LineRow) (i : ℕ) (line : LineRow) → AreThere size order → lines ≡ order.lines → i < length lines → line ≡ get_or lines i line → Has size line.item
item_there size order lines i line there are within is =
    subst (λ (l : LineRow). Has size l.item) (sym is) (subst (All (λ (l : LineRow). Has size l.item)) (sym are) there i line within)

-- the units of one item more
module _ (sold : ℕ → ℕ) (old new : Units) (item : ℕ) (has : Has (length old.units) item) (subjects_are : new.subjects ≡ old.subjects) (units_are : new.units ≡ set old.units (item - 1) (sold item)) where
  set_place : (place : ℕ) → place ≡ item - 1 → get_or new.units place 0 ≡ sold (place + 1)
  set_place place here =
      ap (λ (units : List ℕ). get_or units place 0) units_are
      ∙ get_or-set_at old.units (item - 1) place (sold item) 0 here (omega (arith, has.first, has.last))
      ∙ ap sold (let same : item ≡ place + 1 = omega (arith, here, has.first) in same)

  other_place : (place : ℕ) → place ≢ item - 1 → get_or new.units place 0 ≡ get_or old.units place 0
  other_place place apart = ap (λ (units : List ℕ). get_or units place 0) units_are ∙ get_or-set_other old.units (item - 1) place (sold item) 0 apart

  pub bumps_more : (was : Units) (done : List ℕ) → Bumps sold was done old → Bumps sold was (done ++ item ∷ []) new
  bumps_more was done bumps = record {
    subjects = subjects_are ∙ bumps.subjects;
    size = ap length units_are ∙ length-set old.units (item - 1) (sold item) ∙ bumps.size;
    each = λ place within.
        by_test (place == item - 1)
        (λ (here : (place == item - 1) ≡ true). inr (set_place place (eqb-true place (item - 1) here)))
        (λ (apart : (place == item - 1) ≡ false).
        let stays : get_or new.units place 0 ≡ get_or old.units place 0 = other_place place (eqb-false place (item - 1) apart) in
        ⊎_elim (λ (same : get_or old.units place 0 ≡ get_or was.units place 0). inl (stays ∙ same)) (λ (is : get_or old.units place 0 ≡ sold (place + 1)). inr (stays ∙ is)) (bumps.each place within));
    all = λ other there other_has.
        by_test (other == item)
        (λ (here : (other == item) ≡ true).
        let same : other ≡ item = eqb-true other item here in
        set_place (other - 1) (ap (λ n. n - 1) same) ∙ ap sold (let back : other - 1 + 1 ≡ other = omega (arith, other_has.first) in back))
        (λ (apart : (other == item) ≡ false).
        ⊎_elim
        (λ (before : Contains done other).
        other_place (other - 1) (λ same. eqb-false other item apart (omega (arith, same, has.first, other_has.first))) ∙ bumps.all other before other_has)
        (λ (same : item ≡ other). absurd (eqb-false other item apart (sym same)))
        (Contains-push_cases done item other there));
  }

-- a list that was renewed is renewed again
renewed_again : (was list is : List ℕ) (number before mid after : ℕ) → IsRenewed was is number list before mid → IsRenewed list is number is mid after → IsRenewed was is number is before after
renewed_again was list is number before mid after first second =
    ⊎_elim
    (λ (stayed : (list ≡ was) × (mid ≡ before)).
    ⊎_elim
    (λ (stays : (is ≡ list) × (after ≡ mid)). inl (stays.0 ∙ stayed.0, stays.1 ∙ stayed.1))
    (λ (changes : (is ≡ is) × (list ≢ is) × (after ≡ number)). inr (refl, λ same. changes.1 (stayed.0 ∙ same), changes.2))
    second)
    (λ (changed : (list ≡ is) × (was ≢ is) × (mid ≡ number)).
    ⊎_elim
    (λ (stays : (is ≡ list) × (after ≡ mid)). inr (refl, changed.1, stays.1 ∙ changed.2))
    (λ (changes : (is ≡ is) × (list ≢ is) × (after ≡ number)). absurd (changes.1 changed.0))
    second)
    first

-- the list of one subject is written anew; where it is another one, its key gets this number as its version
pub record IsWritten (is : Subject → List ℕ) (number : ℕ) (subject : Subject) (place : ℕ) (lists lists' : List (List ℕ)) (before after : Key → ℕ) : Type 0 where
  pub place_is : slice_get subjects place ≡ Some subject
  pub lists_are : lists' ≡ set lists place (is subject)
  pub renewed : IsRenewed (get_or lists place []) (is subject) number (is subject) (before (key.BestIn subject)) (after (key.BestIn subject))
  pub others : (k : Key) → k ≢ key.BestIn subject → after k ≡ before k

-- one subject more
module _ (was is : Subject → List ℕ) (number : ℕ) (lists lists' : List (List ℕ)) (old before after : Key → ℕ) (subject : Subject) (place : ℕ) (written : IsWritten is number subject place lists lists' before after)
    (done : List Subject) (renews : Renews was is number done lists old before) where
  list_here : get_or lists' place [] ≡ is subject
  list_here =
      ap (λ (ls : List (List ℕ)). get_or ls place []) written.lists_are
      ∙ get_or-set_at lists place place (is subject) [] refl (let within = slice_get_within subjects place subject written.place_is in omega (arith, within, renews.size))

  list_there : (other : ℕ) → other ≢ place → get_or lists' other [] ≡ get_or lists other []
  list_there other apart = ap (λ (ls : List (List ℕ)). get_or ls other []) written.lists_are ∙ get_or-set_other lists place other (is subject) [] apart

  -- the subject at a place
  here : (other : ℕ) (s : Subject) → slice_get subjects other ≡ Some s → other ≡ place → s ≡ subject
  here other s there same = same_Some s subject (sym there ∙ ap (slice_get subjects) same ∙ written.place_is)

  apart_keys : (other : ℕ) (s : Subject) → slice_get subjects other ≡ Some s → other ≢ place → key.BestIn s ≢ key.BestIn subject
  apart_keys other s there apart same =
      let subject_same : s ≡ subject = cc in
      apart (omega (arith, sym (subject_at_place other s there) ∙ ap subject_id subject_same ∙ subject_at_place place subject written.place_is))

  -- a subject, its list and its version
  abbrev IsSo : Subject → List ℕ → (Key → ℕ) → Type 0
  IsSo s list new = IsRenewed (was s) (is s) number list (old (key.BestIn s)) (new (key.BestIn s))

  renewed_here : IsSo subject (get_or lists' place []) after
  renewed_here =
      subst (λ (list : List ℕ). IsSo subject list after) (sym list_here)
      (renewed_again (was subject) (get_or lists place []) (is subject) number (old (key.BestIn subject)) (before (key.BestIn subject)) (after (key.BestIn subject)) (renews.each place subject written.place_is) written.renewed)

  pub renews_more : Renews was is number (done ++ subject ∷ []) lists' old after
  renews_more = record {
    size = ap length written.lists_are ∙ length-set lists place (is subject) ∙ renews.size;
    each = λ other s there.
        by_test (other == place)
        (λ (is_here : (other == place) ≡ true).
        let same : other ≡ place = eqb-true other place is_here in
        subst (λ (n : ℕ). IsSo s (get_or lists' n []) after) (sym same) (subst (λ (s : Subject). IsSo s (get_or lists' place []) after) (sym (here other s there same)) renewed_here))
        (λ (not_here : (other == place) ≡ false).
        let apart : other ≢ place = eqb-false other place not_here in
        let version : after (key.BestIn s) ≡ before (key.BestIn s) = written.others (key.BestIn s) (apart_keys other s there apart) in
        subst (λ (list : List ℕ). IsSo s list after) (sym (list_there other apart))
        (subst (λ (version : ℕ). IsRenewed (was s) (is s) number (get_or lists other []) (old (key.BestIn s)) version) (sym version) (renews.each other s there)));
    all = λ other s there among.
        by_test (other == place)
        (λ (is_here : (other == place) ≡ true).
        let same : other ≡ place = eqb-true other place is_here in
        ap (λ n. get_or lists' n []) same ∙ list_here ∙ ap is (sym (here other s there same)))
        (λ (not_here : (other == place) ≡ false).
        let apart : other ≢ place = eqb-false other place not_here in
        ⊎_elim
        (λ (seen : Contains done s). list_there other apart ∙ renews.all other s there seen)
        (λ (same : subject ≡ s). absurd (apart_keys other s there apart (ap key.BestIn (sym same))))
        (Contains-push_cases done subject s among));
    others = λ k apart. written.others k (apart subject) ∙ renews.others k apart;
  }
