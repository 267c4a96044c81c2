-- The kept lists once an item was administered: those of the tables after it, and which key shows another list.
use Rattle.std.proofs.Common.{◌≡◌, ◌≢◌, ℕ, zero, suc, ◌-◌, ◌<◌, List, [], ◌∷◌, length, map, set, get_or, Contains, Option, Some, option_map, unwrap_or, slice_get, inl, inr, ⊎_elim, ap₂, refl, sym, ◌∙◌, ap, subst, arith}
use Rattle.std.specs.Global.{Global}
use Rattle.std.specs.Prelude.{Vec}
use Rattle.std.proofs.lemmas.List.{length-map, map-set}
use Rattle.std.proofs.lemmas.List.Elements.{Contains-push_cases}
use Rattle.std.proofs.lemmas.Option.{get_or_from_slice_get}
use Rattle.shop_model.specs.asked.AdminAsked.{AdminAsked}
use Rattle.shop_model.specs.declared.subject.Subject.{Subject}
use Rattle.shop_model.specs.declared.subject.Subject.TheVariants.{Arts}
use Rattle.shop_model.specs.declared.tables.Tables.{Tables}
use Rattle.shop_model.specs.lists.Rankings.{best, newest, sold_lately}
use Rattle.shop_model.specs.rows.Limits.{day_of}
use Rattle.shop_model.specs.rows.Lookups.{row_numbered}
use Rattle.shop_model.specs.rows.Rows.{ItemRow}
use Rattle.shop_model.specs.rows.Sound.{Has, Runs}
use Rattle.shop_model.specs.rows.Subjects.{subjects}
use Rattle.shop_model.specs.trade.Mending.{mended_item, with_mended, tables_mended}
use Rattle.shop_history.specs.declared.keys.Key.{Key}
use Rattle.shop_history.specs.declared.keys.Key.TheVariants as key
use Rattle.shop_history.specs.declared.keys.Row.TheVariants as row
use Rattle.shop_history.specs.Keys.{row_of}
use Rattle.shop_history.specs.MayChange.{subject_at}
use Rattle.shop_history.proofs.MendFrame.{mended_frame}
use Rattle.shop_history.proofs.cited.Places.{has_row, seen_set}
use Rattle.shop_history.proofs.cited.Versions.{RaisedFor}
use Rattle.shop_ranking.specs.StandingBest.{AreSoldLately}
use Rattle.shop_ranking.specs.StandingNewest.{Days, AreAsPublished, standing_newest}
use Rattle.shop_ranking.proofs.cited.Standing.{standing_best_is, standing_newest_is}
use Rattle.shop_book.specs.declared.lists.Lists.{Lists}
use Rattle.shop_book.specs.declared.rows.Rows.{Rows}
use Rattle.shop_book.specs.KeptLists.{AreLists}
use Rattle.shop_book.specs.Mending.{IsMended, IsListedAnew}
use Rattle.shop_book.specs.Places.{subject_id}
use Rattle.shop_book.proofs.KeptLists.{value_at}
use Rattle.shop_book.proofs.RankedSales.{shown}
use Rattle.shop_book.proofs.Grid.{set_here}
use Rattle.shop_book.proofs.SubjectIds.{there, subject_at_place}
use Rattle.shop_book.proofs.WatchingLemmas.{key_cases}

values_same : {A B : Type 0} (f g : A → B) (xs : List A) → ((k : ℕ) (x : A) → slice_get xs k ≡ Some x → g x ≡ f x) → map g xs ≡ map f xs
values_same f g [] same = refl
values_same f g (x ∷ xs) same = ap₂ (λ y ys. y ∷ ys) (same 0 x refl) (values_same f g xs (λ k y at. same (suc k) y at))

-- where two functions differ at one place, its value alone is set
pub value_set : {A B : Type 0} (f g : A → B) (xs : List A) (k : ℕ) (x : A) → slice_get xs k ≡ Some x
    → ((j : ℕ) (y : A) → slice_get xs j ≡ Some y → j ≢ k → g y ≡ f y) → set (map g xs) k (f x) ≡ map f xs
value_set f g [] k x at same = absurd cc
value_set f g (y ∷ ys) zero x at same = ap₂ (λ z zs. z ∷ zs) (ap f (cc)) (values_same f g ys (λ j z there. same (suc j) z there (λ e. cc)))
value_set f g (y ∷ ys) (suc k) x at same =
    ap₂ (λ z zs. z ∷ zs) (same 0 y refl (λ e. cc)) (value_set f g ys k x at (λ j z there apart. same (suc j) z there (λ e. apart (cc))))

-- where a subject's newest items were listed anew, the key that shows them gets the number if it shows another list
pub newest_raised : (t now : Tables) (number : ℕ) (subject : Subject) (was is : List ℕ) (old new : Key → ℕ) → was ≡ newest t subject → is ≡ newest now subject
    → IsListedAnew was is number subject old new → RaisedFor t now number (key.NewIn subject ∷ []) old new
newest_raised t now number subject was is old new was_is newest_is anew = record {
  each = λ k.
      ⊎_elim
      (λ (same : k ≡ key.NewIn subject).
      ⊎_elim
      (λ stays. inl (ap new same ∙ stays.1 ∙ sym (ap old same)))
      (λ changed. inr (
        (λ equal. changed.1 (was_is ∙ sym (shown (newest now subject) (newest t subject) (sym (ap (row_of now) same) ∙ equal ∙ ap (row_of t) same)) ∙ sym newest_is)),
        ap new same ∙ changed.2,
      ))
      anew.here)
      (λ (apart : k ≢ key.NewIn subject). inl (anew.others k apart))
      (key_cases k (key.NewIn subject));
  all = λ k has differs.
      ⊎_elim
      (λ (same : k ≡ key.NewIn subject).
      ⊎_elim
      (λ stays. absurd (differs (ap (row_of now) same ∙ ap row.Items (sym newest_is ∙ stays.0 ∙ was_is) ∙ sym (ap (row_of t) same))))
      (λ changed. ap new same ∙ changed.2)
      anew.here)
      (λ (apart : k ≢ key.NewIn subject).
      ⊎_elim (λ (none : Contains [] k). absurd (omega (arith, none.1))) (λ (here : key.NewIn subject ≡ k). absurd (apart (sym here))) (Contains-push_cases [] (key.NewIn subject) k has))
      (key_cases k (key.NewIn subject));
}

module _ (t : Tables) (stamp : ℕ) (asked : AdminAsked) (item : ℕ) (rows : Rows) (is : IsMended t stamp asked item rows) where
  abbrev pub mended : ItemRow
  mended = mended_item t stamp asked is.row

  abbrev now : Tables
  now = with_mended t stamp asked (Some is.row)

  -- the tables after it
  now_is : tables_mended t stamp asked ≡ now
  now_is = ap (with_mended t stamp asked) is.there

  there_is : row_numbered t.items item ≡ Some is.row
  there_is = ap (row_numbered t.items) is.asks ∙ is.there

  pub its_subject : subject_at t item ≡ is.row.subject
  its_subject = ap (λ (o : Option ItemRow). unwrap_or (option_map (λ i. i.subject) o) Arts) there_is

  pub item_has : Has (length t.items) item
  item_has = has_row t.items item is.row there_is

  -- what is seen of all items, where the same is seen of this one
  seen : {B : Type 0} (see : ItemRow → B) → see mended ≡ see is.row → map see now.items ≡ map see t.items
  seen see same = seen_set see t.items asked.item is.row mended is.there same

  items_are : rows.items.items ≡ now.items
  items_are = is.items ∙ ap (λ (u : Tables). u.items) now_is

  same_length : length now.items ≡ length t.items
  same_length = sym (length-map now.items (λ (i : ItemRow). i.id)) ∙ ap (λ (ids : List ℕ). length ids) (seen (λ i. i.id) refl) ∙ length-map t.items (λ (i : ItemRow). i.id)

  pub items_size : length rows.items.items ≡ length t.items
  items_size = ap length items_are ∙ same_length

  -- the row that is there now
  pub row_now : (r : ItemRow) → r ≡ get_or rows.items.items (item - 1) r → r ≡ mended
  row_now r at =
      at
      ∙ ap (λ (items : List ItemRow). get_or items (item - 1) r) items_are
      ∙ ap (λ n. get_or now.items (n - 1) r) is.asks
      ∙ get_or_from_slice_get now.items (asked.item - 1) mended r
      (set_here t.items (asked.item - 1) mended (let has = item_has in omega (arith, has.first, has.last, is.asks)))

  runs : Runs (map (λ i. i.id) now.items)
  runs = subst Runs (sym (seen (λ i. i.id) refl)) is.sound.ids.items

  abbrev subject : Subject
  subject = subject_at t item

  abbrev place : ℕ
  place = subject_id subject - 1

  -- other subjects have the items that they had
  newest_stays : (s : Subject) → s ≢ subject → newest now s ≡ newest t s
  newest_stays s apart = ⊎_elim (λ has. absurd (by has.0 has.1 has.2)) (λ same. shown (newest now s) (newest t s) same) (mended_frame t stamp asked is.row is.there (key.NewIn s))
    where
      by : (k : ℕ) → k < 2 → get_or (key.Item asked.item ∷ key.NewIn (subject_at t asked.item) ∷ []) k (key.NewIn s) ≡ key.NewIn s → ⊥
      by zero lt at = absurd cc
      by (suc zero) lt at = let same : subject_at t asked.item ≡ s = cc in apart (sym same ∙ ap (subject_at t) (sym is.asks))
      by (suc (suc k)) lt at = omega (arith, lt)

  module _ (lists : Lists) (are : AreLists t lists) (days : Days) (days_are : days ≡ record lists.newest { days = set lists.newest.days (item - 1) (day_of stamp) }) where
    published : AreAsPublished now days
    published = record {
      subjects = ap (λ (d : Days). d.subjects) days_are ∙ are.days.subjects ∙ sym (seen (λ i. i.subject) refl);
      titles = ap (λ (d : Days). d.titles) days_are ∙ are.days.titles ∙ sym (seen (λ i. i.title) refl);
      days =
          ap (λ (d : Days). d.days) days_are
          ∙ ap (λ (ds : List ℕ). set ds (item - 1) (day_of stamp)) are.days.days
          ∙ ap (λ n. set (map (λ (i : ItemRow). i.published) t.items) (n - 1) (day_of stamp)) is.asks
          ∙ sym (map-set (λ (i : ItemRow). i.published) t.items (asked.item - 1) mended);
    }

    units : AreSoldLately now lists.best
    unfolding sold_lately
    units = record { subjects = are.units.subjects ∙ sym (seen (λ i. i.subject) refl); units = are.units.units ∙ sym (seen (λ i. sold_lately t i.id) refl) }

    best_same : (s : Subject) → best t s ≡ best now s
    best_same s = sym (standing_best_is t lists.best s is.sound.ids.items are.units) ∙ standing_best_is now lists.best s runs units

    newest_is : (s : Subject) → standing_newest days s ≡ newest now s
    newest_is s = standing_newest_is now days s runs published

    rows_after : set lists.newest_rows.items place (standing_newest days subject) ≡ map (newest now) subjects
    rows_after =
        ap₂ (λ (ls : List (List ℕ)) (l : List ℕ). set ls place l) are.newest_rows (newest_is subject)
        ∙ value_set (newest now) (newest t) subjects place subject (there subject)
        (λ k s at apart. sym (newest_stays s (λ same. apart (let id = subject_at_place k s at in let ids = ap subject_id same in omega (arith, id, ids)))))

    -- the lists are those of the tables after it
    pub lists_mended : (listed : Vec (List ℕ) Global) → listed.items ≡ set lists.newest_rows.items place (standing_newest days subject)
        → AreLists (tables_mended t stamp asked) (record lists { newest = days; newest_rows = listed })
    lists_mended listed listed_are = subst (λ (u : Tables). AreLists u (record lists { newest = days; newest_rows = listed })) (sym now_is) (record {
      sold_items = omega (arith, are.sold_items, same_length);
      recent_items = omega (arith, are.recent_items, same_length);
      sold = are.sold;
      recent = are.recent;
      units = units;
      days = published;
      best_rows = are.best_rows ∙ ap (λ (f : Subject → List ℕ). map f subjects) (λ i s. best_same s i);
      newest_rows = listed_are ∙ rows_after;
      auths = are.auths;
    })

    module _ (number : ℕ) (old new : Key → ℕ) (anew : IsListedAnew (get_or lists.newest_rows.items place []) (standing_newest days subject) number subject old new) where
      was_is : get_or lists.newest_rows.items place [] ≡ newest t subject
      was_is = ap (λ (ls : List (List ℕ)). get_or ls place []) are.newest_rows ∙ value_at (newest t) subjects place subject [] (there subject)

      pub raised_mended : RaisedFor t (tables_mended t stamp asked) number (key.NewIn subject ∷ []) old new
      raised_mended = subst (λ (u : Tables). RaisedFor t u number (key.NewIn subject ∷ []) old new) (sym now_is) (newest_raised t now number subject _ _ old new was_is (newest_is subject) anew)
