-- The kept lists once an item was added: those of the tables after it, and which key shows another list.
use Rattle.std.proofs.Common.{◌≡◌, ◌≢◌, ℕ, zero, suc, ◌+◌, ◌-◌, List, [], ◌∷◌, ◌++◌, length, map, set, get_or, Contains, ◌⊎◌, ⊎_elim, refl, sym, ◌∙◌, ap, ap₂, subst, arith, length-append}
use Rattle.std.specs.Global.{Global}
use Rattle.std.specs.Prelude.{Vec}
use Rattle.std.proofs.lemmas.List.{length-map, map-append, set_at}
use Rattle.shop_model.specs.asked.AddAsked.{AddAsked}
use Rattle.shop_model.specs.declared.subject.Subject.{Subject}
use Rattle.shop_model.specs.declared.tables.Tables.{Tables}
use Rattle.shop_model.specs.lists.Rankings.{best, newest, sold_lately}
use Rattle.shop_model.specs.lists.Related.{Sold, last, sold_of, units_in_orders}
use Rattle.shop_model.specs.rows.Empty.{no_tables}
use Rattle.shop_model.specs.rows.Limits.{counted_orders, day_of}
use Rattle.shop_model.specs.rows.Rows.{ItemRow}
use Rattle.shop_model.specs.rows.Sound.{Runs}
use Rattle.shop_model.specs.rows.Subjects.{subjects}
use Rattle.shop_model.specs.trade.Adding.{added_item, tables_added, with_item}
use Rattle.shop_history.specs.declared.keys.Key.{Key}
use Rattle.shop_history.specs.declared.keys.Key.TheVariants as key
use Rattle.shop_history.specs.MayChange.{add_changes}
use Rattle.shop_history.proofs.AddFrame.{add_frame}
use Rattle.shop_history.proofs.SoundSales.{rows_push}
use Rattle.shop_history.proofs.cited.Versions.{RaisedFor}
use Rattle.shop_ranking.specs.StandingBest.{AreSoldLately}
use Rattle.shop_ranking.specs.StandingNewest.{Days, AreAsPublished, standing_newest}
use Rattle.shop_ranking.proofs.cited.Standing.{standing_newest_is}
use Rattle.shop_book.specs.declared.addition.Addition.{Addition}
use Rattle.shop_book.specs.declared.lists.Lists.{Lists}
use Rattle.shop_book.specs.declared.rows.Rows.{Rows}
use Rattle.shop_book.specs.Adding.{IsAdded}
use Rattle.shop_book.specs.KeptLists.{AreLists, UnitsAre}
use Rattle.shop_book.specs.Mending.{IsListedAnew}
use Rattle.shop_book.specs.Places.{subject_id}
use Rattle.shop_book.specs.Planning.{IsAddition}
use Rattle.shop_book.specs.RowsNow.{tables_with}
use Rattle.shop_book.specs.Watching.{MayCome}
use Rattle.shop_book.proofs.KeptLists.{sold_is, value_at}
use Rattle.shop_book.proofs.MendedLists.{value_set, newest_raised}
use Rattle.shop_book.proofs.RankedSales.{shown}
use Rattle.shop_book.proofs.SubjectIds.{there, subject_at_place}

-- ids run where an item that is asked for is behind the others
pub runs_behind : (rows : Rows) → MayCome rows → (asked : AddAsked) (items : List ItemRow) → ((t : Tables) → items ≡ (tables_added (tables_with t rows) 0 asked).items) → Runs (map (λ i. i.id) items)
runs_behind rows may asked items are =
    subst (λ (items : List ItemRow). Runs (map (λ i. i.id) items)) (sym (are no_tables))
    (rows_push (λ (i : ItemRow). i.id) rows.items.items (added_item (tables_with no_tables rows) 0 asked) refl may.items may.numbered)

-- the ranks of all items with it are those of the units that were sold
pub is_addition : (t : Tables) (asked : AddAsked) (a : Addition) (items : List ItemRow) (kept : List Sold) → a.item ≡ added_item t 0 asked → items ≡ (tables_added t 0 asked).items
    → kept ≡ map sold_of (last counted_orders t.orders) → UnitsAre items (λ item. units_in_orders item kept) a.best
    → a.newest.subjects ≡ map (λ i. i.subject) items → a.newest.titles ≡ map (λ i. i.title) items → a.newest.days ≡ map (λ i. i.published) items → IsAddition t asked a
is_addition t asked a items kept item are sold units of_subjects of_titles of_days =
    let now : Tables = tables_added t 0 asked in
    record {
      item_is = item;
      units = record {
        subjects = units.subjects ∙ ap (map (λ (i : ItemRow). i.subject)) are;
        units =
            units.units
            ∙ ap (λ (f : ℕ → ℕ). map (λ (i : ItemRow). f i.id) items) (λ i id. sold_is now kept id sold i)
            ∙ ap (map (λ (i : ItemRow). sold_lately now i.id)) are;
      };
      days = record {
        subjects = of_subjects ∙ ap (map (λ (i : ItemRow). i.subject)) are;
        titles = of_titles ∙ ap (map (λ (i : ItemRow). i.title)) are;
        days = of_days ∙ ap (map (λ (i : ItemRow). i.published)) are;
      };
    }

-- what is seen of all items and of one behind them
seen_behind : {B : Type 0} (see : ItemRow → B) (items : List ItemRow) (one other : ItemRow) → see one ≡ see other → map see (items ++ one ∷ []) ≡ map see (items ++ other ∷ [])
seen_behind {B} see items one other same =
    map-append see items (one ∷ []) ∙ ap (λ (x : B). map see items ++ x ∷ []) same ∙ sym (map-append see items (other ∷ []))

module _ (t : Tables) (stamp : ℕ) (asked : AddAsked) (a : Addition) (rows : Rows) (is : IsAdded t stamp asked a rows) where
  abbrev pub item : ItemRow
  item = added_item t stamp asked

  abbrev now : Tables
  now = with_item t item

  -- the same item on day 0
  abbrev undated : ItemRow
  undated = added_item t 0 asked

  one_more : length now.items ≡ length t.items + 1
  one_more = length-append t.items (item ∷ [])

  pub items_size : length rows.items.items ≡ length t.items + 1
  items_size = ap length is.items ∙ one_more

  -- the row that came
  pub row_came : (r : ItemRow) → r ≡ get_or rows.items.items (length rows.items.items - 1) r → r ≡ item
  row_came r at =
      at
      ∙ ap (λ n. get_or rows.items.items n r) (let place : length rows.items.items - 1 ≡ length t.items = omega (arith, items_size) in place)
      ∙ ap (λ (items : List ItemRow). get_or items (length t.items) r) is.items
      ∙ behind t.items item r
    where
      behind : (xs : List ItemRow) (x d : ItemRow) → get_or (xs ++ x ∷ []) (length xs) d ≡ x
      behind [] x d = refl
      behind (y ∷ ys) x d = behind ys x d

  units : AreSoldLately now a.best
  unfolding sold_lately
  units = record {
    subjects = is.addition.units.subjects ∙ seen_behind (λ i. i.subject) t.items undated item refl;
    units = is.addition.units.units ∙ seen_behind (λ i. sold_lately t i.id) t.items undated item refl;
  }

  pub days_size : length a.newest.days ≡ length t.items + 1
  days_size = ap length is.addition.days.days ∙ length-map (t.items ++ undated ∷ []) (λ (i : ItemRow). i.published) ∙ length-append t.items (undated ∷ [])

  -- other lists stay

  unchanged : (s : Subject) → Contains (add_changes t asked) (key.BestIn s) → ⊥
  unchanged s (zero, within, at) = absurd cc
  unchanged s (suc zero, within, at) = absurd cc
  unchanged s (suc (suc zero), within, at) = absurd cc
  unchanged s (suc (suc (suc zero)), within, at) = absurd cc
  unchanged s (suc (suc (suc (suc k))), within, at) = omega (arith, within)

  best_stays : (s : Subject) → best now s ≡ best t s
  best_stays s = ⊎_elim (λ has. absurd (unchanged s has)) (λ same. shown (best now s) (best t s) same) (add_frame t is.sound stamp asked (key.BestIn s))

  newest_of : (s : Subject) → Contains (add_changes t asked) (key.NewIn s) → s ≡ asked.subject
  newest_of s (zero, within, at) = absurd cc
  newest_of s (suc zero, within, at) = absurd cc
  newest_of s (suc (suc zero), within, at) = absurd cc
  newest_of s (suc (suc (suc zero)), within, at) = cc
  newest_of s (suc (suc (suc (suc k))), within, at) = absurd (omega (arith, within))

  newest_stays : (s : Subject) → s ≢ asked.subject → newest now s ≡ newest t s
  newest_stays s apart = ⊎_elim (λ has. absurd (apart (newest_of s has))) (λ same. shown (newest now s) (newest t s) same) (add_frame t is.sound stamp asked (key.NewIn s))

  abbrev place : ℕ
  place = subject_id asked.subject - 1

  module _ (lists : Lists) (are : AreLists t lists) (days : Days) (days_are : days ≡ record a.newest { days = set a.newest.days (length t.items) (day_of stamp) }) where
    dated : set (map (λ i. i.published) (t.items ++ undated ∷ [])) (length t.items) (day_of stamp) ≡ map (λ i. i.published) now.items
    dated =
        ap (λ (ds : List ℕ). set ds (length t.items) (day_of stamp)) (map-append (λ (i : ItemRow). i.published) t.items (undated ∷ []))
        ∙ set_at (map (λ (i : ItemRow). i.published) t.items) undated.published [] (day_of stamp) (length t.items) (length-map t.items (λ (i : ItemRow). i.published))
        ∙ sym (map-append (λ (i : ItemRow). i.published) t.items (item ∷ []))

    published : AreAsPublished now days
    published = record {
      subjects = ap (λ (d : Days). d.subjects) days_are ∙ is.addition.days.subjects ∙ seen_behind (λ i. i.subject) t.items undated item refl;
      titles = ap (λ (d : Days). d.titles) days_are ∙ is.addition.days.titles ∙ seen_behind (λ i. i.title) t.items undated item refl;
      days = ap (λ (d : Days). d.days) days_are ∙ ap (λ (ds : List ℕ). set ds (length t.items) (day_of stamp)) is.addition.days.days ∙ dated;
    }

    newest_is : (s : Subject) → standing_newest days s ≡ newest now s
    newest_is s = standing_newest_is now days s is.sound_after.ids.items published

    rows_after : set lists.newest_rows.items place (standing_newest days asked.subject) ≡ map (newest now) subjects
    rows_after =
        ap₂ (λ (ls : List (List ℕ)) (l : List ℕ). set ls place l) are.newest_rows (newest_is asked.subject)
        ∙ value_set (newest now) (newest t) subjects place asked.subject (there asked.subject)
        (λ k s at apart. sym (newest_stays s (λ same. apart (let id = subject_at_place k s at in let ids = ap subject_id same in omega (arith, id, ids)))))

    -- the lists are those of the tables after it
    pub lists_added : (listed : Vec (List ℕ) Global) → listed.items ≡ set lists.newest_rows.items place (standing_newest days asked.subject)
        → AreLists now (record lists { best = a.best; newest = days; newest_rows = listed })
    lists_added listed listed_are = record {
      sold_items = omega (arith, are.sold_items, one_more, is.room);
      recent_items = omega (arith, are.recent_items, one_more, is.room);
      sold = are.sold;
      recent = are.recent;
      units = units;
      days = published;
      best_rows = are.best_rows ∙ ap (λ (f : Subject → List ℕ). map f subjects) (λ i s. sym (best_stays s) i);
      newest_rows = listed_are ∙ rows_after;
      auths = are.auths;
    }

    pub raised_added : (number : ℕ) (old new : Key → ℕ) → IsListedAnew (get_or lists.newest_rows.items place []) (standing_newest days asked.subject) number asked.subject old new
        → RaisedFor t now number (key.NewIn asked.subject ∷ []) old new
    raised_added number old new anew =
        newest_raised t now number asked.subject _ _ old new
        (ap (λ (ls : List (List ℕ)). get_or ls place []) are.newest_rows ∙ value_at (newest t) subjects place asked.subject [] (there asked.subject))
        (newest_is asked.subject) anew
