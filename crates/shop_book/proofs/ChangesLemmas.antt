-- What a change makes of a book.
use Rattle.std.proofs.Common.{◌≡◌, ℕ, suc, ◌+◌, ◌-◌, ◌<◌, ◌≤◌, List, [], ◌∷◌, ◌++◌, length, None, map, ◌⊎◌, ⊎_elim, sym, ◌∙◌, ap, subst, arith, length-append}
use Rattle.std.proofs.lemmas.Bool.{cases_eq, eq-eqb, ne_eqb, cond-true, cond-false}
use Rattle.std.proofs.lemmas.List.Elements.{All-weaker, All-push}
use Rattle.shop_log.specs.Histories.Legal.{push}
use Rattle.shop_model.specs.declared.tables.Tables.{Tables}
use Rattle.shop_model.specs.pages.Show.{check}
use Rattle.shop_model.specs.rows.Limits.{stamp_limit}
use Rattle.shop_model.specs.rows.Rows.{ItemRow}
use Rattle.shop_model.specs.rows.Sound.{Sound, Runs}
use Rattle.shop_history.specs.declared.acts.Entry.{Entry}
use Rattle.shop_history.specs.declared.keys.Key.{Key}
use Rattle.shop_history.specs.Acts.{IsInForm, request_of}
use Rattle.shop_history.specs.Keys.{row_of}
use Rattle.shop_history.specs.Logs.{entries_of, MayFollow, IsGood}
use Rattle.shop_history.specs.MayChange.{MayChange}
use Rattle.shop_history.proofs.cited.GoodTables.{good_log, good_after}
use Rattle.shop_history.proofs.cited.MayChange.{frame}
use Rattle.shop_history.proofs.cited.Versions.{RaisedWhere, versions_after}
use Rattle.shop_history.proofs.cited.Rows.{tables_push}
use Rattle.shop_attempt.specs.declared.attempts.Write.{Write}
use Rattle.shop_attempt.specs.Writes.{written}
use Rattle.shop_book.specs.declared.counts.Counts.{Counts}
use Rattle.shop_book.specs.declared.lists.Lists.{Lists}
use Rattle.shop_book.specs.declared.rows.Rows.{Rows}
use Rattle.shop_book.specs.declared.versions.Versions.{Versions}
use Rattle.shop_book.specs.Additions.{AreAdded}
use Rattle.shop_book.specs.Books.{BookValue, IsBook, tables_of}
use Rattle.shop_book.specs.declared.plan.Plan.{Plan}
use Rattle.shop_book.specs.Changing.{after, IsChange}
use Rattle.shop_book.specs.Counted.{count_in, with_count}
use Rattle.shop_book.specs.KeptLists.{AreLists}
use Rattle.shop_book.specs.Keeping.{IsKept}
use Rattle.shop_book.specs.declared.puts.Put.{Put}
use Rattle.shop_book.specs.Named.{AreNamed}
use Rattle.shop_book.specs.Puts.{all_put}
use Rattle.shop_book.specs.Readiness.{IdsFit, AreFit, AreReady}
use Rattle.shop_book.specs.Watching.{MayCome}
use Rattle.shop_book.specs.RowsNow.{tables_with, HasRoom}
use Rattle.shop_book.specs.Preparing.{IsNext}
use Rattle.shop_book.specs.Stored.{stored, HasPlaces}
use Rattle.shop_book.proofs.AddedItems.{added_roomy}
use Rattle.shop_book.specs.Summaries.{cents_in}
use Rattle.shop_book.proofs.Callers.{entries_mine, entries_theirs}
use Rattle.shop_book.proofs.Readiness.{are_ready}

-- the book after an entry
abbrev pub with_entry : BookValue → Entry → BookValue
with_entry b entry = record { opening = b.opening; log = b.log ++ entry ∷ []; latest = entry.stamp }

-- customers of sound tables are found by name
pub sound_named : (t : Tables) → Sound t → AreNamed t.customers
sound_named t sound = record { users = sound.users; ids = sound.ids.customers }

-- rows that make of some tables others are the rows of these
pub rows_again : (t u : Tables) (rows : Rows) → tables_with t rows ≡ u → tables_with u rows ≡ u
rows_again t u rows is = ap (λ (v : Tables). tables_with v rows) (sym is) ∙ is

-- where a log that is not full takes one entry more
module _ (b : BookValue) (is_book : IsBook b) (left : length b.log < b.opening.limit) where
  good_now : IsGood (tables_of b) (suc (b.opening.limit - length b.log))
  good_now = subst (IsGood (tables_of b)) (omega (arith, left)) (good_log b.opening.tables (b.opening.limit + 1) is_book.opens.good b.log is_book.legal (omega (arith, left)))

  -- one more row may come of each kind
  pub may_come : (rows : Rows) → tables_with b.opening.tables rows ≡ tables_of b → MayCome rows
  may_come rows are = record {
    carts = omega (arith, good_now.room_for.carts, ap (λ (t : Tables). length t.carts) are);
    customers = omega (arith, good_now.room_for.customers, ap (λ (t : Tables). length t.customers) are);
    addresses = omega (arith, good_now.room_for.addresses, ap (λ (t : Tables). length t.addresses) are);
    orders = omega (arith, good_now.room_for.orders, ap (λ (t : Tables). length t.orders) are);
    items = omega (arith, good_now.room_for.items, ap (λ (t : Tables). length t.items) are);
    numbered = subst (λ (items : List ItemRow). Runs (map (λ i. i.id) items)) (sym (ap (λ (t : Tables). t.items) are)) good_now.sound.ids.items;
    named = subst AreNamed (sym (ap (λ (t : Tables). t.customers) are)) (sound_named (tables_of b) good_now.sound);
  }

  module _ (entry : Entry) (bound : entry.stamp ≤ stamp_limit) (form : IsInForm entry.act) (passes : check (tables_of b) (request_of entry.act) ≡ None) where
    good_later : IsGood (after (tables_of b) entry.stamp entry.act) (b.opening.limit - length b.log)
    good_later = good_after (tables_of b) entry (b.opening.limit - length b.log) bound form passes good_now

    -- the ids of the rows after the act fit
    ids_fit : IdsFit (after (tables_of b) entry.stamp entry.act)
    ids_fit = let good = good_later in grind (arith, good.room_for)

    -- so do those of writes that make what it does
    pub are_fit : (rows : Rows) → tables_with b.opening.tables rows ≡ tables_of b → (writes : List Write) → written (tables_of b) entry.stamp writes ≡ after (tables_of b) entry.stamp entry.act
        → AreFit rows entry.stamp writes
    are_fit rows are writes made = record {
      tables = b.opening.tables;
      fits = subst IdsFit (sym (ap (λ (t : Tables). written t entry.stamp writes) are ∙ made)) ids_fit;
      bound = bound;
    }

module _ (b now : BookValue) (is_book : IsBook b) (entry : Entry) (plan : Plan) (puts : List Put) (same_now : b ≡ now) (comes : IsNext now entry plan puts) where
  pub next : IsNext b entry plan puts
  next = subst (λ (v : BookValue). IsNext v entry plan puts) (sym same_now) comes

  follows : MayFollow b.opening.tables b.log entry
  follows = record {
    stamps = All-weaker (λ (e : Entry). e.stamp ≤ b.latest) (λ (e : Entry). e.stamp ≤ entry.stamp) (λ e before. omega (arith, before, next.late)) b.log is_book.stamps;
    bound = next.bound;
    number = next.number;
    form = next.form;
    passes = next.passes;
  }

  pub book_after : IsBook (with_entry b entry)
  book_after = record {
    opens = is_book.opens;
    legal = push entry is_book.legal follows;
    short = omega (arith, length-append b.log (entry ∷ []), next.left);
    stamps = All-push (λ (e : Entry). e.stamp ≤ entry.stamp) b.log entry follows.stamps (omega arith);
    bound = next.bound;
  }

  -- a key that the act can't change shows what it showed
  stays : (key : Key) → MayChange (tables_of b) entry.act key ⊎ (row_of (tables_of (with_entry b entry)) key ≡ row_of (tables_of b) key)
  stays key = subst (λ (t : Tables). MayChange (tables_of b) entry.act key ⊎ (row_of t key ≡ row_of (tables_of b) key)) (sym (tables_push b.opening.tables b.log entry))
      (frame (tables_of b) entry.stamp entry.act (good_now b is_book next.left).sound next.passes key)

  counts_after : (counts : ℕ → ℕ) → ((caller : ℕ) → counts caller ≡ length (entries_of caller b.log)) → (caller : ℕ)
      → with_count counts entry.caller entry.number caller ≡ length (entries_of caller (b.log ++ entry ∷ []))
  counts_after counts were caller = ⊎_elim
      (λ (mine : entry.caller ≡ caller).
      cond-true _ _ _ (eq-eqb entry.caller caller mine) ∙ next.number ∙ ap (λ n. length (entries_of n b.log) + 1) mine
      ∙ sym (length-append (entries_of caller b.log) (entry ∷ [])) ∙ sym (ap length (entries_mine caller b.log entry (eq-eqb entry.caller caller mine))))
      (λ (theirs : entry.caller ≡ caller → ⊥).
      cond-false _ _ _ (ne_eqb entry.caller caller theirs) ∙ were caller ∙ sym (ap length (entries_theirs caller b.log entry (ne_eqb entry.caller caller theirs))))
      (cases_eq entry.caller caller)

  -- rows and lists with room
  module _ (rows : Rows) (versions : Versions) (counts : Counts) (lists : Lists) (cents : ℕ) (kept : IsKept b rows versions counts lists cents)
      (roomy : Rows) (same : (t : Tables) → tables_with t roomy ≡ tables_with t rows) (wide : Lists) (wide_are : (t : Tables) → AreLists t lists → AreLists t wide) where
    roomy_are : tables_with b.opening.tables roomy ≡ tables_of b
    roomy_are = same b.opening.tables ∙ kept.rows_are

    pub ready : HasRoom roomy (length puts) → AreReady roomy entry.stamp puts
    ready room =
        are_ready b.opening.tables roomy entry.stamp puts room next.whole
        (subst IdsFit (sym (ap (λ (t : Tables). all_put t entry.stamp puts) roomy_are ∙ next.made)) (ids_fit b is_book next.left entry next.bound next.form next.passes)) next.bound

    pub is_change : IsChange (tables_of b) entry.act roomy wide plan entry.stamp puts
    is_change = record {
      rows_are = rows_again b.opening.tables (tables_of b) roomy roomy_are;
      lists_are = wide_are (tables_of b) kept.lists_are;
      sound = (good_now b is_book next.left).sound;
      passes = next.passes;
      plan_is = next.plan_is;
      made = next.made;
      sound_after = (good_later b is_book next.left entry next.bound next.form next.passes).sound;
    }

    -- and what a change makes of them, and of the versions and counts with room
    pub kept_after : (later : Rows) (wider raised : Versions) (counted : Counts) (moved : Lists) (charged : ℕ)
        → tables_with (tables_of b) later ≡ after (tables_of b) entry.stamp entry.act → HasPlaces raised later → ((key : Key) → stored wider key ≡ stored versions key)
        → AreAdded (after (tables_of b) entry.stamp entry.act) raised.added
        → RaisedWhere (tables_of b) (after (tables_of b) entry.stamp entry.act) (length b.log + 1) (MayChange (tables_of b) entry.act) (stored wider) (stored raised)
        → ((caller : ℕ) → count_in counted caller ≡ with_count (count_in counts) entry.caller entry.number caller) → AreLists (after (tables_of b) entry.stamp entry.act) moved
        → charged ≡ cents_in (after (tables_of b) entry.stamp entry.act) → IsKept (with_entry b entry) later raised counted moved charged
    kept_after later wider raised counted moved charged made places same_versions added_are rises counts_are lists_are cents_are =
        let pushed : after (tables_of b) entry.stamp entry.act ≡ tables_of (with_entry b entry) = sym (tables_push b.opening.tables b.log entry) in
        record {
          is_book = book_after;
          rows_are = ap (λ (t : Tables). tables_with t later) roomy_are ∙ made ∙ pushed;
          places = places;
          versions_are =
              versions_after b.opening.tables b.log entry (MayChange (tables_of b) entry.act) (stored wider) (stored raised) (λ key. same_versions key ∙ kept.versions_are key)
              (subst (λ (t : Tables). RaisedWhere (tables_of b) t (length b.log + 1) (MayChange (tables_of b) entry.act) (stored wider) (stored raised)) pushed rises)
              stays;
          added_are = subst (λ (t : Tables). AreAdded t raised.added) pushed added_are;
          counts_are = λ caller. counts_are caller ∙ counts_after (count_in counts) kept.counts_are caller;
          lists_are = subst (λ (t : Tables). AreLists t moved) pushed lists_are;
          cents_are = cents_are ∙ ap cents_in pushed;
        }

-- rows, versions, counts and lists with more room are kept too
pub kept_roomy : (b : BookValue) (rows roomy : Rows) (versions wide : Versions) (counts counted : Counts) (lists more_lists : Lists) (cents : ℕ) → IsKept b rows versions counts lists cents → ((t : Tables) → tables_with t roomy ≡ tables_with t rows)
    → ((key : Key) → stored wide key ≡ stored versions key) → HasPlaces wide roomy → wide.added ≡ record versions.added { room = wide.added.room } → ((caller : ℕ) → count_in counted caller ≡ count_in counts caller) → ((t : Tables) → AreLists t lists → AreLists t more_lists)
    → IsKept b roomy wide counted more_lists cents
kept_roomy b rows roomy versions wide counts counted lists more_lists cents kept same same_versions places same_added same_counts same_lists =
    record {
      is_book = kept.is_book;
      rows_are = same b.opening.tables ∙ kept.rows_are;
      places = places;
      versions_are = λ key. same_versions key ∙ kept.versions_are key;
      added_are = added_roomy (tables_of b) versions.added wide.added same_added kept.added_are;
      counts_are = λ caller. same_counts caller ∙ kept.counts_are caller;
      lists_are = same_lists (tables_of b) kept.lists_are;
      cents_are = kept.cents_are;
    }
