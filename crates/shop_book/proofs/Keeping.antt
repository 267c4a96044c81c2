-- What is kept of a log with no entries yet, and what the rows kept say of the tables now.
use Rattle.std.proofs.Common.{◌≡◌, ℕ, ◌+◌, ◌-◌, ◌≤◌, Bool, List, [], length, sym, ◌∙◌, ap, subst, arith}
use Rattle.std.proofs.lemmas.List.Elements.{All-nil}
use Rattle.shop_log.specs.Histories.Legal.{nothing}
use Rattle.shop_model.specs.rows.Sound.{Sound}
use Rattle.shop_history.specs.declared.acts.Entry.{Entry}
use Rattle.shop_history.specs.declared.keys.Key.{Key}
use Rattle.shop_history.specs.Logs.{IsGood}
use Rattle.shop_history.proofs.cited.GoodTables.{good_log}
use Rattle.shop_history.proofs.cited.Rows.{tables_nil, version_nil}
use Rattle.shop_book.specs.declared.counts.Counts.{Counts}
use Rattle.shop_book.specs.declared.lists.Lists.{Lists}
use Rattle.shop_book.specs.declared.opening.Opening.{Opening}
use Rattle.shop_book.specs.declared.rows.Rows.{Rows}
use Rattle.shop_book.specs.declared.versions.Versions.{Versions}
use Rattle.shop_book.specs.Additions.{AreAdded}
use Rattle.shop_book.specs.Books.{BookValue, IsBook, tables_of}
use Rattle.shop_book.specs.Counted.{count_in}
use Rattle.shop_book.specs.Auths.{has_in}
use Rattle.shop_book.specs.KeptLists.{AreLists}
use Rattle.shop_book.specs.Keeping.{IsKept}
use Rattle.shop_book.specs.Openings.{IsOpening}
use Rattle.shop_book.specs.RowsNow.{tables_with}
use Rattle.shop_book.specs.Stored.{stored, HasPlaces}
use Rattle.shop_book.specs.Summaries.{cents_in, has_auth}

pub first_kept : (opening : Opening) (rows : Rows) (versions : Versions) (counts : Counts) (lists : Lists) → AreLists opening.tables lists → IsOpening opening → tables_with opening.tables rows ≡ opening.tables → HasPlaces versions rows
    → ((key : Key) → stored versions key ≡ 0) → AreAdded opening.tables versions.added → ((caller : ℕ) → count_in counts caller ≡ 0) → cents_in opening.tables ≡ 0 → IsKept (record { opening = opening; log = []; latest = 0 }) rows versions counts lists 0
first_kept opening rows versions counts lists are opens copies places unchanged added none free = record {
  is_book = record { opens = opens; legal = nothing; short = omega arith; stamps = All-nil (λ (e : Entry). e.stamp ≤ 0); bound = omega arith };
  rows_are = copies ∙ sym (tables_nil opening.tables);
  places = places;
  versions_are = λ key. unchanged key ∙ sym (version_nil opening.tables key);
  added_are = subst (λ t. AreAdded t versions.added) (sym (tables_nil opening.tables)) added;
  counts_are = none;
  lists_are = subst (λ t. AreLists t lists) (sym (tables_nil opening.tables)) are;
  cents_are = sym (ap cents_in (tables_nil opening.tables) ∙ free);
}

pub good_now : (b : BookValue) → IsBook b → IsGood (tables_of b) (b.opening.limit + 1 - length b.log)
good_now b is_book = good_log b.opening.tables (b.opening.limit + 1) is_book.opens.good b.log is_book.legal (omega (arith, is_book.short))

pub sound_now : (b : BookValue) (rows : Rows) → IsBook b → tables_with b.opening.tables rows ≡ tables_of b → Sound (tables_with b.opening.tables rows)
sound_now b rows is_book rows_are = subst Sound (sym rows_are) (good_now b is_book).sound

pub auth_is : (b : BookValue) (lists : Lists) → AreLists (tables_of b) lists → (auth : List ℕ) (found : Bool) → found ≡ has_in lists.auths auth → found ≡ has_auth (tables_of b) auth
unfolding has_auth
auth_is b lists are auth found is = is ∙ are.auths auth
