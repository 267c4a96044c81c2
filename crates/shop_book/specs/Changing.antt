-- A change of rows and of lists by an act, in tables that it is not refused in.
use Rattle.std.specs.Prelude.{◌≡◌, ◌⊎◌, ℕ, List, All, Contains, Some, None}
use Rattle.shop_model.specs.declared.tables.Tables.{Tables}
use Rattle.shop_model.specs.lists.Catalogues.{naming}
use Rattle.shop_model.specs.pages.Show.{check}
use Rattle.shop_model.specs.rows.Sound.{Sound}
use Rattle.shop_history.specs.declared.acts.Act.{Act}
use Rattle.shop_history.specs.declared.keys.Key as key
use Rattle.shop_history.specs.declared.keys.Key.{Key}
use Rattle.shop_history.specs.Acts.{play, request_of}
use Rattle.shop_book.specs.declared.lists.Lists.{Lists}
use Rattle.shop_book.specs.declared.plan.Plan.{Plan}
use Rattle.shop_book.specs.declared.plan.Plan.TheVariants.{One, Compare, Sell, Mend, Add}
use Rattle.shop_book.specs.declared.puts.Put.{Put}
use Rattle.shop_book.specs.declared.rows.Rows.{Rows}
use Rattle.shop_book.specs.declared.versions.Versions.{Versions}
use Rattle.shop_book.specs.KeptLists.{AreLists}
use Rattle.shop_book.specs.Planning.{IsPlanOf}
use Rattle.shop_book.specs.Puts.{all_put}
use Rattle.shop_book.specs.RowsNow.{tables_with}
use Rattle.shop_book.specs.Watching.{CanWatch}

-- the tables after it
abbrev pub after : Tables → ℕ → Act → Tables
after t stamp act = (play t stamp act).tables

-- the rows and the lists are those of the tables, and the writes make of them what the act does
pub record IsChange (t : Tables) (act : Act) (rows : Rows) (lists : Lists) (plan : Plan) (stamp : ℕ) (puts : List Put) : Type 0 where
  pub rows_are : tables_with t rows ≡ t
  pub lists_are : AreLists t lists
  pub sound : Sound t
  pub passes : check t (request_of act) ≡ None
  pub plan_is : IsPlanOf t act plan
  pub made : all_put t stamp puts ≡ after t stamp act
  pub sound_after : Sound (after t stamp act)

-- the writes were made: the rows are those after the act, and the lists still those before
pub record IsDone (t : Tables) (act : Act) (stamp : ℕ) (rows : Rows) (lists : Lists) (plan : Plan) : Type 0 where
  pub rows_are : tables_with t rows ≡ after t stamp act
  pub lists_are : AreLists t lists
  pub sound : Sound t
  pub passes : check t (request_of act) ≡ None
  pub plan_is : IsPlanOf t act plan
  pub sound_after : Sound (after t stamp act)

-- watched keys have places where they showed rows
abbrev pub AreWatchable : Versions → Plan → Type 0
AreWatchable versions (One watched) = CanWatch versions watched
AreWatchable versions (Compare watched) = All (CanWatch versions) watched.items
AreWatchable versions (Sell keys) = Unit {0}
AreWatchable versions (Add addition) = Unit {0}
AreWatchable versions (Mend item row) = CanWatch versions (record { key = key.TheVariants.Item item; row = row })

-- there is room for the item that is added, where one is
abbrev pub IsExpected : Versions → Plan → Type 0
IsExpected versions (Add addition) = versions.added.room ≡ Some (naming addition.item)
IsExpected versions _ = Unit {0}

-- these keys get this number as their version, and no other does
pub record RaisesAll (keys : List Key) (number : ℕ) (old new : Key → ℕ) : Type 0 where
  pub each : (key : Key) → (new key ≡ old key) ⊎ (Contains keys key × (new key ≡ number))
  pub all : (key : Key) → Contains keys key → new key ≡ number
