-- The grammar of the commands of a journal, the file that keeps a shop's log.
use Rattle.std.specs.Prelude.{◌≡◌, ◌⊎◌, ℕ, List, [], ◌∷◌, Option, Some, codes, slice_get}
use Rattle.shop_words.specs.Commands.{Chooses, IsGiven, session_options}
use Rattle.shop_words.specs.Options.{IsRequired}
use Rattle.shop_words.specs.Values.{IsFileName}
use Rattle.shop_words.specs.declared.kept.Keep.{Keep}
use Rattle.shop_words.specs.declared.kept.Migrate.{Migrate}
use Rattle.shop_words.specs.declared.kept.KeptCommand.{KeptCommand}
use Rattle.shop_words.specs.declared.kept.KeptCommand.TheVariants as kept

-- ---- keeping a journal

abbrev pub keep_options : List (List ℕ)
keep_options = codes "journal" ∷ session_options

-- what option values choose: a shop, and the file of its journal, which has to be named
pub record ChoosesKeep (values : List ℕ → Option (List ℕ)) (keep : Keep) : Type 0 where
  pub shop : Chooses values keep.shop
  pub journal : IsRequired IsFileName (values (codes "journal")) keep.journal

-- `keep` and its options
abbrev pub IsKeep : List (List ℕ) → Keep → Type 0
IsKeep = IsGiven (codes "keep") keep_options ChoosesKeep

-- ---- migrating one

abbrev pub migrate_options : List (List ℕ)
migrate_options = codes "from" ∷ codes "to" ∷ []

-- what option values choose: the file that is read, and the one that is written, which both have to be named
pub record ChoosesMigrate (values : List ℕ → Option (List ℕ)) (migrate : Migrate) : Type 0 where
  pub from : IsRequired IsFileName (values (codes "from")) migrate.from
  pub to : IsRequired IsFileName (values (codes "to")) migrate.to

-- `migrate` and its options
abbrev pub IsMigrate : List (List ℕ) → Migrate → Type 0
IsMigrate = IsGiven (codes "migrate") migrate_options ChoosesMigrate

-- ---- what words give

-- the words give the command
abbrev pub IsKeptCommand : List (List ℕ) → KeptCommand → Type 0
IsKeptCommand words (kept.Keep keep) = IsKeep words keep
IsKeptCommand words (kept.Migrate migrate) = IsMigrate words migrate

-- the first word names one of these commands
abbrev pub IsKept : List (List ℕ) → Type 0
IsKept words = (slice_get words 0 ≡ Some (codes "keep")) ⊎ (slice_get words 0 ≡ Some (codes "migrate"))
