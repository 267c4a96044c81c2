-- What making a journal gives, and what opening one finds.
use Rattle.std.specs.Prelude.{◌≡◌, ◌≢◌, ℕ, List, [], ◌∷◌, ◌++◌, Option, is_some, true}
use Rattle.std.specs.Option.{ForSome}
use Rattle.shop_disk.specs.DiskStates.{DiskState}
use Rattle.shop_history.specs.declared.acts.Entry.{Entry}
use Rattle.shop_records.specs.Standing.{IsDurable}
use Rattle.shop_journal.specs.declared.headers.Format.TheVariants.{First, Second}
use Rattle.shop_journal.specs.declared.headers.Head.{Head}
use Rattle.shop_journal.specs.declared.opening.Created.{Created}
use Rattle.shop_journal.specs.declared.opening.Created.TheVariants as created
use Rattle.shop_journal.specs.declared.opening.Found.{Found}
use Rattle.shop_journal.specs.declared.opening.Found.TheVariants as found
use Rattle.shop_journal.specs.Appending.{Stands}
use Rattle.shop_journal.specs.Headers.{header_of}
use Rattle.shop_journal.specs.Journals.{Keeps, BeginsAs, IsNone}
use Rattle.shop_journal.specs.Runs.{Run, Standing, IsFrontOf, run_from}

-- the disk that was handed back
abbrev pub disk_made : {D : Type 0} → Created D → D
disk_made (created.Done journal) = journal
disk_made (created.NotEmpty disk) = disk
disk_made (created.Failed disk) = disk
disk_made (created.Memory disk) = disk

abbrev pub disk_found : {D : Type 0} → Found D → D
disk_found (found.Open journal head entries) = journal
disk_found (found.OldFormat disk) = disk
disk_found (found.NotAJournal disk at) = disk
disk_found (found.Failed disk) = disk
disk_found (found.Memory disk) = disk

-- a journal without entries was made
pub record IsMade (before : Option (List ℕ)) (head : Head) (now : DiskState) : Type 0 where
  -- the file was empty
  pub empty : ForSome before (λ file. file ≡ [])
  -- the header and a gate that is shut are all that it has
  pub made : ForSome now.told (λ file. file ≡ header_of Second head ++ 0 ∷ [])
  pub stands : Stands now head []
  -- a run begins
  pub run : is_some now.told ≡ true → Standing now (run_from now.moment head [])

-- a file that had bytes is left as it was, and so is one where memory ran out
abbrev pub CreatedAs : {D : Type 0} → (D → DiskState) → Option (List ℕ) → Head → Created D → Type 0
CreatedAs state before head (created.Done journal) = IsMade before head (state journal)
CreatedAs state before head (created.NotEmpty disk) = ((state disk).told ≡ before) × ForSome before (λ file. file ≢ [])
CreatedAs state before head (created.Failed disk) = Unit {0}
CreatedAs state before head (created.Memory disk) = (state disk).told ≡ before

-- a journal was opened, and these are its entries
pub record IsOpen (now : DiskState) (head : Head) (entries : List Entry) : Type 0 where
  pub keeps : ForSome now.told (Keeps Second head entries)
  pub durable : IsDurable now
  -- a run begins
  pub run : is_some now.told ≡ true → Standing now (run_from now.moment head entries)

-- the file is no journal of this format, nor begins as one of the older
pub record IsNoJournal (at : ℕ) (file : List ℕ) : Type 0 where
  pub not_old : BeginsAs First file → ⊥
  pub none : IsNone Second at file

abbrev pub FoundAs : {D : Type 0} → (D → DiskState) → Found D → Type 0
FoundAs state (found.Open journal head entries) = IsOpen (state journal) head entries.items
FoundAs state (found.OldFormat disk) = ForSome (state disk).told (BeginsAs First)
FoundAs state (found.NotAJournal disk at) = ForSome (state disk).told (IsNoJournal at)
FoundAs state (found.Failed disk) = Unit {0}
FoundAs state (found.Memory disk) = Unit {0}

-- such a shop and such entries were found, or nothing could be read
abbrev pub Finds : {D : Type 0} → (Head → List Entry → Type 0) → Found D → Type 0
Finds P (found.Open journal head entries) = P head entries.items
Finds P (found.OldFormat disk) = ⊥
Finds P (found.NotAJournal disk at) = ⊥
Finds P (found.Failed disk) = Unit {0}
Finds P (found.Memory disk) = Unit {0}

-- just these
abbrev pub FindsJust : {D : Type 0} → Head → List Entry → Found D → Type 0
FindsJust head entries found = Finds (λ h es. (h ≡ head) × (es ≡ entries)) found

-- what a run began with, and the first of the entries begun since, at least so many
abbrev pub FindsFront : {D : Type 0} → Run → ℕ → Found D → Type 0
FindsFront run least found = Finds (IsFrontOf run least) found
