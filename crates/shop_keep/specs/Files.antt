-- The file of a shop, and the entries that are in it.
use Rattle.std.specs.Prelude.{◌≡◌, ◌⊎◌, ℕ, List, [], Option, is_some, true}
use Rattle.std.specs.Option.{ForSome}
use Rattle.shop_edges.specs.Causes.{Rose}
use Rattle.shop_disk.specs.DiskStates.{DiskState}
use Rattle.shop_model.specs.population.Population.{populated}
use Rattle.shop_history.specs.declared.acts.Entry.{Entry}
use Rattle.shop_book.specs.declared.opening.Opening.{Opening}
use Rattle.shop_replay.specs.Replays.{IsLog}
use Rattle.shop_journal.specs.declared.headers.Head.{Head}
use Rattle.shop_journal.specs.declared.headers.Format.TheVariants.{Second}
use Rattle.shop_journal.specs.Journals.{Keeps}
use Rattle.shop_journal.specs.Runs.{Standing, run_from}
use Rattle.shop_words.specs.declared.command.Session.{Session}
use Rattle.shop_app.specs.declared.status.Status.{Status}
use Rattle.shop_app.specs.declared.status.Status.TheVariants as status
use Rattle.shop_keep.specs.declared.files.Opened.{Opened}
use Rattle.shop_keep.specs.declared.files.Opened.TheVariants as opened

-- the shop that the words choose, as a journal names it
abbrev pub head_of : Session → Head
head_of session = record { seed = session.seed; scale = session.scale }

-- what it opens with
abbrev pub opening_of : Session → Opening
opening_of session = record { tables = populated session.seed session.scale; limit = session.limit }

-- the file has these entries of that shop: none where it is empty, and else those of the journal that it is
abbrev pub HasEntries : Head → List Entry → List ℕ → Type 0
HasEntries head entries file = ((file ≡ []) × (entries ≡ [])) ⊎ Keeps Second head entries file

-- its entries are a legal log of that shop, within the limit
pub record IsOfShop (session : Session) (file : List ℕ) : Type 0 where
  pub entries : List Entry
  pub has : HasEntries (head_of session) entries file
  pub log : IsLog (opening_of session) entries

-- the disk that was handed back
abbrev pub disk_opened : {D : Type 0} → Opened D → D
disk_opened (opened.Journal journal entries) = journal
disk_opened (opened.Not disk status) = disk

-- the file had these entries, and no others, and a run begins
pub record IsOpened (before : Option (List ℕ)) (now : DiskState) (head : Head) (entries : List Entry) : Type 0 where
  pub has : ForSome before (HasEntries head entries)
  pub only : ForSome before (λ file. (others : List Entry) → HasEntries head others file → others ≡ entries)
  pub run : is_some now.told ≡ true → Standing now (run_from now.moment head entries)

-- why there is no journal; one of another shop, or of another format, and a file that is none, are left as they were
abbrev pub IsUnopened : DiskState → DiskState → Head → Status → Type 0
IsUnopened before now head status.NotThisJournal =
    (now.told ≡ before.told) × ForSome before.told (λ file. (entries : List Entry) → HasEntries head entries file → ⊥)
IsUnopened before now head status.DiskFault = Rose before.faults now.faults
IsUnopened before now head status.Memory = Unit {0}
IsUnopened before now head _ = ⊥

abbrev pub OpenedAs : {D : Type 0} → (D → DiskState) → DiskState → Session → Opened D → Type 0
OpenedAs state before session (opened.Journal journal entries) = IsOpened before.told (state journal) (head_of session) entries.items
OpenedAs state before session (opened.Not disk status) = IsUnopened before (state disk) (head_of session) status
