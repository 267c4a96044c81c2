-- What `keep` does, by its status.
use Rattle.std.specs.Option.{ForSome}
use Rattle.std.specs.Prelude.{◌≡◌, ◌≢◌, ◌⊎◌, ℕ, ◌≤◌, max, List, [], ◌∷◌, ◌++◌, map, All, Option, Some, is_some, true}
use Rattle.shop_edges.specs.Causes.{Rose}
use Rattle.shop_disk.specs.DiskStates.{DiskState}
use Rattle.shop_model.specs.population.Population.{populated}
use Rattle.shop_history.specs.declared.acts.Entry.{Entry}
use Rattle.shop_history.specs.Lawful.{IsLawful}
use Rattle.shop_journal.specs.Runs as journal
use Rattle.shop_journal.specs.Runs.{run_from, with_begun}
use Rattle.shop_replay.specs.Replays.{IsLog, last_stamp}
use Rattle.shop_engine.specs.declared.report.Ended.TheVariants as ended
use Rattle.shop_engine.specs.declared.report.Point.{Point}
use Rattle.shop_engine.specs.Failures.{RoseBy, failures}
use Rattle.shop_engine.specs.Fresh.{IsFreshIn}
use Rattle.shop_engine.specs.Served.{Served, Streams}
use Rattle.shop_engine.specs.Steps.{plain_point}
use Rattle.shop_engine.specs.Workers.{Standing}
use Rattle.shop_words.specs.declared.command.Session.{Session}
use Rattle.shop_app.specs.declared.status.Status.{Status}
use Rattle.shop_app.specs.declared.status.Status.TheVariants as status
use Rattle.shop_app.specs.Outside.{Run}
use Rattle.shop_app.specs.Session.{IsAtOnce, moments_of}
use Rattle.shop_app.specs.Statuses as statuses
use Rattle.shop_keep.specs.declared.kept.KeptEnd.{KeptEnd}
use Rattle.shop_keep.specs.declared.kept.KeptEnd.TheVariants as kept_end
use Rattle.shop_keep.specs.Appends.{with_each}
use Rattle.shop_keep.specs.Files.{HasEntries, IsOfShop, head_of, opening_of}
use Rattle.shop_keep.specs.Kept.{Withheld}
use Rattle.shop_keep.specs.Workers.{kept_standing}

-- where the disk tells its file: these entries of the run are on the disk, each of them acknowledged
abbrev pub IsAppended : DiskState → journal.Run → List Entry → Type 0
IsAppended now run entries = is_some now.told ≡ true → (moments : List ℕ) × journal.Standing now (with_each entries moments run)

-- so these, and a crash may leave one entry more or not
abbrev pub IsBegun : DiskState → journal.Run → List Entry → Entry → Type 0
IsBegun now run entries entry =
    is_some now.told ≡ true → (moments : List ℕ) × journal.Leaves now (with_begun entry (with_each entries moments run))

-- a reply is withheld, whose entry is the last one that the log grew by
pub record IsLast (old new : Standing) (streams streams' : Streams) (points : List Point) (grown : List Entry) : Type 0 where
  pub withheld : Withheld old new streams streams' points
  pub last : grown ≡ withheld.entries ++ withheld.entry ∷ []

-- the log grew by these entries behind those of the run, and all of them are on the disk; but where a reply is withheld: then
-- the disk has all but the last, which it may have too where it failed
abbrev pub GrewTo : KeptEnd → Standing → Standing → Streams → Streams → List Point → List Entry → DiskState → journal.Run → Type 0
GrewTo (kept_end.Ended how) old new streams streams' points grown now run =
    (Served old new streams streams' how points × IsAppended now run grown)
    ⊎ ((how ≡ ended.Memory) × ((one : IsLast old new streams streams' points grown) × IsAppended now run one.withheld.entries))
GrewTo kept_end.DiskFault old new streams streams' points grown now run =
    (one : IsLast old new streams streams' points grown) × IsBegun now run one.withheld.entries one.withheld.entry

-- the one connection was served to this end over the log that the file had. No settle was stale, the log is lawful, and each
-- entry more has its moment as its stamp, or the last stamp of the file where that is later; the gateway's count of faults
-- never fell, and rose by each that is told
pub record KeptFrom (session : Session) (named : Option (List ℕ)) (now : DiskState) (old new : Run) (end : KeptEnd) : Type 0 where
  pub first : List Entry
  pub has : ForSome named (HasEntries (head_of session) first)
  pub legal : IsLog (opening_of session) first
  pub start : ℕ
  pub points : List Point
  pub after : Standing
  pub grown : List Entry
  pub log : after.seat.seen ≡ first ++ grown
  pub grew : GrewTo end (kept_standing session first old.outside.clock old.outside.told) after old.streams new.streams points grown now (run_from start (head_of session) first)
  pub clock : after.clock ≡ new.outside.clock
  pub told : after.told ≡ new.outside.told
  pub failed : RoseBy old.outside.failures (failures points) new.outside.failures
  pub kept : old.outside.failures ≤ new.outside.failures
  pub alone : All (λ p. (p ≡ plain_point) ⊎ IsAtOnce p) points
  pub lawful : IsLawful (populated session.seed session.scale) after.seat.seen
  pub fresh : All (IsFreshIn after.seat.seen) points
  pub stamps : map (λ e. e.stamp) grown ≡ map (max (last_stamp first)) (moments_of points)

-- nothing was read or written, and a file with bytes is left as it was
pub record IsUnserved (named : Option (List ℕ)) (now : DiskState) (old new : Run) : Type 0 where
  pub same : new ≡ old
  pub left : (file : List ℕ) → named ≡ Some file → file ≢ [] → now.told ≡ Some file

-- what the status says of a disk before and now, whose file was so
abbrev pub IsKept : Session → Option (List ℕ) → DiskState → DiskState → Run → Run → Status → Type 0
IsKept session named was now old new status.Done =
    KeptFrom session named now old new (kept_end.Ended ended.Closed) ⊎ KeptFrom session named now old new (kept_end.Ended ended.Asked)
IsKept session named was now old new status.Unserved =
    KeptFrom session named now old new (kept_end.Ended ended.Cut)
    ⊎ ((number : ℕ) × KeptFrom session named now old new (kept_end.Ended (ended.Refused number)))
    ⊎ KeptFrom session named now old new (kept_end.Ended ended.Spent)
IsKept session named was now old new status.ReadFault =
    Rose old.reads new.reads × KeptFrom session named now old new (kept_end.Ended ended.ReadFault)
IsKept session named was now old new status.WriteFault =
    Rose old.writes new.writes × KeptFrom session named now old new (kept_end.Ended ended.WriteFault)
IsKept session named was now old new status.Memory =
    IsUnserved named now old new ⊎ KeptFrom session named now old new (kept_end.Ended ended.Memory)
IsKept session named was now old new status.DiskFault =
    Rose was.faults now.faults × ((new ≡ old) ⊎ KeptFrom session named now old new kept_end.DiskFault)
IsKept session named was now old new status.NotThisJournal =
    IsUnserved named now old new × ForSome named (λ file. IsOfShop session file → ⊥)
IsKept session named was now old new _ = ⊥

-- the status of a connection that ended so
abbrev pub status_of : KeptEnd → Status
status_of (kept_end.Ended how) = statuses.status_of how
status_of kept_end.DiskFault = status.DiskFault
