-- A connection that was not served, and one that was behind other calls of the disk.
use Rattle.std.proofs.Common.{◌≡◌, ℕ, ◌≤◌, inl, List, [], Option, Some, Ok, Err, refl, ◌∙◌, subst, arith}
use Rattle.std.specs.Prelude.{◌≢◌}
use Rattle.shop_disk.specs.DiskStates.{DiskState}
use Rattle.shop_history.specs.declared.acts.Entry.{Entry}
use Rattle.shop_replay.specs.Replays.{IsLog}
use Rattle.shop_book.specs.Solos.{SoloValue}
use Rattle.shop_engine.specs.Workers.{WorkerState}
use Rattle.shop_words.specs.declared.command.Session.{Session}
use Rattle.shop_app.specs.declared.status.Status.{Status}
use Rattle.shop_app.specs.declared.status.Status.TheVariants as status
use Rattle.shop_app.specs.Outside.{Run}
use Rattle.shop_keep.specs.Files.{IsOpened, IsUnopened, head_of, opening_of}
use Rattle.shop_keep.specs.Runs.{IsReady}
use Rattle.shop_keep.specs.Sessions.{IsKept, IsUnserved}
use Rattle.shop_keep.specs.Workers.{WorksAs}

module _ (session : Session) (named : Option (List ℕ)) (was mid now : DiskState) (old : Run) (opened : mid.told ≡ named) (later : was.faults ≤ mid.faults)
    (left : (file : List ℕ) → mid.told ≡ Some file → file ≢ [] → now.told ≡ Some file) where
  unserved : IsUnserved named now old old
  unserved = record { same = refl; left = λ file is. left file (opened ∙ is) }

  -- there is no journal
  pub unopened_by : (outcome : Status) → IsUnopened mid now (head_of session) outcome → IsKept session named was now old old outcome
  unopened_by status.NotThisJournal (same, none) = (unserved, λ file is shop. none file (opened ∙ is) shop.entries shop.has)
  unopened_by status.DiskFault rose = (omega (arith, rose, later), inl refl)
  unopened_by status.Memory is = inl unserved
  unopened_by _ is = absurd is

  -- its entries are no log of the shop
  pub unworked_by : (there : DiskState) (entries : List Entry) (outcome : Status) → IsOpened mid.told there (head_of session) entries → WorksAs session entries (Err outcome) → IsKept session named was now old old outcome
  unworked_by there entries status.NotThisJournal opens none =
      (unserved, λ file is shop. none (subst (IsLog (opening_of session)) (opens.only file (opened ∙ is) shop.entries shop.has) shop.log))
  unworked_by there entries status.Memory opens none = inl unserved
  unworked_by there entries _ opens is = absurd is

pub ready_for : (session : Session) (named : Option (List ℕ)) (mid there : DiskState) (entries : List Entry) (worker : WorkerState SoloValue) → mid.told ≡ named
    → IsOpened mid.told there (head_of session) entries → WorksAs session entries (Ok worker) → IsReady session named there entries worker
ready_for session named mid there entries worker opened opens works = record {
  has = λ file is. opens.has file (opened ∙ is);
  legal = works.1;
  is_first = works.0;
  run = opens.run;
}

-- behind other calls
pub kept_since : (session : Session) (named : Option (List ℕ)) (was mid now : DiskState) (old new : Run) (outcome : Status) → was.faults ≤ mid.faults → IsKept session named mid now old new outcome → IsKept session named was now old new outcome
kept_since session named was mid now old new status.DiskFault later (rose, is) = (omega (arith, rose, later), is)
kept_since session named was mid now old new status.Done later is = is
kept_since session named was mid now old new status.Unserved later is = is
kept_since session named was mid now old new status.ReadFault later is = is
kept_since session named was mid now old new status.WriteFault later is = is
kept_since session named was mid now old new status.Memory later is = is
kept_since session named was mid now old new status.NotThisJournal later is = is
kept_since session named was mid now old new _ later is = absurd is
