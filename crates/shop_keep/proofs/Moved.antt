-- The status of a migration by what came of it.
use Rattle.std.proofs.Common.{◌≡◌, inl, inr, ⊎_elim, ℕ, ◌≤◌, ◌⊎◌, List, Option, refl, ◌∙◌, subst, arith}
use Rattle.shop_edges.specs.Causes.{Rose}
use Rattle.shop_disk.specs.DiskStates.{DiskState}
use Rattle.shop_records.specs.Looking.{Looks}
use Rattle.shop_journal.specs.declared.migrating.Migrated.{Migrated}
use Rattle.shop_journal.specs.declared.migrating.Migrated.TheVariants as migrated
use Rattle.shop_journal.specs.Migrating.{MigratesAs}
use Rattle.shop_app.specs.declared.status.Status.{Status}
use Rattle.shop_app.specs.declared.status.Status.TheVariants as status
use Rattle.shop_keep.specs.Moves.{EndsAs, KeepsOld, Migrates, Move, TellsAs}

module _ (move : Move) (kept : KeepsOld move) where
  told_by : (count : ℕ) (outcome : Status) → MigratesAs (migrated.Done count) move.old move.new move.new_now → TellsAs count move.held move.held_now move.writes move.writes_now outcome → Migrates move outcome
  told_by count status.Done is told = (kept, (count, is, told))
  told_by count status.WriteFault is (front, rose) = (kept, (count, is, front, rose))
  told_by count status.Memory is silent = (kept, silent)
  told_by count _ is told = absurd told

  moved_by : (result : Migrated) (outcome : Status) → MigratesAs result move.old move.new move.new_now → EndsAs result move.held move.held_now move.writes move.writes_now outcome
      → (result ≡ migrated.Failed → Rose move.old_was.faults move.old_now.faults ⊎ Rose move.new_was.faults move.new_now.faults) → Migrates move outcome
  moved_by (migrated.Done count) outcome is ends failed = told_by count outcome is ends
  moved_by (migrated.NotAJournal at) outcome (same, none) (ends, silent) failed = rw ends (kept, same, silent, inl (at, none))
  moved_by migrated.NotEmpty outcome (same, some, is) (ends, silent) failed = rw ends (kept, same, silent, inr some)
  moved_by migrated.Failed outcome is (ends, silent) failed = rw ends (silent, failed refl)
  moved_by migrated.Memory outcome is (ends, silent) failed = rw ends (kept, silent)

-- behind the opening of both files
pub moved_from : (move : Move) (old_mid new_mid : DiskState) (result : Migrated) (outcome : Status) → old_mid.told ≡ move.old → new_mid.told ≡ move.new → move.old_was.faults ≤ old_mid.faults → move.new_was.faults ≤ new_mid.faults
    → Looks old_mid move.old_now → MigratesAs result old_mid.told new_mid.told move.new_now → EndsAs result move.held move.held_now move.writes move.writes_now outcome
    → (result ≡ migrated.Failed → Rose old_mid.faults move.old_now.faults ⊎ Rose new_mid.faults move.new_now.faults) → Migrates move outcome
moved_from move old_mid new_mid result outcome old_is new_is old_later new_later looks is ends failed =
    moved_by move (looks.told ∙ old_is) result outcome
    (subst (λ (told : Option (List ℕ)). MigratesAs result told move.new move.new_now) old_is (subst (λ (told : Option (List ℕ)). MigratesAs result old_mid.told told move.new_now) new_is is)) ends
    (λ fails. ⊎_elim
    (λ (rose : Rose old_mid.faults move.old_now.faults). inl (omega (arith, rose, old_later)))
    (λ (rose : Rose new_mid.faults move.new_now.faults). inr (omega (arith, rose, new_later)))
    (failed fails))
