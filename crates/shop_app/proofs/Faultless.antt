-- A run whose counts of faults did not rise tells no fault.
use Rattle.std.proofs.Common.{◌≡◌, inl, inr, ℕ, List, refl}
use Rattle.std.specs.Prelude.{◌≢◌}
use Rattle.shop_edges.specs.Causes.{Rose}
use Rattle.shop_gateway.specs.declared.served.Served.{Served}
use Rattle.shop_gateway.specs.declared.served.Served.TheVariants as ends
use Rattle.shop_words.specs.declared.command.Command.{Command}
use Rattle.shop_words.specs.declared.command.Command.TheVariants as command
use Rattle.shop_app.specs.declared.status.Status.{Status}
use Rattle.shop_app.specs.declared.status.Status.TheVariants as status
use Rattle.shop_app.specs.Outside.{Run}
use Rattle.shop_app.specs.Paying.{status_of_lines}
use Rattle.shop_app.specs.Runs.{IsRun, Obeys}
use Rattle.shop_app.specs.Statuses.{IsFaultless}

-- a gateway whose streams did not fail
paid : (end : Served) (outcome : Status) → outcome ≡ status_of_lines end → (end ≡ ends.ReadFault → ⊥) → (end ≡ ends.WriteFault → ⊥) → IsFaultless outcome
paid ends.Closed outcome is no_read no_write = inl is
paid ends.Cut outcome is no_read no_write = inr (inl is)
paid ends.TooLong outcome is no_read no_write = inr (inl is)
paid ends.ReadFault outcome is no_read no_write = absurd (no_read refl)
paid ends.WriteFault outcome is no_read no_write = absurd (no_write refl)
paid ends.Memory outcome is no_read no_write = inr (inr is)

-- what came of a command of one caller
obeyed : (given : Command) (old new : Run) (outcome : Status) → outcome ≢ status.BadWords → Obeys given old new outcome → (Rose old.reads new.reads → ⊥) → (Rose old.writes new.writes → ⊥) → IsFaultless outcome
obeyed (command.Session session) old new status.Done good did no_read no_write = inl refl
obeyed (command.Session session) old new status.Unserved good did no_read no_write = inr (inl refl)
obeyed (command.Session session) old new status.BadWords good did no_read no_write = absurd (good refl)
obeyed (command.Session session) old new status.ReadFault good did no_read no_write = absurd (no_read did.0)
obeyed (command.Session session) old new status.WriteFault good did no_read no_write = absurd (no_write did.0)
obeyed (command.Session session) old new status.NetworkFault good did no_read no_write = absurd did
obeyed (command.Session session) old new status.WorkerFault good did no_read no_write = absurd did
obeyed (command.Session session) old new status.Memory good did no_read no_write = inr (inr refl)
obeyed (command.Session session) old new status.DiskFault good did no_read no_write = absurd did
obeyed (command.Session session) old new status.NotThisJournal good did no_read no_write = absurd did
obeyed (command.Drive drive) old new status.Done good did no_read no_write = inl refl
obeyed (command.Drive drive) old new status.Unserved good did no_read no_write = absurd did
obeyed (command.Drive drive) old new status.BadWords good did no_read no_write = absurd (good refl)
obeyed (command.Drive drive) old new status.ReadFault good did no_read no_write = absurd did
obeyed (command.Drive drive) old new status.WriteFault good did no_read no_write = absurd (no_write did.4)
obeyed (command.Drive drive) old new status.NetworkFault good did no_read no_write = absurd did
obeyed (command.Drive drive) old new status.WorkerFault good did no_read no_write = absurd did
obeyed (command.Drive drive) old new status.Memory good did no_read no_write = inr (inr refl)
obeyed (command.Drive drive) old new status.DiskFault good did no_read no_write = absurd did
obeyed (command.Drive drive) old new status.NotThisJournal good did no_read no_write = absurd did
obeyed (command.Race race) old new outcome good did no_read no_write = absurd did
obeyed (command.Serve serve) old new outcome good did no_read no_write = absurd did
obeyed command.Gateway old new outcome good did no_read no_write = let p = did.pays in paid p.end outcome p.status_is (λ e. no_read (p.read_fault e)) (λ e. no_write (p.write_fault e))

pub faultless : (words : List (List ℕ)) (old new : Run) (outcome : Status) → outcome ≢ status.BadWords → IsRun words old new outcome → (Rose old.reads new.reads → ⊥) → (Rose old.writes new.writes → ⊥) → IsFaultless outcome
faultless words old new outcome good (inl none) no_read no_write = inr (inr none.0)
faultless words old new outcome good (inr (given, is, did)) no_read no_write = obeyed given old new outcome good did no_read no_write
