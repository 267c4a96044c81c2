-- What a whole run does, by its words and its status.
use Rattle.std.specs.Prelude.{◌≡◌, ◌≢◌, ◌⊎◌, ℕ, List}
use Rattle.shop_words.specs.declared.command.Command.{Command}
use Rattle.shop_words.specs.declared.command.Command.TheVariants as command
use Rattle.shop_words.specs.declared.command.Session.{Session}
use Rattle.shop_words.specs.Commands.{IsCommand}
use Rattle.shop_app.specs.declared.status.Status.{Status}
use Rattle.shop_app.specs.declared.status.Status.TheVariants as status
use Rattle.shop_app.specs.Driving.{IsDriven}
use Rattle.shop_app.specs.Outside.{Meanings, Run, run_of}
use Rattle.shop_app.specs.Paying.{IsPaying}
use Rattle.shop_app.specs.Session.{IsSession}

-- what came of a command of one caller
abbrev pub Obeys : Command → Run → Run → Status → Type 0
Obeys (command.Session session) old new outcome = IsSession session old new outcome
Obeys (command.Drive drive) old new outcome = IsDriven drive old new outcome
Obeys (command.Race race) old new outcome = ⊥
Obeys (command.Serve serve) old new outcome = ⊥
Obeys command.Gateway old new outcome = IsPaying old new outcome

-- the words give a command of one caller, and this is what came of it, or memory ran out before they were read
abbrev pub IsRun : List (List ℕ) → Run → Run → Status → Type 0
IsRun words old new outcome =
    ((outcome ≡ status.Memory) × (new ≡ old)) ⊎ ((given : Command) × IsCommand words given × Obeys given old new outcome)

-- the same by the meanings of what is outside, where the words were good
abbrev pub RunsBy : {S K C G : Type 0} → Meanings S K C G → List (List ℕ) → S × K × C × G → S × K × C × G → Status → Type 0
RunsBy by words old new outcome = outcome ≢ status.BadWords → IsRun words (run_of by old) (run_of by new) outcome

-- so a session
abbrev pub SessionBy : {S K C G : Type 0} → Meanings S K C G → Session → S × K × C × G → S × K × C × G → Status → Type 0
SessionBy by session old new outcome = IsSession session (run_of by old) (run_of by new) outcome
