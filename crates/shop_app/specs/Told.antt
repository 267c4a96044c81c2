-- Which words are for several callers, and what a faults sink is told.
use Rattle.std.specs.Prelude.{◌≡◌, ◌⊎◌, ℕ, List, Option, Some, codes, slice_get}
use Rattle.std.specs.Io.KnownBytes.{Appends}
use Rattle.shop_edges.specs.Causes.{Rose}
use Rattle.shop_edges.specs.Streams.{AppendsFront}
use Rattle.shop_words.specs.declared.command.Command.{Command}
use Rattle.shop_words.specs.declared.command.Command.TheVariants as command
use Rattle.shop_app.specs.declared.status.Status.{Status}
use Rattle.shop_app.specs.Statuses.{fault_line}

-- several callers serve the words: the first of them is `race` or `serve`
abbrev pub IsShared : List (List ℕ) → Type 0
IsShared words = (slice_get words 0 ≡ Some (codes "race")) ⊎ (slice_get words 0 ≡ Some (codes "serve"))

-- a command of several callers
abbrev pub IsForSeveral : Command → Type 0
IsForSeveral (command.Race race) = Unit {0}
IsForSeveral (command.Serve serve) = Unit {0}
IsForSeveral _ = ⊥

-- the line of a status stands on the faults sink, or that sink failed, and a front of the line stands there
abbrev pub IsTold : Option (List ℕ) → Option (List ℕ) → ℕ → ℕ → Status → Type 0
IsTold held held' faults faults' outcome =
    Appends held held' (fault_line outcome) ⊎ (AppendsFront held held' (fault_line outcome) × Rose faults faults')
