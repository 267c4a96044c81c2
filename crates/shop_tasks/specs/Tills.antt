-- A till: a gateway of its own, or one that is asked over a link.
use Rattle.std.specs.Prelude.{ℕ, List, Option, Some, None}
use Rattle.shop_edges.specs.declared.gateway.Answer.{Answer}
use Rattle.shop_gateway.specs.Remotes.{count}
use Rattle.shop_tasks.specs.declared.till.Till.{Till}
use Rattle.shop_tasks.specs.declared.till.Till.TheVariants.{Own, Dialled}

-- all its answers, where it is a gateway of its own
abbrev pub answers_of : {I O : Type 0} → Till I O → Option (List Answer)
answers_of (Own emulator) = Some emulator.answers
answers_of (Dialled remote) = None

-- how often it has failed: a gateway of its own never does
abbrev pub faults_of : {I O : Type 0} → (I → ℕ) → (O → ℕ) → Till I O → ℕ
faults_of reads writes (Own emulator) = 0
faults_of reads writes (Dialled remote) = count (reads remote.source) (writes remote.sink) remote.own
