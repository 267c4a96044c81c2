-- The grammar of the command of lanes, at which one thread serves many connections.
use Rattle.std.specs.Prelude.{◌≡◌, ◌≤◌, ℕ, List, ◌∷◌, Option, Some, codes, slice_get}
use Rattle.shop_words.specs.Commands.{Chooses, ChoosesConnections, ChoosesPort, IsGiven, session_options}
use Rattle.shop_words.specs.Options.{IsChosen}
use Rattle.shop_words.specs.Values.{workers_of}
use Rattle.shop_words.specs.declared.polled.Poll.{Poll}

abbrev pub poll_options : List (List ℕ)
poll_options = codes "port" ∷ codes "lanes" ∷ codes "connections" ∷ session_options

-- the shop that option values choose, the port, how many lanes, 4 by default, and how many connections
pub record ChoosesPoll (values : List ℕ → Option (List ℕ)) (poll : Poll) : Type 0 where
  pub shop : Chooses values poll.shop
  pub port : ChoosesPort values poll.port
  pub lanes : IsChosen workers_of 4 (values (codes "lanes")) poll.lanes
  pub connections : ChoosesConnections values poll.connections

-- `poll` and its options
abbrev pub IsPoll : List (List ℕ) → Poll → Type 0
IsPoll = IsGiven (codes "poll") poll_options ChoosesPoll

-- the first word names this command
abbrev pub IsPolled : List (List ℕ) → Type 0
IsPolled words = slice_get words 0 ≡ Some (codes "poll")

-- as many lanes, connections and changes as words may ask for
pub record IsPollable (poll : Poll) : Type 0 where
  pub one : 1 ≤ poll.lanes
  pub lanes : poll.lanes ≤ 16
  pub connections : poll.connections ≤ 1_000_000
  pub limit : poll.shop.limit ≤ 1_000_000
