-- The workers of a new shop's callers.
use Rattle.std.specs.Prelude.{◌≡◌, ℕ, ◌+◌, List, [], ◌∷◌, ◌++◌}
use Rattle.std.specs.List.{AllZip}
use Rattle.shop_turn.specs.Desks.{DeskValue}
use Rattle.shop_turn.specs.Shops.{Opens}
use Rattle.shop_engine.specs.Posts.{first_state}
use Rattle.shop_engine.specs.Workers.{WorkerState}
use Rattle.shop_words.specs.declared.command.Session.{Session}
use Rattle.shop_app.specs.NewShops.{caller_of, new_book}

-- a caller's worker at its desk, before its first link
abbrev pub IsFirstWorker : Session → DeskValue → WorkerState DeskValue → Type 0
IsFirstWorker session desk worker = worker ≡ first_state desk (caller_of session desk.number)

abbrev pub AreFirstWorkers : Session → List DeskValue → List (WorkerState DeskValue) → Type 0
AreFirstWorkers session = AllZip (IsFirstWorker session)

-- a shop is opened: there is a worker for each lane at a desk of its own, and one desk more that is nobody's
pub record OpensWorkers (session : Session) (lanes : ℕ) (own : DeskValue) (workers : List (WorkerState DeskValue)) : Type 0 where
  pub desks : List DeskValue
  pub opens : Opens (new_book session) (lanes + 1) (desks ++ own ∷ [])
  pub are : AreFirstWorkers session desks workers
