-- The turns of browsers.
use Rattle.std.specs.Prelude.{◌≡◌, ◌⊎◌, ℕ, nat_eq, Bool, false, List, [], ◌∷◌, Some, Result, Ok, Err, codes, slice_get, slice_set}
use Rattle.std.specs.List.{starts_with}
use Rattle.shop_text.specs.declared.memory.Memory.{Memory}
use Rattle.shop_message.specs.declared.messages.Message.{Message}
use Rattle.shop_message.specs.Messages.{AreMessages, Between}
use Rattle.shop_model.specs.declared.page.Page.{Page}
use Rattle.shop_http.specs.Requests.{asked}
use Rattle.shop_pages.specs.Replies.{reply}
use Rattle.shop_browsers.specs.Browsers.{BrowserState, after_request}
use Rattle.shop_browsers.specs.Requests.{message_bytes}
use Rattle.shop_browsers.specs.Shown.{after_page}
use Rattle.shop_engine.specs.Failures.{RoseBy, failures_as}
use Rattle.shop_engine.specs.Lists.{IsFreshPoint}
use Rattle.shop_engine.specs.Steps.{Step, IsStep, GivesUp, form_of}
use Rattle.shop_engine.specs.Workers.{Standing}

-- where a worker and a browser stand, and how often the gateway has failed
pub record Pair : Type 0 where
  pub worker : Standing
  pub browser : BrowserState
  pub failures : ℕ

-- the browser asked by one message, which was answered in this step, and took what the page of the reply shows; the
-- gateway failed no less than the step's point tells
pub record Asks (from to : Pair) (step : Step) (page : Page) : Type 0 where
  pub asked : AreMessages (message_bytes from.browser) (step.message ∷ []) Between
  pub answered : IsStep false from.worker step to.worker
  pub failed : RoseBy from.failures (failures_as step.point.kind) to.failures
  pub shown : step.reply ≡ reply page (form_of step.message false)
  pub taken : to.browser ≡ after_page (after_request from.browser) page

-- a reply has status 200 where its first line says so; else it tells a refusal
abbrev pub is_page : List ℕ → Bool
is_page reply = starts_with nat_eq reply (codes "HTTP/1.1 200 ")

-- memory ran out before the browser was answered: nothing was begun, or it asked by one message, whose answer was
-- given up
abbrev pub GivesUpFor : Pair → Standing → Type 0
GivesUpFor from to = (to ≡ from.worker)
    ⊎ ((message : Message) × AreMessages (message_bytes from.browser) (message ∷ []) Between × GivesUp (asked message) from.worker to)

-- what came of a browser's turn; a list that was kept is fresh by what the store marks after it
abbrev pub TurnAs : (ℕ → ℕ → Type 0) → Pair → Pair → Result Bool Memory → Type 0
TurnAs marked from to (Ok good) =
    (step : Step) × (page : Page) × Asks from to step page × (good ≡ is_page step.reply) × IsFreshPoint marked to.worker.seat.seen step.point
TurnAs marked from to (Err memory) = GivesUpFor from to.worker

-- where a worker and all browsers stand
pub record Stage : Type 0 where
  pub worker : Standing
  pub browsers : List BrowserState
  pub failures : ℕ

-- the place of a browser, counted from 0, the step that answered it, and the page that it got
pub record Turn : Type 0 where
  pub place : ℕ
  pub step : Step
  pub page : Page

-- a stage by one of its browsers
abbrev pub pair_at : Stage → BrowserState → Pair
pair_at stage browser = record { worker = stage.worker; browser = browser; failures = stage.failures }

-- the browser at its place took a turn, and the others stay
pub record IsTurn (from : Stage) (turn : Turn) (to : Stage) : Type 0 where
  pub before : BrowserState
  pub after : BrowserState
  pub there : slice_get from.browsers turn.place ≡ Some before
  pub asks : Asks (pair_at from before) (pair_at to after) turn.step turn.page
  pub others : to.browsers ≡ slice_set from.browsers turn.place after

-- turns that follow one another
abbrev pub AreTurns : Stage → List Turn → Stage → Type 0
AreTurns from [] to = to ≡ from
AreTurns from (turn ∷ turns) to = (next : Stage) × IsTurn from turn next × AreTurns next turns to
