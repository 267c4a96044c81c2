-- What driving browsers comes to, by the meanings of the worker's store, of the clock and of the gateway.
use Rattle.std.specs.Prelude.{ℕ, Bool, List, Result}
use Rattle.shop_text.specs.declared.memory.Memory.{Memory}
use Rattle.shop_browsers.specs.Browsers.{BrowserState}
use Rattle.shop_engine.specs.Meanings.{Meanings, stands}
use Rattle.shop_engine.specs.Workers.{WorkerState}
use Rattle.shop_drive.specs.declared.tally.Tally.{Tally}
use Rattle.shop_drive.specs.Drives.{Drives}
use Rattle.shop_drive.specs.Turns.{Pair, Stage, TurnAs}

-- a worker and a browser, or all of them, with a clock and a gateway
abbrev pub Party : Type 0 → Type 0 → Type 0 → Type 0 → Type 0
Party B St C G = WorkerState St × B × C × G

-- where a worker and a browser stand
abbrev pub pair_of : {St C G : Type 0} → Meanings St C G → Party BrowserState St C G → Pair
pair_of by (worker, browser, clock, gateway) = record { worker = stands by (worker, clock, gateway); browser = browser; failures = by.2.faults gateway }

-- where a worker and all browsers stand
abbrev pub stage_of : {St C G : Type 0} → Meanings St C G → Party (List BrowserState) St C G → Stage
stage_of by (worker, browsers, clock, gateway) = record { worker = stands by (worker, clock, gateway); browsers = browsers; failures = by.2.faults gateway }

-- what came of a browser's turn
abbrev pub TurnBy : {St C G : Type 0} → Meanings St C G → Party BrowserState St C G → Party BrowserState St C G → Result Bool Memory → Type 0
TurnBy by from to result = TurnAs (by.0.marked to.0.store) (pair_of by from) (pair_of by to) result

-- what came of all turns
abbrev pub DrivesBy : {St C G : Type 0} → Meanings St C G → Party (List BrowserState) St C G → Party (List BrowserState) St C G → ℕ → Result Tally Memory → Type 0
DrivesBy by from to steps result = Drives (by.0.marked to.0.store) (stage_of by from) (stage_of by to) steps result
