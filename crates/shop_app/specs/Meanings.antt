-- What a drive does, by the meanings of what is outside.
use Rattle.std.specs.Prelude.{ℕ, List, [], Option, Some, Result}
use Rattle.shop_text.specs.declared.memory.Memory.{Memory}
use Rattle.shop_edges.specs.declared.clock.Clock as clock
use Rattle.shop_edges.specs.declared.gateway.Gateway as gateway
use Rattle.shop_edges.specs.declared.sink.Sink as sink
use Rattle.shop_edges.specs.declared.gateway.Answer.{Answer}
use Rattle.shop_edges.specs.Gateways.{Answered}
use Rattle.shop_book.specs.Solos.{SoloValue, marks_of, seat_of}
use Rattle.shop_browsers.specs.Browsers.{BrowserState}
use Rattle.shop_drive.specs.Turns.{Stage}
use Rattle.shop_engine.specs.Workers.{WorkerState, standing}
use Rattle.shop_words.specs.declared.command.Drive.{Drive}
use Rattle.shop_app.specs.declared.driven.Driven.{Driven}
use Rattle.shop_app.specs.declared.status.Status.{Status}
use Rattle.shop_app.specs.Driving.{IsDriven}
use Rattle.shop_app.specs.Noted.{NotedAs}
use Rattle.shop_app.specs.Outside.{Run, outside}

-- a run that reads nothing, whatever its source has left, and however often that failed
abbrev pub run_with : {K C G : Type 0} → sink.Ghosts K × clock.Ghosts C × gateway.Ghosts G → Option (List ℕ) × ℕ → K × C × G → Run
run_with (k, c, g) (left, reads) (sink, clock, gateway) = record {
  streams = record { left = left; held = k.held sink };
  outside = outside c g clock gateway;
  reads = reads;
  writes = k.faults sink;
}

-- a drive, which is such a run
abbrev pub DrivenBy : {K C G : Type 0} → sink.Ghosts K × clock.Ghosts C × gateway.Ghosts G → Drive → K × C × G → K × C × G → Status → Type 0
DrivenBy by drive old new outcome = (left : Option (List ℕ)) (reads : ℕ) → IsDriven drive (run_with by (left, reads) old) (run_with by (left, reads) new) outcome

-- a worker, browsers, a clock and a gateway
abbrev pub Party : Type 0 → Type 0 → Type 0
Party C G = WorkerState SoloValue × List BrowserState × C × G

-- where they stand, where these answers are noted
abbrev pub noted_stage : {C G : Type 0} → clock.Ghosts C × gateway.Ghosts G → List Answer → Party C G → Stage
noted_stage (c, g) noted (worker, browsers, clock, gateway) = record {
  worker = standing seat_of worker (c.readings clock) (Some noted);
  browsers = browsers;
  failures = g.faults gateway;
}

-- browsers were driven, and the answers that the gateway gave were noted
abbrev pub NotedBy : {C G : Type 0} → clock.Ghosts C × gateway.Ghosts G → Party C G → Party C G → ℕ → Result Driven Memory → Type 0
NotedBy by from to steps result = (all : List Answer) × Answered (by.1.answers from.3) (by.1.answers to.3) all
    × NotedAs (marks_of to.0.store) all (noted_stage by [] from) (noted_stage by all to) steps result
