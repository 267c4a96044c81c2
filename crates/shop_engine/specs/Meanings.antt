-- What is said of a worker, its clock and its gateway, by the meanings of its store, of the clock and of the gateway.
use Rattle.std.specs.Prelude.{Bool}
use Rattle.shop_attempt.specs.declared.store.Store as store
use Rattle.shop_edges.specs.declared.clock.Clock as clock
use Rattle.shop_edges.specs.declared.gateway.Gateway as gateway
use Rattle.shop_message.specs.declared.messages.Message.{Message}
use Rattle.shop_engine.specs.declared.report.Answered.{Answered}
use Rattle.shop_engine.specs.Steps.{AnsweredAs}
use Rattle.shop_engine.specs.Workers.{Standing, WorkerState, standing}

-- of a store, a clock and a gateway
abbrev pub Meanings : Type 0 → Type 0 → Type 0 → Type 1
Meanings St C G = store.Ghosts St × clock.Ghosts C × gateway.Ghosts G

-- where the worker stands
abbrev pub stands : {St C G : Type 0} → Meanings St C G → WorkerState St × C × G → Standing
stands (s, c, g) (worker, clock, gateway) = standing s.seat worker (c.readings clock) (g.answers gateway)

-- what became of a message
abbrev pub AnsweredBy : {St C G : Type 0} → Meanings St C G → Bool → WorkerState St × C × G → WorkerState St × C × G → Message → Answered → Type 0
AnsweredBy by last from to message answered = AnsweredAs last (stands by from) (stands by to) message answered
