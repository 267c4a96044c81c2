-- What a worker does with a message or a request, by the meanings of its store, its clock and its gateway.
use Rattle.std.specs.Prelude.{Bool, Option, Result}
use Rattle.std.specs.declared.vec.Vec.{Vec}
use Rattle.shop_attempt.specs.declared.store.Store as store
use Rattle.shop_edges.specs.declared.clock.Clock as clock
use Rattle.shop_edges.specs.declared.gateway.Gateway as gateway
use Rattle.shop_edges.specs.declared.sink.Sink as sink
use Rattle.shop_http.specs.declared.requests.Refusal.{Refusal}
use Rattle.shop_message.specs.declared.messages.Message.{Message}
use Rattle.shop_model.specs.declared.requests.Request.{Request}
use Rattle.shop_pages.specs.declared.reply.Form.{Form}
use Rattle.shop_engine.specs.declared.report.Ended.{Ended}
use Rattle.shop_engine.specs.declared.report.Point.{Point}
use Rattle.shop_engine.specs.Connections.{IsMade, MessageAs, turn_behind}
use Rattle.shop_engine.specs.Meanings.{Meanings, stands}
use Rattle.shop_engine.specs.Steps.{Answers, AnswersRequest, GivesUp}
use Rattle.shop_engine.specs.Workers.{WorkerState, standing}

-- it answered a message by this point, and its last reply
abbrev pub AnswersBy : {St C G : Type 0} → Meanings St C G → Bool → WorkerState St × C × G → WorkerState St × C × G → Message → Point → Type 0
AnswersBy by last from to message point = Answers last (stands by from) (stands by to) message point to.0.reply

-- the same of a request
abbrev pub AnswersRequestBy : {St C G : Type 0} → Meanings St C G → Form → WorkerState St × C × G → WorkerState St × C × G → Request → Point → Type 0
AnswersRequestBy by form from to request point = AnswersRequest form (stands by from) (stands by to) request point to.0.reply

-- memory ran out before it was answered
abbrev pub GivesUpBy : {St C G : Type 0} → Meanings St C G → Result Request Refusal → WorkerState St × C × G → WorkerState St × C × G → Type 0
GivesUpBy by asks from to = GivesUp asks (stands by from) (stands by to)

-- the answer to the message behind those that left the points was made: one point more, and the reply that the worker holds
abbrev pub Makes : {St C G Z : Type 0} → Meanings St C G → Message → WorkerState St × C × G × Vec Point Z → WorkerState St × C × G × Vec Point Z → Type 0
Makes by message (worker, clock, gateway, points) (worker', clock', gateway', points') =
    IsMade (turn_behind points.items message) (stands by (worker, clock, gateway)) (stands by (worker', clock', gateway')) points.items
    (record { points = points'.items; reply = worker'.reply })

-- what became of the message behind those that left the points, and what the sink took of its reply
abbrev pub MessageBy : {St K C G Z : Type 0} → store.Ghosts St → sink.Ghosts K → clock.Ghosts C → gateway.Ghosts G
    → WorkerState St → K → C → G → Vec Point Z → WorkerState St → K → C → G → Vec Point Z → Message → Option Ended → Type 0
MessageBy st k c g worker sink clock gateway points worker' sink' clock' gateway' points' message end =
    MessageAs (turn_behind points.items message)
    (standing st.seat worker (c.readings clock) (g.answers gateway)) (standing st.seat worker' (c.readings clock') (g.answers gateway'))
    (record { points = points.items; held = k.held sink }) (record { points = points'.items; held = k.held sink' }) end
