-- What a settle or a try comes to, by the meanings of a store and a gateway.
use Rattle.std.specs.Prelude.{◌≡◌, List, Option}
use Rattle.shop_attempt.specs.declared.store.Store as store
use Rattle.shop_attempt.specs.declared.attempts.Attempt.{Attempt}
use Rattle.shop_attempt.specs.Seats.{Seat, Looked}
use Rattle.shop_browse.specs.declared.attempted.Attempted.{Attempted}
use Rattle.shop_browse.specs.Attempts.{IsList}
use Rattle.shop_cache.specs.declared.lines.ListLine.{ListLine}
use Rattle.shop_edges.specs.declared.gateway.Answer.{Answer}
use Rattle.shop_edges.specs.declared.gateway.Gateway as gateway
use Rattle.shop_edges.specs.declared.gateway.Reason.{Reason}
use Rattle.shop_model.specs.asked.PurchaseAsked.{PurchaseAsked}
use Rattle.shop_model.specs.declared.requests.Request.TheVariants.{BuyConfirm}
use Rattle.shop_order.specs.Payments.{IsDenied}
use Rattle.shop_pages.specs.ReplyStates.{ReplyState, bytes_of}
use Rattle.shop_engine.specs.declared.tries.Job.{Job}
use Rattle.shop_engine.specs.declared.tries.Outcome.{Outcome}
use Rattle.shop_engine.specs.declared.tries.Tried.{Tried}
use Rattle.shop_engine.specs.Tries.{HasAsked, IsGivenUp, IsOutcome, IsTried, MaySettle, MayTry, TriedAs, Trying, asking_for, trying}

-- an attempt whose page is written was settled, wherever it may have begun
abbrev pub SettlesPage : {St : Type 0} → store.Ghosts St → Job → Attempt → St × ReplyState → St × ReplyState → Tried → Type 0
SettlesPage s job attempt (store, reply) (store', reply') tried = (start : Seat) (answers : List Answer)
    → Looked start (s.seat store) → MaySettle start (s.seat store) job answers reply.draft attempt
    → TriedAs start (s.seat store') job answers (bytes_of reply') tried

-- an attempt at a list
abbrev pub SettlesList : {St : Type 0} → store.Ghosts St → Job → Attempt × List ListLine → St × ReplyState → St × ReplyState → Tried → Type 0
SettlesList s job (attempt, lines) (store, reply) (store', reply') tried = (start : Seat) (kept : Option Answer) (answers : List Answer)
    → Looked start (s.seat store) → HasAsked job answers kept → IsList start (s.seat store) (asking_for job) reply.draft attempt lines
    → TriedAs start (s.seat store') job answers (bytes_of reply') tried

-- an attempt at a purchase that was denied
abbrev pub SettlesDenied : {St : Type 0} → store.Ghosts St → Job → Attempt × Reason → St × ReplyState → St × ReplyState → Tried → Type 0
SettlesDenied s job (attempt, reason) (store, reply) (store', reply') tried = (start : Seat) (asked : PurchaseAsked) (kept : Option Answer) (answers : List Answer)
    → Looked start (s.seat store) → job.request.now ≡ BuyConfirm asked → HasAsked job answers kept
    → IsDenied start (s.seat store) (asking_for job) asked job.call reply.draft kept attempt reason
    → TriedAs start (s.seat store') job answers (bytes_of reply') tried

-- the meanings of a store and a gateway
abbrev pub Meanings : Type 0 → Type 0 → Type 1
Meanings St G = store.Ghosts St × gateway.Ghosts G

-- a store, a reply, the answer that is kept, and a gateway
abbrev pub Means : Type 0 → Type 0 → Type 0
Means St G = St × ReplyState × Option Answer × G

-- where the tries stand
abbrev pub stands : {St G : Type 0} → Meanings St G → Means St G → Trying
stands (s, g) (store, reply, kept, gateway) = trying (s.seat store) kept (g.answers gateway)

-- one try
abbrev pub TriesBy : {St G : Type 0} → Meanings St G → Job → Means St G → Means St G → Tried → Type 0
TriesBy by job from to tried = IsTried (stands by from) (stands by to) job (bytes_of to.1) tried

-- one try, behind what was attempted, wherever that may have begun
abbrev pub TriesOnBy : {St G : Type 0} → Meanings St G → Job → Attempted → Means St G → Means St G → Tried → Type 0
TriesOnBy by job attempted from to tried = (start : Seat) → MayTry start (by.0.seat from.0) job from.1.draft attempted
    → IsTried (trying start from.2 (by.1.answers from.3)) (stands by to) job (bytes_of to.1) tried

-- all tries
abbrev pub DecidesBy : {St G : Type 0} → Meanings St G → Job → Means St G → Means St G → Outcome → Type 0
DecidesBy by job from to outcome = IsOutcome (stands by from) (stands by to) job (bytes_of to.1) outcome

-- memory ran out
abbrev pub GivesUpBy : {St G : Type 0} → Meanings St G → Job → Means St G → Means St G → Type 0
GivesUpBy by job from to = IsGivenUp (stands by from) (stands by to) job
