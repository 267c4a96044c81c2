-- What one try of a request leaves, and what its tries together do.
use Rattle.std.specs.Prelude.{◌≡◌, ℕ, ◌≤◌, List, [], ◌++◌, length, All, Option, Some, None, IsSome}
use Rattle.shop_model.specs.declared.page.Page.{Page}
use Rattle.shop_model.specs.declared.requests.Request.{Request}
use Rattle.shop_model.specs.declared.requests.Request.TheVariants.{BuyConfirm}
use Rattle.shop_model.specs.declared.tables.Tables.{Tables}
use Rattle.shop_model.specs.declared.tax.TaxRule.TheVariants.{ByCountry}
use Rattle.shop_edges.specs.declared.charge.Call.{Call}
use Rattle.shop_edges.specs.declared.gateway.Answer.{Answer}
use Rattle.shop_edges.specs.declared.gateway.Reason.{Reason}
use Rattle.shop_edges.specs.declared.gateway.Verdict.TheVariants as verdict
use Rattle.shop_edges.specs.Charges.{ChargeValue}
use Rattle.shop_edges.specs.Gateways.{Answered}
use Rattle.shop_edges.specs.Payments.{Keeps, IsFor}
use Rattle.shop_history.specs.declared.acts.Act.{Act}
use Rattle.shop_history.specs.declared.acts.Entry.{Entry}
use Rattle.shop_history.specs.Logs.{tables, version_of}
use Rattle.shop_cache.specs.declared.lines.ListLine.{ListLine}
use Rattle.shop_cache.specs.Keys.{key_asked}
use Rattle.shop_draft.specs.declared.draft.Draft.{Draft}
use Rattle.shop_attempt.specs.declared.attempts.Attempt.{Attempt}
use Rattle.shop_attempt.specs.declared.attempts.Conflict.{Conflict}
use Rattle.shop_attempt.specs.Marks.{AreMarks}
use Rattle.shop_attempt.specs.Reads.{Agrees}
use Rattle.shop_attempt.specs.Seats.{Seat, IsSeat, Looked}
use Rattle.shop_browse.specs.declared.attempted.Attempted.{Attempted}
use Rattle.shop_browse.specs.Attempts.{Asking, AttemptedAs, IsReady, asking_of}
use Rattle.shop_browse.specs.Lists.{AreListed}
use Rattle.shop_pages.specs.Replies.{reply}
use Rattle.shop_engine.specs.declared.report.Point.{Point}
use Rattle.shop_engine.specs.declared.report.PointKind.{PointKind}
use Rattle.shop_engine.specs.declared.report.PointKind.TheVariants as kind
use Rattle.shop_engine.specs.declared.tries.Job.{Job}
use Rattle.shop_engine.specs.declared.tries.Outcome.{Outcome}
use Rattle.shop_engine.specs.declared.tries.Tried.{Tried}
use Rattle.shop_engine.specs.declared.tries.Tried.TheVariants.{Settled, Listed, Denied, Again, Failed, Memory}
use Rattle.shop_engine.specs.Decided.{IsMet, IsDecided, tries_alone}
use Rattle.shop_engine.specs.Payments.{AreFor, IsPaid}
use Rattle.shop_engine.specs.Seats.{Stays}

-- the parts of a job: what is asked, and by whom, in which call

abbrev pub asking_for : Job → Asking
asking_for job = asking_of job.ask job.request.now

-- the point of what came of it
abbrev pub point_of : Job → Outcome → Point
point_of job outcome = record {
  kind = outcome.kind;
  front = outcome.front;
  moment = job.ask.moment;
  call = job.call.number;
  draw = job.ask.draw;
  tries = outcome.tries;
}

-- what a gateway was asked for a job

-- an answer to a charge for the purchase that is asked for; another request has none
abbrev pub IsAnswerTo : Request → Call → Answer → Type 0
IsAnswerTo (BuyConfirm asked) call answer = IsFor asked call answer
IsAnswerTo _ call answer = ⊥

-- all that it was asked so far, and said, and the last of it is kept; what is bought is taxed by country
pub record HasAsked (job : Job) (answers : List Answer) (kept : Option Answer) : Type 0 where
  pub tax : job.ask.tax ≡ ByCountry
  pub charges : All (IsAnswerTo job.request.now job.call) answers
  pub keeps : Keeps None answers kept

-- where the tries of a request stand: the seat, the answer that is kept, and what the gateway tells
pub record Trying : Type 0 where
  pub seat : Seat
  pub kept : Option Answer
  pub told : Option (List Answer)

abbrev pub trying : Seat → Option Answer → Option (List Answer) → Trying
trying seat kept told = record { seat = seat; kept = kept; told = told }

-- what it was asked meanwhile, and said
pub record Asks (old new : Trying) (job : Job) (answers : List Answer) : Type 0 where
  pub charges : All (IsAnswerTo job.request.now job.call) answers
  pub keeps : Keeps old.kept answers new.kept
  pub told : Answered old.told new.told answers

-- what came of a job

-- the lines that were read: of the list that was asked for, where the tables decided, and none else
abbrev pub HasLines : Seat → Request → PointKind → Option (List ListLine) → Type 0
HasLines new request kind.At (Some lines) = AreListed (tables new.opening new.seen) request lines
HasLines new request kind.At None = key_asked request ≡ None
HasLines new request kind.List lines = ⊥
HasLines new request _ (Some lines) = ⊥
HasLines new request _ None = Unit {0}

-- it was decided, and these bytes are the reply
pub record IsAnswer (old new : Seat) (job : Job) (answers : List Answer) (bytes : List ℕ) (outcome : Outcome) : Type 0 where
  pub made : List Entry
  pub page : Page
  pub decided : IsDecided old new job.request.now (record { point = point_of job outcome; made = made; answers = answers }) page
  pub lines : HasLines new job.request.now outcome.kind outcome.lines
  pub bytes_are : bytes ≡ reply page job.form

-- a denial decided
abbrev pub denial : Answer → Reason → ℕ → ℕ → Outcome
denial answer reason front tries = record { kind = kind.Denied answer.charge reason; front = front; tries = tries; lines = None }

-- it was decided, and the gateway tells what it answered
pub record IsOutcome (old new : Trying) (job : Job) (bytes : List ℕ) (outcome : Outcome) : Type 0 where
  pub answers : List Answer
  pub told : Answered old.told new.told answers
  pub is : IsAnswer old.seat new.seat job answers bytes outcome

-- so many settles at most
pub record StaysWithin (old new : Seat) (entries : List Entry) (settles moment : ℕ) : Type 0 where
  pub made : ℕ
  pub few : made ≤ settles
  pub stays : Stays old new entries made moment

-- memory ran out: the settles, eight at most, made no entry, and the gateway gave eight answers at most
pub record IsGivenUp (old new : Trying) (job : Job) : Type 0 where
  pub answers : List Answer
  pub asks : AreFor job.request.now (record { caller = new.seat.caller; number = job.call.number }) answers
  pub few : length answers ≤ 8
  pub told : Answered old.told new.told answers
  pub stays : StaysWithin old.seat new.seat [] 8 job.ask.moment

-- what came of one try

-- a try met a conflict, which it can't where the caller is the only one; the row was read when as much was seen as at its start
pub record IsAgain (old new : Seat) (job : Job) (conflict : Conflict) : Type 0 where
  pub stays : Stays old new [] 1 job.ask.moment
  pub met : IsMet old new job.request.now job.ask.draw conflict
  pub since : conflict.read ≤ length old.seen → version_of new.opening old.seen conflict.key ≡ conflict.read
  pub others : IsSome old.latest → ⊥

-- after all that the gateway was asked so far, of which a denial is the last
abbrev pub TriedAs : Seat → Seat → Job → List Answer → List ℕ → Tried → Type 0
TriedAs old new job answers bytes (Settled kind front) =
    (tries_alone kind ≡ 1) × IsAnswer old new job answers bytes (record { kind = kind; front = front; tries = 1; lines = None })
TriedAs old new job answers bytes (Listed lines front) =
    IsAnswer old new job answers bytes (record { kind = kind.At; front = front; tries = 1; lines = Some lines })
TriedAs old new job answers bytes (Denied reason front) = (charge : ChargeValue)
    × Keeps None answers (Some (record { charge = charge; verdict = verdict.Denied reason }))
    × IsAnswer old new job answers bytes (record { kind = kind.Denied charge reason; front = front; tries = 1; lines = None })
TriedAs old new job answers bytes (Again conflict) = IsAgain old new job conflict
TriedAs old new job answers bytes Failed =
    IsAnswer old new job answers bytes (record { kind = kind.GatewayFailed; front = 0; tries = 0; lines = None })
TriedAs old new job answers bytes Memory = StaysWithin old new [] 1 job.ask.moment

-- the gateway was asked once at most, and whatever it was asked before, this came of it all
pub record IsTried (old new : Trying) (job : Job) (bytes : List ℕ) (tried : Tried) : Type 0 where
  pub answers : List Answer
  pub few : length answers ≤ 1
  pub asks : Asks old new job answers
  pub is : (before : List Answer) → HasAsked job before old.kept → TriedAs old.seat new.seat job (before ++ answers) bytes tried

-- attempts that may be settled

-- what was attempted, from some seat on
abbrev pub WasAttempted : Seat → Asking → Draft → Attempted → Type 0
WasAttempted now asking draft attempted = (start : Seat) × AttemptedAs start now asking draft attempted

-- from this seat of the job's caller on
pub record MayTry (start now : Seat) (job : Job) (draft : Draft) (attempted : Attempted) : Type 0 where
  pub looked : Looked start now
  pub valid : IsSeat start
  pub caller : start.caller ≡ job.call.caller
  pub made : AttemptedAs start now (asking_for job) draft attempted

-- what is done, if anything, was paid in these tables
abbrev pub IsPaidFor : Option Act → Tables → Call → List Answer → Type 0
IsPaidFor None t call answers = Unit {0}
IsPaidFor (Some act) t call answers = IsPaid t call answers act

-- it is this caller's, its page is written, and in whichever tables agree with its reads, it is paid
pub record MaySettle (start now : Seat) (job : Job) (answers : List Answer) (draft : Draft) (attempt : Attempt) : Type 0 where
  pub caller : now.caller ≡ job.call.caller
  pub kept : Option Answer
  pub asked : HasAsked job answers kept
  pub ready : IsReady start now (asking_for job) draft attempt
  pub unlisted : attempt.act ≡ None → key_asked job.request.now ≡ None
  pub paid : (t : Tables) → Agrees now.opening t attempt.reads → IsPaidFor attempt.act t job.call answers

-- what a list leaves that was read

-- its front and moment are marked, and what is marked are marks of the log seen
pub record LeavesMark (marked : ℕ → ℕ → Type 0) (seen : List Entry) (front moment : ℕ) : Type 0 where
  pub mark : marked front moment
  pub marks : AreMarks marked seen

-- by one try
abbrev pub LeavesListMark : (ℕ → ℕ → Type 0) → List Entry → ℕ → Tried → Type 0
LeavesListMark marked seen moment (Listed lines front) = LeavesMark marked seen front moment
LeavesListMark marked seen moment _ = Unit {0}

-- by all
abbrev pub LeavesMarkOf : (ℕ → ℕ → Type 0) → List Entry → ℕ → Outcome → Type 0
LeavesMarkOf marked seen moment outcome = IsSome outcome.lines → LeavesMark marked seen outcome.front moment
