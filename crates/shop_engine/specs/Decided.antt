-- What decides the answer to a request, by the kind of its point.
use Rattle.std.specs.Prelude.{◌≡◌, ℕ, ◌+◌, ◌<◌, ◌≤◌, max, List, [], ◌∷◌, ◌++◌, length, take, All, AllPairs, Option, Some, None, IsSome, true}
use Rattle.shop_model.specs.declared.page.Page.{Page}
use Rattle.shop_model.specs.declared.refusal.Refusal.TheVariants as refusal
use Rattle.shop_model.specs.declared.requests.Request.{Request}
use Rattle.shop_model.specs.declared.tax.TaxRule.TheVariants.{ByCountry}
use Rattle.shop_model.specs.pages.Show.{is_changing, check, show}
use Rattle.shop_model.specs.asked.Refusals.{page_of}
use Rattle.shop_edges.specs.declared.charge.Call.{Call}
use Rattle.shop_edges.specs.declared.gateway.Answer.{Answer}
use Rattle.shop_edges.specs.Charges.{denial}
use Rattle.shop_history.specs.declared.acts.Act.{Act}
use Rattle.shop_history.specs.declared.acts.Entry.{Entry}
use Rattle.shop_history.specs.Acts.{IsActOf}
use Rattle.shop_history.specs.Logs.{tables, page_at}
use Rattle.shop_cache.specs.Keys.{key_asked}
use Rattle.shop_attempt.specs.declared.attempts.Conflict.{Conflict}
use Rattle.shop_attempt.specs.Conflicts.{IsConflict}
use Rattle.shop_attempt.specs.Seats.{Seat}
use Rattle.shop_browse.specs.Footprints.{InFootprint}
use Rattle.shop_engine.specs.declared.report.Point.{Point}
use Rattle.shop_engine.specs.declared.report.PointKind.{PointKind}
use Rattle.shop_engine.specs.declared.report.PointKind.TheVariants.{Plain, At, Change, Busy, Full, Denied, GatewayFailed}
use Rattle.shop_engine.specs.declared.report.PointKind.TheVariants as kind
use Rattle.shop_engine.specs.Lists.{IsFresh}
use Rattle.shop_engine.specs.Payments.{AreFor, IsPaid, IsDenied, IsFailed}
use Rattle.shop_engine.specs.Seats.{Stays}

-- what came of a request: its point, the entries that it made, and what the gateway was asked for it, and said
pub record Decision : Type 0 where
  pub point : Point
  pub made : List Entry
  pub answers : List Answer

-- the call whose point this is, of the caller who has the seat
abbrev pub call_of : Seat → Point → Call
call_of seat point = record { caller = seat.caller; number = point.call }

-- a change: its entry is the caller's, with the request's act, and the last of the log seen, behind all that was seen
-- before and what came between; its stamp is no less than its moment, and where the caller is the only one, the
-- larger of the latest stamp before and the moment; where it is a purchase, it was paid in the tables that it found
pub record IsChanged (old new : Seat) (request : Request) (decision : Decision) : Type 0 where
  pub between : List Entry
  pub entry : Entry
  pub made_is : decision.made ≡ entry ∷ []
  pub seen : new.seen ≡ old.seen ++ (between ++ decision.made)
  pub caller : entry.caller ≡ new.caller
  pub does : IsActOf request decision.point.draw ByCountry entry.act
  pub paid : IsPaid (tables new.opening (old.seen ++ between)) (call_of new decision.point) decision.answers entry.act
  pub later : decision.point.moment ≤ entry.stamp
  pub exact : (told : ℕ) → old.latest ≡ Some told → entry.stamp ≡ max told decision.point.moment

-- a conflict in a row that the request may read, whose change is another caller's, behind all that was seen before
pub record IsMet (old new : Seat) (request : Request) (draw : ℕ) (conflict : Conflict) : Type 0 where
  pub conflicts : IsConflict new.opening new.seen new.caller conflict
  pub footprint : InFootprint new.opening new.seen request draw conflict.key
  pub above : length old.seen < conflict.found

-- rows kept changing: each of eight tries met a conflict, whose change is later than those before it, and which
-- read what was found before, or something later, where the same row was read again
pub record IsBusy (old new : Seat) (request : Request) (point : Point) (conflicts : List Conflict) : Type 0 where
  pub tries : point.tries ≡ 8
  pub eight : length conflicts ≡ 8
  pub met : All (IsMet old new request point.draw) conflicts
  pub rise : AllPairs (λ first later. first.found < later.found) conflicts
  pub again : AllPairs (λ first later. later.key ≡ first.key → first.found ≤ later.read) conflicts

-- the log has as many entries as it may have, and nothing else refuses the change; a purchase was paid
pub record IsFull (new : Seat) (request : Request) (decision : Decision) : Type 0 where
  pub limit : length new.seen ≡ new.limit
  pub changes : is_changing request ≡ true
  pub passes : check (tables new.opening new.seen) request ≡ None
  pub paid : (act : Act) × IsActOf request decision.point.draw ByCountry act × IsPaid (tables new.opening new.seen) (call_of new decision.point) decision.answers act

-- a list that is kept is shown: nothing is asked of the store, and nothing made; it is fresh of the log seen
pub record IsShownAgain (old new : Seat) (request : Request) (decision : Decision) : Type 0 where
  pub asked : IsSome (key_asked request)
  pub stands : new ≡ old
  pub made : decision.made ≡ []
  pub tries : decision.point.tries ≡ 0
  pub fresh : IsFresh new.seen decision.point.front decision.point.moment

-- nothing was made, after so many entries
abbrev pub MadeNothing : Decision → ℕ → Type 0
MadeNothing decision front = (decision.made ≡ []) × (decision.point.front ≡ front)

-- what decided, the entries made, and the front: the length of the log seen, but for a list that was kept, for rows
-- that kept changing, and for a gateway that failed
abbrev pub CauseAs : Seat → Seat → Request → Decision → PointKind → Type 0
CauseAs old new request decision At = MadeNothing decision (length new.seen)
CauseAs old new request decision Change = IsChanged old new request decision × (decision.point.front ≡ length new.seen)
CauseAs old new request decision kind.List = IsShownAgain old new request decision
CauseAs old new request decision (Busy conflicts) = IsBusy old new request decision.point conflicts × MadeNothing decision 0
CauseAs old new request decision Full = IsFull new request decision × MadeNothing decision (length new.seen)
CauseAs old new request decision (Denied charge reason) =
    IsDenied (tables new.opening new.seen) request (call_of new decision.point) decision.answers charge reason
    × MadeNothing decision (length new.seen)
CauseAs old new request decision GatewayFailed = IsFailed old new request × MadeNothing decision 0
CauseAs old new request decision Plain = ⊥

-- the page of the answer: what the tables after the log seen show, or, for a list that was kept, those at its front,
-- the page of the last entry, or that of a refusal
abbrev pub page_as : Seat → Request → Point → PointKind → Option Page
page_as new request point At = show (tables new.opening new.seen) request point.draw
page_as new request point kind.List = show (tables new.opening (take point.front new.seen)) request point.draw
page_as new request point Change = page_at new.opening new.seen (length new.seen)
page_as new request point (Busy conflicts) = Some (page_of refusal.RowsKeptChanging)
page_as new request point Full = Some (page_of refusal.FullLog)
page_as new request point (Denied charge reason) = Some (page_of (denial reason))
page_as new request point GatewayFailed = Some (page_of refusal.GatewayFailed)
page_as new request point Plain = None

-- how many attempts the last try settled: one, but none where the gateway failed, or a list was kept
abbrev pub tries_alone : PointKind → ℕ
tries_alone GatewayFailed = 0
tries_alone kind.List = 0
tries_alone _ = 1

-- a request was decided between two views of a seat, by one of eight tries, and the first where the caller is the
-- only one: there is a page, and this is it
pub record IsDecided (old new : Seat) (request : Request) (decision : Decision) (page : Page) : Type 0 where
  pub stays : Stays old new decision.made decision.point.tries decision.point.moment
  pub some : tries_alone decision.point.kind ≤ decision.point.tries
  pub few : decision.point.tries ≤ 7 + tries_alone decision.point.kind
  pub alone : IsSome old.latest → decision.point.tries ≡ tries_alone decision.point.kind
  pub asks : AreFor request (call_of new decision.point) decision.answers
  pub cause : CauseAs old new request decision decision.point.kind
  pub shows : page_as new request decision.point decision.point.kind ≡ Some page
