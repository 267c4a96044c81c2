-- One try: what its settle shows where it decides nothing.
use Rattle.std.proofs.Common.{◌≡◌, ◌≢◌, ℕ, ◌≤◌, List, [], ◌∷◌, ◌++◌, length, append-nil, Option, Some, None, IsSome, refl, sym, ◌∙◌, ap, subst, arith}
use Rattle.shop_log.specs.Histories.{Extends}
use Rattle.shop_log.proofs.cited.Extends.{extends_self}
use Rattle.shop_model.specs.declared.requests.Request.TheVariants.{BuyConfirm}
use Rattle.shop_model.specs.declared.tables.Tables.{Tables}
use Rattle.shop_model.specs.asked.PurchaseAsked.{PurchaseAsked}
use Rattle.shop_edges.specs.declared.gateway.Answer.{Answer}
use Rattle.shop_edges.specs.Payments.{AsksOnce}
use Rattle.shop_history.specs.declared.acts.Act.{Act}
use Rattle.shop_history.specs.declared.acts.Entry.{Entry}
use Rattle.shop_history.specs.Logs.{tables, version_of}
use Rattle.shop_attempt.specs.declared.attempts.Attempt.{Attempt}
use Rattle.shop_attempt.specs.declared.attempts.Conflict.{Conflict}
use Rattle.shop_attempt.specs.declared.attempts.ReadOf.{ReadOf}
use Rattle.shop_attempt.specs.declared.attempts.Settle.{Settle}
use Rattle.shop_attempt.specs.declared.attempts.Settle.TheVariants as settle
use Rattle.shop_attempt.specs.Reads.{AreReadSince, first_stale}
use Rattle.shop_attempt.specs.Seats.{Seat, IsSeat, Follows, Looked, RoseOnce}
use Rattle.shop_attempt.specs.Settles.{Found, Refused, Confirmed, DoneAs, SettledAs}
use Rattle.shop_attempt.proofs.cited.Settles.{conflict_with, first_stale_some}
use Rattle.shop_attempt.proofs.cited.Looks.{conflict_of}
use Rattle.shop_browse.specs.Attempts.{IsReadFor, AreReadFor, IsAttempt, IsContradiction}
use Rattle.shop_browse.specs.Footprints.{InFootprint}
use Rattle.shop_engine.specs.declared.tries.Job.{Job}
use Rattle.shop_engine.specs.declared.tries.Tried.{Tried}
use Rattle.shop_engine.specs.Tries.{IsAgain, IsTried, HasAsked, StaysWithin, TriedAs, Trying, asking_for}
use Rattle.shop_engine.proofs.Footprints.{footprint_later}
use Rattle.shop_engine.proofs.Payments.{asks_nothing, asks_once, has_asked}
use Rattle.shop_engine.proofs.Seats.{stays_looked, stays_refused, within_of}
use Rattle.shop_engine.proofs.SettleLemmas.{agrees_found}

-- memory

pub not_taken : (start old new : Seat) (moment : ℕ) → Looked start old → Follows old new → RoseOnce old.settles new.settles → Refused old new → StaysWithin start new [] 1 moment
not_taken start old new moment looked follows rose refused =
    within_of start new [] 1 1 moment (stays_refused start old new moment looked follows rose refused) (omega arith)

pub no_room : (start old : Seat) (moment : ℕ) → Looked start old → StaysWithin start old [] 1 moment
no_room start old moment looked = within_of start old [] 0 1 moment (stays_looked start old moment looked) (omega arith)

-- what is known of a stale read beside the conflict

record IsStaleOf (start new : Seat) (job : Job) (conflict : Conflict) : Type 0 where
  footprint : InFootprint new.opening new.seen job.request.now job.ask.draw conflict.key
  since : conflict.read ≤ length start.seen → version_of new.opening start.seen conflict.key ≡ conflict.read
  others : IsSome start.latest → ⊥

stale_of : (start old new : Seat) (job : Job) (read : ReadOf) → Looked start old → Follows old new → Found old new.seen → IsReadFor start old (asking_for job) read
    → version_of new.opening new.seen read.key ≢ read.version → IsStaleOf start new job (conflict_with new.opening new.seen read)
stale_of start old new job read looked follows found is apart =
    let since : read.version ≤ length start.seen → version_of new.opening start.seen read.key ≡ read.version
    = λ early. ap (λ (t : Tables). version_of t start.seen read.key) follows.opening ∙ is.since.since early in
    record {
      footprint = footprint_later old new job.request.now job.ask.draw read.key follows is.footprint;
      since = since;
      others = λ told.
          let same : old.seen ≡ start.seen = looked.alone told in
          let now : new.seen ≡ start.seen = found.alone (subst IsSome (sym looked.latest) told) ∙ same in
          apart (ap (λ (log : List Entry). version_of new.opening log read.key) now ∙ since (omega (arith, is.since.holds.within, ap length same)));
    }

stale_in : (start old new : Seat) (job : Job) (reads : List ReadOf) (conflict : Conflict) → Looked start old → Follows old new → Found old new.seen
    → AreReadFor start old (asking_for job) reads → first_stale new.opening new.seen reads ≡ Some conflict → IsStaleOf start new job conflict
stale_in start old new job [] conflict looked follows found are is = absurd cc
stale_in start old new job (read ∷ reads) conflict looked follows found are is =
    first_stale_some new.opening new.seen (IsStaleOf start new job) read reads conflict (stale_of start old new job read looked follows found are.0)
    (stale_in start old new job reads conflict looked follows found are.1) is

are_since : (start old : Seat) (job : Job) (reads : List ReadOf) → AreReadFor start old (asking_for job) reads → AreReadSince start old reads
are_since start old job [] are = tt
are_since start old job (read ∷ reads) are = (are.0.since, are_since start old job reads are.1)

pub again_is : (start old new : Seat) (job : Job) (attempt : Attempt) (conflict : Conflict) → Looked start old → Follows old new → RoseOnce old.settles new.settles
    → IsAttempt start old (asking_for job) attempt → SettledAs old new attempt (settle.Stale conflict) → IsAgain start new job conflict
again_is start old new job attempt conflict looked follows rose made settled =
    let both = conflict_of start old new attempt conflict looked follows (are_since start old job attempt.reads made.reads) settled in
    let stale = stale_in start old new job attempt.reads conflict looked follows settled.0.found made.reads settled.1 in
    record {
      stays = stays_refused start old new job.ask.moment looked follows rose settled.0;
      met = record { conflicts = both.0; footprint = stale.footprint; above = both.1 };
      since = stale.since;
      others = stale.others;
    }

-- an attempt that no tables agree with is stale

never_fresh : (start old new : Seat) (job : Job) (attempt : Attempt) → Follows old new → IsSeat new → IsContradiction start old (asking_for job) attempt → Extends old.seen new.seen
    → first_stale new.opening new.seen attempt.reads ≡ None → ⊥
never_fresh start old new job attempt follows seat contradicts grows fresh =
    contradicts.never (tables new.opening new.seen) (agrees_found old new new.seen attempt follows seat grows (extends_self new.seen) contradicts.attempts.faithful fresh)

not_some : (act : Option Act) → act ≡ None → IsSome act → ⊥
not_some act none is = let no : IsSome {T = Act} None = subst IsSome none is in cc

pub never_else : (start old new : Seat) (job : Job) (attempt : Attempt) (result : Settle) → Follows old new → IsSeat new → IsContradiction start old (asking_for job) attempt
    → SettledAs old new attempt result → ((conflict : Conflict) → result ≡ settle.Stale conflict → ⊥) → ⊥
never_else start old new job attempt (settle.Done drawn) follows seat contradicts settled other =
    let was : Confirmed old new attempt drawn = subst (λ o. DoneAs old new attempt o drawn) contradicts.reading settled in
    never_fresh start old new job attempt follows seat contradicts was.accepted.is_found.grows was.accepted.fresh
never_else start old new job attempt (settle.Stale conflict) follows seat contradicts settled other = other conflict refl
never_else start old new job attempt (settle.Full size) follows seat contradicts settled other = not_some attempt.act contradicts.reading settled.0.changes
never_else start old new job attempt settle.Memory follows seat contradicts settled other = not_some attempt.act contradicts.reading settled.0.changes

-- what the gateway was asked in one try

pub unasked : (old new : Trying) (job : Job) (bytes : List ℕ) (tried : Tried) → new.kept ≡ old.kept → new.told ≡ old.told
    → ((before : List Answer) → HasAsked job before old.kept → TriedAs old.seat new.seat job before bytes tried) → IsTried old new job bytes tried
unasked old new job bytes tried kept told is = record {
  answers = [];
  few = omega arith;
  asks = asks_nothing old new job kept told;
  is = λ before has. subst (λ (l : List Answer). TriedAs old.seat new.seat job l bytes tried) (sym (append-nil before)) (is before has);
}

pub asked_once : (old new : Trying) (job : Job) (bytes : List ℕ) (tried : Tried) (asked : PurchaseAsked) → job.request.now ≡ BuyConfirm asked
    → AsksOnce asked job.call old.kept new.kept old.told new.told
    → ((all : List Answer) → HasAsked job all new.kept → TriedAs old.seat new.seat job all bytes tried) → IsTried old new job bytes tried
asked_once old new job bytes tried asked buys once is =
    let asks = asks_once old new job asked buys once in
    record {
      answers = once.answers;
      few = once.few;
      asks = asks;
      is = λ before has. is (before ++ once.answers) (has_asked job before once.answers old new has asks);
    }
