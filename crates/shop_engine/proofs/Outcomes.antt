-- The last try, and what came of all of them.
use Rattle.std.proofs.Common.{◌≡◌, ◌≤◌, ℕ, ◌+◌, ◌<◌, refl, List, [], ◌++◌, append_assoc, Option, Some, None, IsSome, sym, ◌∙◌, ap, subst, arith}
use Rattle.std.specs.Prelude.{IfSome}
use Rattle.std.proofs.lemmas.Option.{IfSome_then}
use Rattle.shop_model.specs.declared.refusal.Refusal.TheVariants.{RowsKeptChanging}
use Rattle.shop_model.specs.asked.Refusals.{page_of}
use Rattle.shop_edges.specs.declared.gateway.Answer.{Answer}
use Rattle.shop_edges.specs.declared.gateway.Reason.{Reason}
use Rattle.shop_edges.specs.declared.gateway.Verdict.TheVariants as verdict
use Rattle.shop_edges.specs.Charges.{ChargeValue}
use Rattle.shop_history.specs.declared.acts.Entry.{Entry}
use Rattle.shop_history.specs.Logs.{tables}
use Rattle.shop_cache.specs.declared.lines.ListLine.{ListLine}
use Rattle.shop_attempt.specs.declared.attempts.Conflict.{Conflict}
use Rattle.shop_attempt.specs.Seats.{Seat}
use Rattle.shop_pages.specs.Replies.{reply}
use Rattle.shop_engine.specs.declared.report.PointKind.{PointKind}
use Rattle.shop_engine.specs.declared.report.PointKind.TheVariants as kind
use Rattle.shop_engine.specs.declared.tries.Job.{Job}
use Rattle.shop_engine.specs.declared.tries.Outcome.{Outcome}
use Rattle.shop_engine.specs.declared.tries.Tried.{Tried}
use Rattle.shop_engine.specs.declared.tries.Tried.TheVariants.{Settled, Listed, Denied, Again, Failed, Memory}
use Rattle.shop_engine.specs.Decided.{Decision, CauseAs, call_of, tries_alone}
use Rattle.shop_engine.specs.Failures.{failures_as}
use Rattle.shop_engine.specs.Payments.{IsPaid}
use Rattle.shop_engine.specs.Seats.{Stays}
use Rattle.shop_engine.specs.Tries.{HasLines, IsAnswer, IsAgain, IsTried, IsOutcome, IsGivenUp, StaysWithin, Trying, point_of}
use Rattle.shop_engine.proofs.Conflicts.{MetSoFar, all_told, all_asked, few_more, tried_as}
use Rattle.shop_engine.proofs.Payments.{asked_for, keeps_same}
use Rattle.shop_engine.proofs.Seats.{stays_trans, within_trans, within_of, still_told, stamp_from}

-- nothing is kept for the next request
abbrev at_end : Trying → Trying
at_end now = record { seat = now.seat; kept = None; told = now.told }

-- memory ran out

module _ (start old new : Trying) (job : Job) (conflicts : List Conflict) (count : ℕ) (few : count < 8) (so_far : MetSoFar start old job conflicts count) (caller : start.seat.caller ≡ job.call.caller) (bytes : List ℕ) where
  given_up : (tried : Tried) → IsTried old new job bytes tried → StaysWithin old.seat new.seat [] 1 job.ask.moment → IsGivenUp start (at_end new) job
  given_up tried is more = record {
    answers = so_far.answers ++ is.answers;
    asks = asked_for new.seat job (so_far.answers ++ is.answers) new.kept (more.stays.follows.caller ∙ so_far.stays.follows.caller ∙ caller) (all_asked start old new job conflicts count so_far bytes tried is);
    few = omega (arith, few, few_more start old new job conflicts count so_far bytes tried is);
    told = all_told start old new job conflicts count so_far bytes tried is;
    stays = within_trans start.seat old.seat new.seat [] [] count 1 8 job.ask.moment so_far.stays more (omega (arith, few));
  }

  pub in_a_try : IsTried old new job bytes Memory → IsGivenUp start (at_end new) job
  in_a_try is = given_up Memory is (tried_as start old new job conflicts count so_far bytes Memory is)

  pub behind_conflict : (conflict : Conflict) → IsTried old new job bytes (Again conflict) → IsGivenUp start (at_end new) job
  behind_conflict conflict is =
      let again : IsAgain old.seat new.seat job conflict = tried_as start old new job conflicts count so_far bytes (Again conflict) is in
      given_up (Again conflict) is (within_of old.seat new.seat [] 1 1 job.ask.moment again.stays (omega arith))

  pub behind_denial : (reason : Reason) (front : ℕ) → IsTried old new job bytes (Denied reason front) → IsGivenUp start (at_end new) job
  behind_denial reason front is =
      let denied = tried_as start old new job conflicts count so_far bytes (Denied reason front) is in
      let stays : Stays old.seat new.seat [] 1 job.ask.moment
      = subst (λ (l : List Entry). Stays old.seat new.seat l 1 job.ask.moment) denied.2.decided.cause.1.0 denied.2.decided.stays in
      given_up (Denied reason front) is (within_of old.seat new.seat [] 1 1 job.ask.moment stays (omega arith))

-- behind all the tries
pub behind_all : (start now : Trying) (job : Job) (conflicts : List Conflict) (count : ℕ) → count ≤ 8 → start.seat.caller ≡ job.call.caller → MetSoFar start now job conflicts count → IsGivenUp start (at_end now) job
behind_all start now job conflicts count most caller so_far = record {
  answers = so_far.answers;
  asks = asked_for now.seat job so_far.answers now.kept (so_far.stays.follows.caller ∙ caller) so_far.asked;
  few = omega (arith, most, so_far.few);
  told = so_far.told;
  stays = within_of start.seat now.seat [] count 8 job.ask.moment so_far.stays most;
}

-- what decided the last try decided the request, whose point has so many tries

abbrev decision : Job → Outcome → List Entry → List Answer → Decision
decision job outcome made answers = record { point = point_of job outcome; made = made; answers = answers }

abbrev with_tries : Outcome → ℕ → Outcome
with_tries outcome count = record { kind = outcome.kind; front = outcome.front; tries = count; lines = outcome.lines }

cause_from : (start old new : Seat) (job : Job) (made : List Entry) (answers : List Answer) (outcome : Outcome) (count tries : ℕ) (of : PointKind) → outcome.tries ≡ tries_alone of
    → Stays start old [] count job.ask.moment → HasLines new job.request.now of outcome.lines → CauseAs old new job.request.now (decision job outcome made answers) of
    → CauseAs start new job.request.now (decision job (with_tries outcome tries) made answers) of
cause_from start old new job made answers outcome count tries kind.At one stays lines cause = cause
cause_from start old new job made answers outcome count tries kind.Change one stays lines cause = (
  record {
    between = stays.follows.grows.rest ++ cause.0.between;
    entry = cause.0.entry;
    made_is = cause.0.made_is;
    seen =
        cause.0.seen
        ∙ ap (λ (log : List Entry). log ++ (cause.0.between ++ made)) stays.follows.grows.is
        ∙ append_assoc start.seen stays.follows.grows.rest (cause.0.between ++ made)
        ∙ ap (λ (l : List Entry). start.seen ++ l) (sym (append_assoc stays.follows.grows.rest cause.0.between made));
    caller = cause.0.caller;
    does = cause.0.does;
    paid =
        subst (λ (log : List Entry). IsPaid (tables new.opening log) (call_of new (point_of job outcome)) answers cause.0.entry.act)
        (ap (λ (log : List Entry). log ++ cause.0.between) stays.follows.grows.is ∙ append_assoc start.seen stays.follows.grows.rest cause.0.between) cause.0.paid;
    later = cause.0.later;
    exact = stamp_from start.latest old.latest job.ask.moment cause.0.entry.stamp stays.stamp cause.0.exact;
  },
  cause.1,
)
cause_from start old new job made answers outcome count tries kind.List one stays lines cause = absurd lines
cause_from start old new job made answers outcome count tries (kind.Busy conflicts) one stays lines cause = absurd (omega (arith, one, cause.0.tries))
cause_from start old new job made answers outcome count tries kind.Full one stays lines cause =
    let full = cause.0 in
    (record { limit = full.limit; changes = full.changes; passes = full.passes; paid = full.paid }, cause.1)
cause_from start old new job made answers outcome count tries (kind.Denied charge reason) one stays lines cause = cause
cause_from start old new job made answers outcome count tries kind.GatewayFailed one stays lines cause = (
  record {
    asked = cause.0.asked;
    buys = cause.0.buys;
    passes = λ told. cause.0.passes (still_told start.latest old.latest job.ask.moment stays.stamp told);
  },
  cause.1,
)
cause_from start old new job made answers outcome count tries kind.Plain one stays lines cause = absurd cause

answer_from : (start old new : Seat) (job : Job) (answers : List Answer) (bytes : List ℕ) (count all : ℕ) (outcome : Outcome) → count < 8 → outcome.tries ≡ tries_alone outcome.kind → all ≡ count + outcome.tries
    → Stays start old [] count job.ask.moment → (IsSome start.latest → count ≡ 0) → IsAnswer old new job answers bytes outcome
    → IsAnswer start new job answers bytes (with_tries outcome all)
answer_from start old new job answers bytes count all outcome few one all_is stays alone answer =
    let last = answer.decided in
    record {
      made = answer.made;
      page = answer.page;
      decided = record {
        stays =
            subst (λ n. Stays start new answer.made n job.ask.moment) (sym all_is)
            (stays_trans start old new [] answer.made count outcome.tries job.ask.moment stays last.stays);
        some = omega (arith, one, all_is);
        few = omega (arith, one, all_is, few);
        alone = λ told. omega (arith, one, all_is, alone told);
        asks = last.asks;
        cause = cause_from start old new job answer.made answers outcome count all outcome.kind one stays answer.lines last.cause;
        shows = last.shows;
      };
      lines = answer.lines;
      bytes_are = answer.bytes_are;
    }

-- a settle is no failure
no_failure : (of : PointKind) → tries_alone of ≡ 1 → failures_as of ≡ 0
no_failure kind.GatewayFailed is = absurd (omega (arith, is))
no_failure kind.List is = absurd (omega (arith, is))
no_failure _ is = refl

module _ (start old new : Trying) (job : Job) (conflicts : List Conflict) (count : ℕ) (few : count < 8) (so_far : MetSoFar start old job conflicts count) (bytes : List ℕ) where
  pub settled_is : (of : PointKind) (front : ℕ) → IsTried old new job bytes (Settled of front) → IsOutcome start (at_end new) job bytes (record { kind = of; front = front; tries = count + 1; lines = None })
  settled_is of front is =
      let was = tried_as start old new job conflicts count so_far bytes (Settled of front) is in
      record {
        answers = so_far.answers ++ is.answers;
        told = all_told start old new job conflicts count so_far bytes (Settled of front) is;
        is = answer_from start.seat old.seat new.seat job (so_far.answers ++ is.answers) bytes count (count + 1) (record { kind = of; front = front; tries = 1; lines = None }) few (sym was.0) refl so_far.stays so_far.alone was.1;
      }

  pub listed_is : (lines : List ListLine) (front : ℕ) → IsTried old new job bytes (Listed lines front) → IsOutcome start (at_end new) job bytes (record { kind = kind.At; front = front; tries = count + 1; lines = Some lines })
  listed_is lines front is = record {
    answers = so_far.answers ++ is.answers;
    told = all_told start old new job conflicts count so_far bytes (Listed lines front) is;
    is =
        answer_from start.seat old.seat new.seat job (so_far.answers ++ is.answers) bytes count (count + 1) (record { kind = kind.At; front = front; tries = 1; lines = Some lines }) few refl refl so_far.stays so_far.alone
        (tried_as start old new job conflicts count so_far bytes (Listed lines front) is);
  }

  pub settled_counts : (of : PointKind) (front : ℕ) → IsTried old new job bytes (Settled of front) → failures_as of ≡ 0
  settled_counts of front is = no_failure of (tried_as start old new job conflicts count so_far bytes (Settled of front) is).0

  -- the answer that is kept is the denial
  pub denial_kept : (reason : Reason) (front : ℕ) → (is : IsTried old new job bytes (Denied reason front))
      → (charge : ChargeValue) × (new.kept ≡ Some (record { charge = charge; verdict = verdict.Denied reason }))
      × IsOutcome start (at_end new) job bytes (record { kind = kind.Denied charge reason; front = front; tries = count + 1; lines = None })
  denial_kept reason front is =
      let was = tried_as start old new job conflicts count so_far bytes (Denied reason front) is in
      let asked = all_asked start old new job conflicts count so_far bytes (Denied reason front) is in (
        was.0,
        keeps_same None new.kept (Some (record { charge = was.0; verdict = verdict.Denied reason })) (so_far.answers ++ is.answers) asked.keeps was.1,
        record {
          answers = so_far.answers ++ is.answers;
          told = all_told start old new job conflicts count so_far bytes (Denied reason front) is;
          is = answer_from start.seat old.seat new.seat job (so_far.answers ++ is.answers) bytes count (count + 1) (record { kind = kind.Denied was.0 reason; front = front; tries = 1; lines = None }) few refl refl so_far.stays so_far.alone was.2;
        },
      )

  pub failed_is : IsTried old new job bytes Failed → IsOutcome start (at_end new) job bytes (record { kind = kind.GatewayFailed; front = 0; tries = count; lines = None })
  failed_is is =
      let was = tried_as start old new job conflicts count so_far bytes Failed is in
      record {
        answers = so_far.answers ++ is.answers;
        told = all_told start old new job conflicts count so_far bytes Failed is;
        is = answer_from start.seat old.seat new.seat job (so_far.answers ++ is.answers) bytes count count (record { kind = kind.GatewayFailed; front = 0; tries = 0; lines = None }) few refl (omega arith) so_far.stays so_far.alone was;
      }

-- what a denial decides, where its answer is kept
pub denial_decides : (kept : Option Answer) (reason : Reason) (front tries : ℕ) (charge : ChargeValue) (result : Option Outcome)
    → IfSome result (λ outcome. (answer : Answer) → kept ≡ Some answer → outcome ≡ record { kind = kind.Denied answer.charge reason; front = front; tries = tries; lines = None })
    → kept ≡ Some (record { charge = charge; verdict = verdict.Denied reason })
    → (P : Outcome → Type 0) → P (record { kind = kind.Denied charge reason; front = front; tries = tries; lines = None }) → IfSome result P
denial_decides kept reason front tries charge result decides kept_is P there =
    IfSome_then result decides (λ outcome is. subst P (sym (is (record { charge = charge; verdict = verdict.Denied reason }) kept_is)) there)

-- all the tries met conflicts
pub busy_is : (start now : Trying) (job : Job) (bytes : List ℕ) (conflicts : List Conflict) (count : ℕ) → count ≡ 8 → now.seat.caller ≡ job.call.caller → MetSoFar start now job conflicts count
    → bytes ≡ reply (page_of RowsKeptChanging) job.form → IsOutcome start (at_end now) job bytes (record { kind = kind.Busy conflicts; front = 0; tries = 8; lines = None })
busy_is start now job bytes conflicts count all caller so_far bytes_are = record {
  answers = so_far.answers;
  told = so_far.told;
  is = record {
    made = [];
    page = page_of RowsKeptChanging;
    decided = record {
      stays = subst (λ n. Stays start.seat now.seat [] n job.ask.moment) all so_far.stays;
      some = omega arith;
      few = omega arith;
      alone = λ told. absurd (omega (arith, all, so_far.alone told));
      asks = asked_for now.seat job so_far.answers now.kept caller so_far.asked;
      cause = (record { tries = refl; eight = so_far.count ∙ all; met = so_far.met; rise = so_far.rise; again = so_far.again }, (refl, refl));
      shows = refl;
    };
    lines = tt;
    bytes_are = bytes_are;
  };
}
