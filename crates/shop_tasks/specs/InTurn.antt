-- The connections that one station serves, one after another.
use Rattle.std.specs.Prelude.{◌≡◌, ℕ, ◌+◌, ◌*◌, ◌≤◌, List, [], ◌++◌, length, flat_map, All, Some, IsSome}
use Rattle.std.specs.List.{AllZip}
use Rattle.shop_log.specs.Histories.{Extends}
use Rattle.shop_edges.specs.Gateways.{Answered}
use Rattle.shop_edges.specs.declared.gateway.Answer.{Answer}
use Rattle.shop_gateway.specs.Verdicts.{verdict}
use Rattle.shop_history.specs.declared.acts.Entry.{Entry}
use Rattle.shop_attempt.specs.Marks.{KeepsMarks}
use Rattle.shop_attempt.specs.Seats.{last_count}
use Rattle.shop_turn.specs.Desks.{marks_of}
use Rattle.shop_engine.specs.declared.report.Report.{Report}
use Rattle.shop_engine.specs.Failures.{failures}
use Rattle.shop_engine.specs.Lists.{IsFreshPoint}
use Rattle.shop_engine.specs.Seats.{Stays}
use Rattle.shop_engine.specs.Steps.{Step}
use Rattle.shop_places.specs.Visits.{Chain, IsService, Visit}
use Rattle.shop_tasks.specs.Serves.{Meanings, Serves, stands}
use Rattle.shop_tasks.specs.StationValues.{StationValue}
use Rattle.shop_tasks.specs.Tills.{answers_of}

-- how a connection went: the steps that answered its messages, and what the gateway said for a message that was not
-- answered, where memory ran out
pub record Account : Type 0 where
  pub steps : List Step
  pub unanswered : List Answer

-- the entries that it made
abbrev pub made_in : Account → List Entry
made_in account = flat_map (λ s. s.made) account.steps

-- what the gateway said in it
abbrev pub answers_in : Account → List Answer
answers_in account = flat_map (λ s. s.answers) account.steps ++ account.unanswered

-- the most requests that a connection accepts: those that are answered, and one for which memory runs out
abbrev pub most_calls : ℕ
most_calls = 1_001

-- a link that a station served
abbrev pub Connection : Type 0 → Type 0 → Type 0 → Type 0
Connection C I O = Visit (StationValue C I O) I O Report

module _ {C I O : Type 0} (by : Meanings C I O) where
  -- the connection was served so
  pub record IsAccount (v : Connection C I O) (account : Account) : Type 0 where
    pub serves : IsService (Serves by) v
    pub steps : serves.served.steps ≡ account.steps
    pub told : Answered (answers_of v.before.till) (answers_of v.after.till) (answers_in account)

  -- connections were served one after another, from the first station to the last. The entries of the caller that were
  -- made meanwhile are those of the accounts, in order, and what the gateway tells are theirs, in order
  pub record ServedInTurn (first : StationValue C I O) (visits : List (Connection C I O)) (last : StationValue C I O) : Type 0 where
    pub chain : Chain (Serves by) first visits last
    pub accounts : List Account
    pub each : AllZip IsAccount visits accounts
    pub settles : ℕ
    pub stays : Stays (stands by first).seat (stands by last).seat (flat_map made_in accounts) settles last.worker.progress.last
    pub told : Answered (answers_of first.till) (answers_of last.till) (flat_map answers_in accounts)
    pub caller : last.worker.caller ≡ first.worker.caller
    pub later : first.worker.progress.last ≤ last.worker.progress.last
    pub marks : KeepsMarks (marks_of first.worker.store) (marks_of last.worker.store) (stands by first).seat (stands by last).seat
    -- whatever a connection left, the last log begins with what it had seen, and its lists are fresh of the last marks
    pub callers : All (λ v. v.after.worker.caller ≡ first.worker.caller) visits
    pub seen : All (λ v. Extends (stands by v.after).seat.seen (stands by last).seat.seen) visits
    pub fresh : All (λ v. All (IsFreshPoint (marks_of last.worker.store) (stands by last).seat.seen) v.report.points) visits
    -- a gateway of its own never fails, and each of its answers is the verdict of an empty ledger, where the calls of the
    -- caller can be counted
    pub unfailing : IsSome (answers_of first.till) → All (λ v. failures v.report.points ≡ 0) visits
    pub verdicts : answers_of first.till ≡ Some [] → first.worker.progress.accepted + most_calls * length visits ≤ last_count
        → All (λ a. a.verdict ≡ verdict [] a.charge) (flat_map answers_in accounts)
