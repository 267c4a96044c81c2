-- Connections that one station serves, one after another.
use Rattle.std.proofs.Common.{◌≡◌, ℕ, ◌+◌, ◌*◌, ◌≤◌, List, [], ◌∷◌, ◌++◌, length, Option, Some, None, IfSome, IsSome, refl, sym, ap, ◌∙◌, subst, arith}
use Rattle.std.specs.Prelude.{flat_map}
use Rattle.std.specs.List.{All, AllZip}
use Rattle.std.proofs.lemmas.Bool.{false≢true}
use Rattle.std.proofs.lemmas.List.Elements.{All-cons, All-nil, All-weaker}
use Rattle.shop_log.specs.Histories.{Extends}
use Rattle.shop_attempt.specs.Marks.{KeepsMarks}
use Rattle.shop_attempt.specs.Seats.{last_count}
use Rattle.shop_attempt.proofs.cited.Marks.{keeps_self, keeps_then}
use Rattle.shop_edges.specs.Gateways.{Answered}
use Rattle.shop_edges.specs.declared.gateway.Answer.{Answer}
use Rattle.shop_edges.proofs.cited.Answering.{answered_more, answered_nothing}
use Rattle.shop_gateway.specs.Verdicts.{AreVerdicts, verdict}
use Rattle.shop_gateway.proofs.cited.Verdicts.{all_first}
use Rattle.shop_turn.specs.Desks.{marks_of}
use Rattle.shop_engine.specs.Failures.{RoseBy, failures}
use Rattle.shop_engine.specs.Lists.{IsFreshPoint}
use Rattle.shop_engine.specs.Seats.{Stays}
use Rattle.shop_engine.proofs.KeptLemmas.{points_fresh}
use Rattle.shop_engine.proofs.Seats.{stays_later, stays_same, stays_trans}
use Rattle.shop_places.specs.Visits.{Chain, IsService}
use Rattle.shop_tasks.specs.declared.till.Till.{Till}
use Rattle.shop_tasks.specs.declared.till.Till.TheVariants.{Own, Dialled}
use Rattle.shop_tasks.specs.InTurn.{Account, Connection, IsAccount, ServedInTurn, answers_in, made_in}
use Rattle.shop_tasks.specs.Serves.{Meanings, Serves, failed, stands, streams}
use Rattle.shop_tasks.specs.StationValues.{StationValue}
use Rattle.shop_tasks.specs.Tills.{answers_of, faults_of}
use Rattle.shop_tasks.proofs.Calls.{Calls, calls_then, no_calls}
use Rattle.shop_tasks.proofs.Connections.{account_of, served_calls, served_last, served_stays, served_told}

-- a gateway that tells its answers goes on to, and never fails

still_told : (old new : Option (List Answer)) (more : List Answer) → Answered old new more → IsSome old → IsSome new
still_told None new more told is = absurd (false≢true is)
still_told (Some was) new more told is = subst IsSome (sym (told.told was refl)) refl

never_fails : {I O : Type 0} (reads : I → ℕ) (writes : O → ℕ) (till : Till I O) → IsSome (answers_of till) → faults_of reads writes till ≡ 0
never_fails reads writes (Own emulator) is = refl
never_fails reads writes (Dialled remote) is = absurd (false≢true is)

no_failure : (before now count : ℕ) → RoseBy before count now → before ≡ 0 → now ≡ 0 → count ≡ 0
no_failure before now count rose none still = omega (arith, rose, none, still)

module _ {C I O : Type 0} (by : Meanings C I O) where
  abbrev Station : Type 0
  Station = StationValue C I O

  abbrev Visits : Type 0
  Visits = List (Connection C I O)

  -- one connection
  module _ (v : Connection C I O) (serves : IsService (Serves by) v) where
    abbrev account : Account
    account = account_of (stands by v.before) (stands by v.after) (streams by v.source v.sink) (streams by v.source_left v.sink_left) v.report.end v.report.points serves.served

    told_one : Answered (answers_of v.before.till) (answers_of v.after.till) (answers_in account)
    told_one = served_told (stands by v.before) (stands by v.after) (streams by v.source v.sink) (streams by v.source_left v.sink_left) v.report.end v.report.points serves.served

    is_account : IsAccount by v account
    is_account = record { serves = serves; steps = refl; told = told_one }

    last_one : v.before.worker.progress.last ≤ v.after.worker.progress.last
    last_one = served_last (stands by v.before) (stands by v.after) (streams by v.source v.sink) (streams by v.source_left v.sink_left) v.report.end v.report.points serves.served

    stays_one : (all : ℕ) × Stays (stands by v.before).seat (stands by v.after).seat (made_in account) all v.after.worker.progress.last
    stays_one = served_stays (stands by v.before) (stands by v.after) (streams by v.source v.sink) (streams by v.source_left v.sink_left) v.report.end v.report.points serves.served

    calls_one : v.before.worker.progress.accepted + 1_001 ≤ last_count → Calls (stands by v.before) (stands by v.after) 1_001 (answers_in account)
    calls_one = served_calls (stands by v.before) (stands by v.after) (streams by v.source v.sink) (streams by v.source_left v.sink_left) v.report.end v.report.points serves.served

    unfailing_one : IsSome (answers_of v.before.till) → failures v.report.points ≡ 0
    unfailing_one is =
        no_failure (failed by v.before) (failed by v.after) (failures v.report.points) serves.failures
        (never_fails by.1.faults by.2.faults v.before.till is)
        (never_fails by.1.faults by.2.faults v.after.till (still_told (answers_of v.before.till) (answers_of v.after.till) (answers_in account) told_one is))

  -- all of them, in order

  abbrev accounts : (first : Station) (visits : Visits) (last : Station) → Chain (Serves by) first visits last → List Account
  accounts first [] last chain = []
  accounts first (v ∷ vs) last chain = account v chain.1 ∷ accounts v.after vs last chain.2

  each : (first : Station) (visits : Visits) (last : Station) (chain : Chain (Serves by) first visits last) → AllZip (IsAccount by) visits (accounts first visits last chain)
  each first [] last chain = tt
  each first (v ∷ vs) last chain = (is_account v chain.1, each v.after vs last chain.2)

  later : (first : Station) (visits : Visits) (last : Station) → Chain (Serves by) first visits last → first.worker.progress.last ≤ last.worker.progress.last
  later first [] last same = omega (arith, ap (λ (s : Station). s.worker.progress.last) same)
  later first (v ∷ vs) last chain = omega (arith, ap (λ (s : Station). s.worker.progress.last) chain.0, last_one v chain.1, later v.after vs last chain.2)

  stays : (first : Station) (visits : Visits) (last : Station) (chain : Chain (Serves by) first visits last)
      → (all : ℕ) × Stays (stands by first).seat (stands by last).seat (flat_map made_in (accounts first visits last chain)) all last.worker.progress.last
  stays first [] last same =
      (0, subst (λ (s : Station). Stays (stands by first).seat (stands by s).seat [] 0 s.worker.progress.last) (sym same) (stays_same (stands by first).seat first.worker.progress.last))
  stays first (v ∷ vs) last chain =
      let made = made_in (account v chain.1) in
      let others = flat_map made_in (accounts v.after vs last chain.2) in
      let one = stays_one v chain.1 in
      let more = stays v.after vs last chain.2 in (
        one.0 + more.0,
        subst (λ (s : Station). Stays (stands by s).seat (stands by last).seat (made ++ others) (one.0 + more.0) last.worker.progress.last) chain.0
            (stays_trans (stands by v.before).seat (stands by v.after).seat (stands by last).seat made others one.0 more.0 last.worker.progress.last
            (stays_later (stands by v.before).seat (stands by v.after).seat made one.0 v.after.worker.progress.last last.worker.progress.last one.1 (later v.after vs last chain.2)) more.1),
      )

  told : (first : Station) (visits : Visits) (last : Station) (chain : Chain (Serves by) first visits last)
      → Answered (answers_of first.till) (answers_of last.till) (flat_map answers_in (accounts first visits last chain))
  told first [] last same = subst (λ (s : Station). Answered (answers_of first.till) (answers_of s.till) []) (sym same) (answered_nothing (answers_of first.till))
  told first (v ∷ vs) last chain =
      let said = answers_in (account v chain.1) in
      let others = flat_map answers_in (accounts v.after vs last chain.2) in
      subst (λ (s : Station). Answered (answers_of s.till) (answers_of last.till) (said ++ others)) chain.0
      (answered_more (answers_of v.before.till) (answers_of v.after.till) (answers_of last.till) said others (told_one v chain.1) (told v.after vs last chain.2))

  same_caller : (v : Connection C I O) (first : Station) → v.before ≡ first → IsService (Serves by) v → v.after.worker.caller ≡ first.worker.caller
  same_caller v first begins serves = serves.caller ∙ ap (λ (s : Station). s.worker.caller) begins

  caller : (first : Station) (visits : Visits) (last : Station) → Chain (Serves by) first visits last → last.worker.caller ≡ first.worker.caller
  caller first [] last same = ap (λ (s : Station). s.worker.caller) same
  caller first (v ∷ vs) last chain = caller v.after vs last chain.2 ∙ same_caller v first chain.0 chain.1

  marks : (first : Station) (visits : Visits) (last : Station) → Chain (Serves by) first visits last
      → KeepsMarks (marks_of first.worker.store) (marks_of last.worker.store) (stands by first).seat (stands by last).seat
  marks first [] last same =
      subst (λ (s : Station). KeepsMarks (marks_of first.worker.store) (marks_of s.worker.store) (stands by first).seat (stands by s).seat) (sym same)
      (keeps_self (marks_of first.worker.store) (stands by first).seat)
  marks first (v ∷ vs) last chain =
      subst (λ (s : Station). KeepsMarks (marks_of s.worker.store) (marks_of last.worker.store) (stands by s).seat (stands by last).seat) chain.0
      (keeps_then (marks_of v.before.worker.store) (marks_of v.after.worker.store) (marks_of last.worker.store) (stands by v.before).seat (stands by v.after).seat (stands by last).seat
      chain.1.marks (marks v.after vs last chain.2))

  abbrev IsCaller : Station → Connection C I O → Type 0
  IsCaller first v = v.after.worker.caller ≡ first.worker.caller

  callers : (first : Station) (visits : Visits) (last : Station) → Chain (Serves by) first visits last → All (IsCaller first) visits
  callers first [] last same = All-nil (IsCaller first)
  callers first (v ∷ vs) last chain =
      let here : v.after.worker.caller ≡ first.worker.caller = same_caller v first chain.0 chain.1 in
      All-cons (IsCaller first) v vs here (All-weaker (IsCaller v.after) (IsCaller first) (λ w is. is ∙ here) vs (callers v.after vs last chain.2))

  abbrev IsSeen : Station → Connection C I O → Type 0
  IsSeen last v = Extends (stands by v.after).seat.seen (stands by last).seat.seen

  seen : (first : Station) (visits : Visits) (last : Station) → Chain (Serves by) first visits last → All (IsSeen last) visits
  seen first [] last same = All-nil (IsSeen last)
  seen first (v ∷ vs) last chain = All-cons (IsSeen last) v vs (stays v.after vs last chain.2).1.follows.grows (seen v.after vs last chain.2)

  abbrev AreFresh : Station → Connection C I O → Type 0
  AreFresh last v = All (IsFreshPoint (marks_of last.worker.store) (stands by last).seat.seen) v.report.points

  fresh : (first : Station) (visits : Visits) (last : Station) → Chain (Serves by) first visits last → All (AreFresh last) visits
  fresh first [] last same = All-nil (AreFresh last)
  fresh first (v ∷ vs) last chain =
      All-cons (AreFresh last) v vs
      (points_fresh (stands by v.after).seat (stands by last).seat (marks_of v.after.worker.store) (marks_of last.worker.store) v.report.points (marks v.after vs last chain.2) chain.1.fresh)
      (fresh v.after vs last chain.2)

  abbrev IsUnfailing : Connection C I O → Type 0
  IsUnfailing v = failures v.report.points ≡ 0

  unfailing : (first : Station) (visits : Visits) (last : Station) → Chain (Serves by) first visits last → IsSome (answers_of first.till) → All IsUnfailing visits
  unfailing first [] last same is = All-nil IsUnfailing
  unfailing first (v ∷ vs) last chain is =
      let before : IsSome (answers_of v.before.till) = subst (λ (s : Station). IsSome (answers_of s.till)) (sym chain.0) is in
      All-cons IsUnfailing v vs (unfailing_one v chain.1 before)
      (unfailing v.after vs last chain.2
      (still_told (answers_of v.before.till) (answers_of v.after.till) (answers_in (account v chain.1)) (told_one v chain.1) before))

  -- each answer is the verdict of an empty ledger

  abbrev AreOwn : Option (List Answer) → Type 0
  AreOwn answers = IfSome answers (AreVerdicts [])

  own : (first : Station) (visits : Visits) (last : Station) → Chain (Serves by) first visits last → AreOwn (answers_of first.till) → AreOwn (answers_of last.till)
  own first [] last same are = subst (λ (s : Station). AreOwn (answers_of s.till)) (sym same) are
  own first (v ∷ vs) last chain are = own v.after vs last chain.2 chain.1.verdicts

  calls : (first : Station) (visits : Visits) (last : Station) (chain : Chain (Serves by) first visits last) → first.worker.progress.accepted + 1_001 * length visits ≤ last_count
      → Calls (stands by first) (stands by last) (1_001 * length visits) (flat_map answers_in (accounts first visits last chain))
  calls first [] last same fits = no_calls (stands by first) (stands by last) _ [] (ap (stands by) same) refl
  calls first (v ∷ vs) last chain fits =
      let begins : v.before.worker.progress.accepted ≡ first.worker.progress.accepted = ap (λ (s : Station). s.worker.progress.accepted) chain.0 in
      let one = calls_one v chain.1 (omega (arith, fits, begins)) in
      let more = calls v.after vs last chain.2 (omega (arith, fits, begins, one.few)) in
      subst (λ (s : Station). Calls (stands by s) (stands by last) (1_001 * length (v ∷ vs)) (flat_map answers_in (accounts first (v ∷ vs) last chain))) chain.0
      (calls_then (stands by v.before) (stands by v.after) (stands by last) 1_001 (1_001 * length vs) (1_001 * length (v ∷ vs))
      (answers_in (account v chain.1)) (flat_map answers_in (accounts v.after vs last chain.2)) one more (omega arith))

  verdicts : (first : Station) (visits : Visits) (last : Station) (chain : Chain (Serves by) first visits last) → answers_of first.till ≡ Some []
      → first.worker.progress.accepted + 1_001 * length visits ≤ last_count → All (λ a. a.verdict ≡ verdict [] a.charge) (flat_map answers_in (accounts first visits last chain))
  verdicts first visits last chain none fits =
      let answers = flat_map answers_in (accounts first visits last chain) in
      let are : answers_of last.till ≡ Some answers = (told first visits last chain).told [] none in
      let first_own : AreOwn (answers_of first.till) = subst AreOwn (sym none) tt in
      let last_own : AreVerdicts [] answers = subst AreOwn are (own first visits last chain first_own) in
      let apart = (calls first visits last chain fits).of in
      all_first answers last_own (λ a b has has' keys. apart.same a b has has' (ap (λ (k : ℕ × ℕ × ℕ). k.1) keys) (ap (λ (k : ℕ × ℕ × ℕ). k.2) keys))

  pub in_turn : (first : Station) (visits : Visits) (last : Station) → Chain (Serves by) first visits last → ServedInTurn by first visits last
  in_turn first visits last chain = record {
    chain = chain;
    accounts = accounts first visits last chain;
    each = each first visits last chain;
    settles = (stays first visits last chain).0;
    stays = (stays first visits last chain).1;
    told = told first visits last chain;
    caller = caller first visits last chain;
    later = later first visits last chain;
    marks = marks first visits last chain;
    callers = callers first visits last chain;
    seen = seen first visits last chain;
    fresh = fresh first visits last chain;
    unfailing = unfailing first visits last chain;
    verdicts = verdicts first visits last chain;
  }
