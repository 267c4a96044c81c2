-- Over a shop that one caller has, each turn of a browser is settled at once, and the log is what the changes made.
use Rattle.std.proofs.Common.{◌≡◌, ℕ, ◌≤◌, List, [], ◌∷◌, ◌++◌, map, Option, Some, Result, Ok, Err, OnErr, ◌⊎◌, inl, inr, arith, refl, sym, subst, ◌∙◌, ap}
use Rattle.std.specs.Prelude.{All, IsErr, MatchResult, flat_map}
use Rattle.std.proofs.lemmas.List.{map-append}
use Rattle.std.proofs.lemmas.List.Elements.{All-cons, All-nil}
use Rattle.std.proofs.lemmas.Bool.{false≢true}
use Rattle.shop_text.specs.declared.memory.Memory.{Memory}
use Rattle.shop_edges.specs.Gateways.{Answered}
use Rattle.shop_edges.specs.declared.gateway.Answer.{Answer}
use Rattle.shop_gateway.specs.Notes.{firsts}
use Rattle.shop_model.specs.declared.tables.Tables.{Tables}
use Rattle.shop_model.specs.population.Population.{populated}
use Rattle.shop_history.specs.Lawful.{IsLawful}
use Rattle.shop_history.specs.declared.acts.Entry.{Entry}
use Rattle.shop_book.specs.Books.{BookValue}
use Rattle.shop_book.specs.Solos.{SoloValue, seat_of}
use Rattle.shop_browsers.specs.Browsers.{BrowserState}
use Rattle.shop_http.specs.Requests.{asked}
use Rattle.shop_drive.specs.declared.tally.Tally.{Tally}
use Rattle.shop_drive.specs.Drives.{AreFresh, Drives, Drove, StoppedAmid, points_of}
use Rattle.shop_drive.specs.Turns.{Stage, Turn, AreTurns}
use Rattle.shop_words.specs.declared.command.Drive.{Drive}
use Rattle.shop_engine.specs.Workers.{WorkerState, standing}
use Rattle.shop_engine.proofs.cited.Fresh.{all_fresh}
use Rattle.shop_app.specs.declared.driven.Driven.{Driven}
use Rattle.shop_app.specs.Outside.{Outside}
use Rattle.shop_app.specs.Driving.{DroveTo, Unfinished, first_browsers, first_stage}
use Rattle.shop_app.specs.Noted.{NotedAs, TellsOf}
use Rattle.shop_app.specs.Session.{IsFirst, first_seat, first_standing, moment_as, moments_of}
use Rattle.shop_app.specs.Summaries.{drive_lines}
use Rattle.shop_app.proofs.cited.Alone.{IsAlone, IsQuick, alone_next, none_later, quick, stamps_of}
use Rattle.shop_app.proofs.SessionLemmas.{standing_first}

pub turns_once : (from to : Stage) (turns : List Turn) → AreTurns from turns to → IsAlone 0 from.worker → All IsQuick (map (λ t. t.step.point) turns)
turns_once from to [] are alone = All-nil IsQuick
turns_once from to (turn ∷ turns) (next, is, are) alone =
    All-cons IsQuick turn.step.point (map (λ (t : Turn). t.step.point) turns) (quick 0 _ from.worker next.worker turn.step (asked turn.step.message) is.asks.answered alone)
    (turns_once next to turns are (alone_next 0 _ from.worker next.worker turn.step (asked turn.step.message) is.asks.answered alone))

pub turns_stamped : (from to : Stage) (turns : List Turn) → AreTurns from turns to → IsAlone 0 from.worker
    → map (λ e. e.stamp) (flat_map (λ t. t.step.made) turns) ≡ moments_of (map (λ t. t.step.point) turns)
turns_stamped from to [] are alone = refl
turns_stamped from to (turn ∷ turns) (next, is, are) alone =
    map-append (λ (e : Entry). e.stamp) turn.step.made (flat_map (λ (t : Turn). t.step.made) turns)
    ∙ ap (λ (l : List ℕ). l ++ map (λ (e : Entry). e.stamp) (flat_map (λ (t : Turn). t.step.made) turns)) (stamps_of 0 _ from.worker next.worker turn.step (asked turn.step.message) is.asks.answered alone ∙ none_later _)
    ∙ ap (λ (l : List ℕ). moment_as turn.step.point.moment turn.step.point.kind ++ l)
    (turns_stamped next to turns are (alone_next 0 _ from.worker next.worker turn.step (asked turn.step.message) is.asks.answered alone))

-- what holds anyway holds where memory ran out
pub on_err : {A : Type 0} (P : Type 0) (result : Result A Memory) → P → OnErr result P
on_err P (Ok value) holds = tt
on_err P (Err memory) holds = holds

-- a drive whose answers were noted
pub noted_by : (marked : ℕ → ℕ → Type 0) (all : List Answer) (from to : Stage) (steps : ℕ) (tally : Result Tally Memory) (answers : List Answer) (result : Result Driven Memory) → Drives marked from to steps tally
    → MatchResult result (λ driven. (tally ≡ Ok driven.tally) × (driven.answers ≡ answers)) (λ _. IsErr tally) → answers ≡ firsts all → NotedAs marked all from to steps result
noted_by marked all from to steps tally answers (Ok driven) drives (is, same) first =
    let drove : (drove : Drove from to steps driven.tally) × AreFresh marked to drove.turns = subst (Drives marked from to steps) is drives in
    (drove.0, drove.1, same ∙ first)
noted_by marked all from to steps (Ok tally) answers (Err memory) drives failed first = absurd (false≢true failed)
noted_by marked all from to steps (Err gone) answers (Err memory) drives failed first = drives

-- where the browsers of the words and the first worker stand
pub first_is : (drive : Drive) (worker : WorkerState SoloValue) (browsers : List BrowserState) (clock : Option (List ℕ)) (failures : ℕ) → IsFirst drive.shop worker → browsers ≡ first_browsers drive
    → ◌≡◌ {A = Stage} (record { worker = standing seat_of worker clock (Some []); browsers = browsers; failures = failures }) (first_stage drive clock failures)
first_is drive worker browsers clock failures first are =
    ap (λ w. record { worker = w; browsers = browsers; failures = failures }) (standing_first drive.shop worker clock (Some []) first)
    ∙ ap (λ b. record { worker = first_standing drive.shop clock (Some []); browsers = b; failures = failures }) are

-- browsers that were driven over the shop of the words
module _ (drive : Drive) (from to : Stage) (old new : Outside) (all : List Answer) (is_first : from ≡ first_stage drive old.clock old.failures)
    (clock : to.worker.clock ≡ new.clock) (failed : to.failures ≡ new.failures) (kept : old.failures ≤ new.failures) where
  drove_to : (marked : ℕ → ℕ → Type 0) (tally : Tally) (answers : List Answer) (book : BookValue) (lines : List ℕ) → (given : Drove from to drive.steps tally) → AreFresh marked to given.turns → answers ≡ firsts all → to.worker.told ≡ Some all
      → Answered old.told new.told all → IsLawful to.worker.seat.opening to.worker.seat.seen → book.opening.tables ≡ to.worker.seat.opening → book.log ≡ to.worker.seat.seen
      → lines ≡ drive_lines tally answers book → DroveTo drive old new lines
  unfolding first_seat
  drove_to marked tally answers book lines given fresh first_of said told lawful opened entries printed =
      let both : (drove : Drove (first_stage drive old.clock old.failures) to drive.steps tally) × AreFresh marked to drove.turns
      = subst (λ (s : Stage). (drove : Drove s to drive.steps tally) × AreFresh marked to drove.turns) is_first (given, fresh) in
      let drove : Drove (first_stage drive old.clock old.failures) to drive.steps tally = both.0 in
      let at_first : Stage = first_stage drive old.clock old.failures in
      let alone : IsAlone 0 at_first.worker = record { stamp = 0; latest = refl; since = omega arith; within = omega arith } in
      let same : to.worker.seat.opening ≡ populated drive.shop.seed drive.shop.scale = drove.stays.follows.opening in
      let log : to.worker.seat.seen ≡ flat_map (λ (t : Turn). t.step.made) drove.turns = drove.stays.alone refl in
      let answered : all ≡ flat_map (λ (t : Turn). t.step.answers) drove.turns = injected (sym said ∙ drove.asked.told [] refl) in
      record {
        after = to;
        tally = tally;
        drove = drove;
        clock = clock;
        failed = failed;
        kept = kept;
        told = subst (Answered old.told new.told) answered told;
        alone = turns_once at_first to drove.turns drove.run alone;
        lawful = subst (λ (t : Tables). IsLawful t to.worker.seat.seen) same lawful;
        log = log;
        fresh = all_fresh marked to.worker.seat.seen (points_of drove.turns) both.1;
        stamps = ap (map (λ (e : Entry). e.stamp)) log ∙ turns_stamped at_first to drove.turns drove.run alone;
        book = book;
        opened = opened ∙ same;
        entries = entries;
        printed = printed ∙ ap (λ (a : List Answer). drive_lines tally a book) (first_of ∙ ap firsts answered);
      }
    where
      injected : {xs ys : List Answer} → ◌≡◌ {A = Option (List Answer)} (Some xs) (Some ys) → xs ≡ ys
      injected e = cc

  abbrev Went : Type 0
  Went = StoppedAmid (first_stage drive old.clock old.failures) to drive.steps ⊎ ((tally : Tally) × Drove (first_stage drive old.clock old.failures) to drive.steps tally)

  broken_off : Went → to.worker.told ≡ Some all → Answered old.told new.told all → Unfinished drive old new
  broken_off went noted told = inr (record {
    after = to;
    all = all;
    went = went;
    noted = noted;
    told = told;
    clock = clock;
    failed = failed;
    kept = kept;
  })

  pub drove_by : (marked : ℕ → ℕ → Type 0) (result : Result Driven Memory) (book : BookValue) (lines : List ℕ) → NotedAs marked all from to drive.steps result → TellsOf result book lines → to.worker.told ≡ Some all
      → Answered old.told new.told all → IsLawful to.worker.seat.opening to.worker.seat.seen → book.opening.tables ≡ to.worker.seat.opening → book.log ≡ to.worker.seat.seen → DroveTo drive old new lines
  drove_by marked result book lines noted (driven, is, printed) said told lawful opened entries =
      let all_of : (drove : Drove from to drive.steps driven.tally) × AreFresh marked to drove.turns × (driven.answers ≡ firsts all) = subst (NotedAs marked all from to drive.steps) is noted in
      drove_to marked driven.tally driven.answers book lines all_of.0 all_of.1 all_of.2 said told lawful opened entries printed

  pub unfinished : (marked : ℕ → ℕ → Type 0) (result : Result Driven Memory) → NotedAs marked all from to drive.steps result → to.worker.told ≡ Some all → Answered old.told new.told all → Unfinished drive old new
  unfinished marked (Ok driven) (drove, fresh, same) = broken_off (inr (driven.tally, rw is_first at drove))
  unfinished marked (Err memory) amid = broken_off (inl (rw is_first at amid))
