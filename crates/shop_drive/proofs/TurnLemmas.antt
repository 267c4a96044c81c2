-- How turns come together, one after another.
use Rattle.std.proofs.Common.{◌≡◌, ℕ, zero, suc, ◌+◌, ◌-◌, ◌≤◌, ◌<◌, Bool, true, false, not, cond, List, [], ◌∷◌, ◌++◌, length, replicate, Some, Result, Ok, Err, codes, inl, inr, ⊎_elim, length-append, append_assoc, append-nil, refl, sym, ap, ◌∙◌, arith, subst, slice_set, slice_get, get_or}
use Rattle.std.specs.List.{concat, range_with_len}
use Rattle.std.specs.Prelude.{IsErr, flat_map, sum_by, count_by}
use Rattle.std.specs.Str.{bytes_eq}
use Rattle.std.proofs.lemmas.List.{map-append, length-set, replicate_more, replicate-append-replicate}
use Rattle.std.proofs.lemmas.List.Elements.{All-nil}
use Rattle.std.proofs.lemmas.List.Folds.{concat-append}
use Rattle.std.proofs.lemmas.List.Sums.{sum_by-append, sum_by-cons}
use Rattle.std.proofs.lemmas.Bool.{false≢true}
use Rattle.shop_text.specs.declared.memory.Memory.{Memory}
use Rattle.shop_attempt.specs.Marks.{KeepsMarks}
use Rattle.shop_attempt.specs.Seats.{Follows}
use Rattle.shop_attempt.proofs.cited.Looks.{follows_trans}
use Rattle.shop_edges.specs.Gateways.{Answered}
use Rattle.shop_edges.proofs.cited.Answering.{answered_nothing}
use Rattle.shop_message.specs.Messages.{AreMessages, Between}
use Rattle.shop_message.specs.declared.messages.Message.{Message}
use Rattle.shop_model.specs.declared.page.Page.{Page}
use Rattle.shop_model.specs.declared.requests.Request.{Request}
use Rattle.shop_model.specs.asked.Refusals.{page_of}
use Rattle.shop_http.specs.declared.requests.Refusal.{Refusal}
use Rattle.shop_http.specs.Requests.{asked, told_by}
use Rattle.shop_pages.specs.declared.reply.Form.{Form}
use Rattle.shop_pages.specs.Replies.{reply}
use Rattle.shop_browsers.specs.Browsers.{BrowserState, after_request}
use Rattle.shop_browsers.specs.Requests.{message_bytes}
use Rattle.shop_browsers.specs.Shown.{Shows, after_page}
use Rattle.shop_engine.specs.Seats.{Stays}
use Rattle.shop_engine.specs.Failures.{RoseBy, failures_as}
use Rattle.shop_engine.specs.Lists.{IsFreshPoint}
use Rattle.shop_engine.specs.Steps.{Answers, Step, IsStep, IsStepFor, GivesUp, form_of}
use Rattle.shop_engine.specs.declared.report.Point.{Point}
use Rattle.shop_engine.specs.Workers.{Standing}
use Rattle.shop_engine.proofs.KeptLemmas.{points_more}
use Rattle.shop_engine.proofs.Seats.{stays_same}
use Rattle.shop_engine.proofs.cited.Stepping.{step_last, stays_then, told_then}
use Rattle.shop_drive.specs.declared.tally.Tally.{Tally}
use Rattle.shop_drive.specs.Drives.{AreFresh, Drives, StoppedAmid, StopsAt, in_turn, places_of, points_of}
use Rattle.shop_drive.specs.Tallies.{counted, no_requests, tally_of}
use Rattle.shop_drive.specs.Turns.{Pair, Stage, Turn, Asks, GivesUpFor, IsTurn, AreTurns, TurnAs, is_page, pair_at}

-- the page of a reply

shown_for : (form : Form) (from to : Standing) (step : Step) (asks : Result Request Refusal) → IsStepFor form from step to asks → (page : Page) × (step.reply ≡ reply page form)
shown_for form from to step (Ok request) is = (is.page, is.reply)
shown_for form from to step (Err refusal) is = (page_of (told_by refusal), is.reply)

pub page_shown : (last : Bool) (from to : Standing) (step : Step) → IsStep last from step to → (page : Page) × (step.reply ≡ reply page (form_of step.message last))
page_shown last from to step is = shown_for (form_of step.message last) from to step (asked step.message) is

-- a browser asked, was answered, and took what the reply shows
pub turn_taken : (marked : ℕ → ℕ → Type 0) (from to : Pair) (mid : BrowserState) (message : Message) (point : Point) (bytes : List ℕ) → Answers false from.worker to.worker message point bytes
    → AreMessages (message_bytes from.browser) (message ∷ []) Between → message.method ≡ codes "GET" → mid ≡ after_request from.browser
    → RoseBy from.failures (failures_as point.kind) to.failures → ((p : Page) → Shows bytes p → to.browser ≡ after_page mid p) → IsFreshPoint marked to.worker.seat.seen point
    → (step : Step) × (page : Page) × Asks from to step page × (step.reply ≡ bytes) × IsFreshPoint marked to.worker.seat.seen step.point
turn_taken marked from to mid message point bytes (made, answers, is) asks get goes rose takes fresh =
    let step : Step = record { message = message; point = point; made = made; answers = answers; reply = bytes } in
    let shown = page_shown false from.worker to.worker step is in (
      step,
      shown.0,
      record {
        asked = asks;
        answered = is;
        failed = rose;
        shown = shown.1;
        taken = takes shown.0 (inr (form_of message false, ap (λ m. bytes_eq m (codes "HEAD")) get, shown.1)) ∙ ap (λ b. after_page b shown.0) goes;
      },
      refl,
      fresh,
    )

-- what turns leave together

last_grows : (from to : Stage) (turns : List Turn) → AreTurns from turns to → from.worker.progress.last ≤ to.worker.progress.last
last_grows from to [] same = omega (arith, ap (λ (s : Stage). s.worker.progress.last) same)
last_grows from to (turn ∷ turns) (next, is, are) = omega (arith, step_last _ from.worker turn.step next.worker is.asks.answered, last_grows next to turns are)

pub stays_of : (from to : Stage) (turns : List Turn) → AreTurns from turns to
    → Stays from.worker.seat to.worker.seat (flat_map (λ t. t.step.made) turns) (sum_by (λ t. t.step.point.tries) turns) to.worker.progress.last
stays_of from to [] same = subst (λ (s : Stage). Stays from.worker.seat s.worker.seat [] 0 s.worker.progress.last) (sym same) (stays_same from.worker.seat from.worker.progress.last)
stays_of from to (turn ∷ turns) (next, is, are) =
    rw (sum_by-cons (λ (t : Turn). t.step.point.tries) turn turns)
    (stays_then _ from.worker next.worker to.worker turn.step (flat_map (λ (t : Turn). t.step.made) turns) (sum_by (λ (t : Turn). t.step.point.tries) turns) is.asks.answered (last_grows next to turns are)
    (stays_of next to turns are))

pub told_of : (from to : Stage) (turns : List Turn) → AreTurns from turns to → Answered from.worker.told to.worker.told (flat_map (λ t. t.step.answers) turns)
told_of from to [] same = subst (λ (s : Stage). Answered from.worker.told s.worker.told []) (sym same) (answered_nothing from.worker.told)
told_of from to (turn ∷ turns) (next, is, are) =
    told_then _ from.worker next.worker to.worker turn.step (flat_map (λ (t : Turn). t.step.answers) turns) is.asks.answered (told_of next to turns are)

pub same_count : (from to : Stage) (turns : List Turn) → AreTurns from turns to → length to.browsers ≡ length from.browsers
same_count from to [] same = ap (λ (s : Stage). length s.browsers) same
same_count from to (turn ∷ turns) (next, is, are) = same_count next to turns are ∙ ap length is.others ∙ length-set from.browsers turn.place is.after

-- one turn more

turns_one : (from mid to : Stage) (turns : List Turn) (turn : Turn) → AreTurns from turns mid → IsTurn mid turn to → AreTurns from (turns ++ turn ∷ []) to
turns_one from mid to [] turn same is = (to, subst (λ (s : Stage). IsTurn s turn to) same is, refl)
turns_one from mid to (first ∷ turns) turn (next, begins, are) is = (next, begins, turns_one next mid to turns turn are is)

count_one : (p : Turn → Bool) (turns : List Turn) (turn : Turn) → count_by p (turns ++ turn ∷ []) ≡ count_by p turns + count_by p (turn ∷ [])
count_one p turns turn = sum_by-append (λ (t : Turn). cond (p t) 1 0) turns (turn ∷ [])

abbrev is_good : Turn → Bool
is_good turn = is_page turn.step.reply

abbrev is_bad : Turn → Bool
is_bad turn = not (is_page turn.step.reply)

same_tally : {a b c d e f : ℕ} → a ≡ d → b ≡ e → c ≡ f → ◌≡◌ {A = Tally} (record { requests = a; pages = b; refused = c }) (record { requests = d; pages = e; refused = f })
same_tally {a} {b} {c} {d} {e} {f} first second third =
    ap (λ n. record { requests = n; pages = b; refused = c }) first ∙ ap (λ n. record { requests = d; pages = n; refused = c }) second
    ∙ ap (λ n. record { requests = d; pages = e; refused = n }) third

tally_more : (turns : List Turn) (turn : Turn) (good : Bool) → good ≡ is_page turn.step.reply → counted (tally_of turns) good ≡ tally_of (turns ++ turn ∷ [])
tally_more turns turn true is =
    let page : count_by is_good (turn ∷ []) ≡ 1 = rw (sym is) refl in
    let other : count_by is_bad (turn ∷ []) ≡ 0 = rw (sym is) refl in
    same_tally (omega (arith, length-append turns (turn ∷ []))) (omega (arith, count_one is_good turns turn, page)) (omega (arith, count_one is_bad turns turn, other))
tally_more turns turn false is =
    let page : count_by is_good (turn ∷ []) ≡ 0 = rw (sym is) refl in
    let other : count_by is_bad (turn ∷ []) ≡ 1 = rw (sym is) refl in
    same_tally (omega (arith, length-append turns (turn ∷ []))) (omega (arith, count_one is_good turns turn, page)) (omega (arith, count_one is_bad turns turn, other))

-- the browser at a place
pub found_at : (browsers : List BrowserState) (place : ℕ) (other : BrowserState) → place < length browsers → slice_get browsers place ≡ Some (get_or browsers place other)
found_at [] place other within = absurd (omega (arith, within))
found_at (first ∷ browsers) zero other within = refl
found_at (first ∷ browsers) (suc place) other within = found_at browsers place other (omega (arith, within))

-- these turns were taken so far, at these places, and this is how they went
pub record SoFar (marked : ℕ → ℕ → Type 0) (from now : Stage) (tally : Tally) (places : List ℕ) : Type 0 where
  pub turns : List Turn
  pub run : AreTurns from turns now
  pub fresh : AreFresh marked now turns
  pub order : places_of turns ≡ places
  pub counts : tally ≡ tally_of turns

pub nothing_yet : (marked : ℕ → ℕ → Type 0) (from : Stage) (tally : Tally) → tally ≡ no_requests → SoFar marked from from tally []
nothing_yet marked from tally none = record { turns = []; run = refl; fresh = All-nil (IsFreshPoint marked from.worker.seat.seen); order = refl; counts = none }

pub one_more : (marked marked' : ℕ → ℕ → Type 0) (from now to : Stage) (tally : Tally) (places : List ℕ) (place : ℕ) (before after : BrowserState) (good : Bool) → SoFar marked from now tally places
    → slice_get now.browsers place ≡ Some before → TurnAs marked' (pair_at now before) (pair_at to after) (Ok good) → to.browsers ≡ slice_set now.browsers place after
    → KeepsMarks marked marked' now.worker.seat to.worker.seat → SoFar marked' from to (counted tally good) (places ++ place ∷ [])
one_more marked marked' from now to tally places place before after good so_far there (step, page, asks, is, fresh) others keeps =
    let turn : Turn = record { place = place; step = step; page = page } in
    record {
      turns = so_far.turns ++ turn ∷ [];
      run = turns_one from now to so_far.turns turn so_far.run (record { before = before; after = after; there = there; asks = asks; others = others });
      fresh = points_more now.worker.seat to.worker.seat marked marked' (points_of so_far.turns) (points_of so_far.turns) (points_of (so_far.turns ++ turn ∷ [])) step.point keeps fresh refl
          (map-append (λ (t : Turn). t.step.point) so_far.turns (turn ∷ [])) so_far.fresh;
      order = map-append (λ (t : Turn). t.place) so_far.turns (turn ∷ []) ∙ ap (λ (l : List ℕ). l ++ place ∷ []) so_far.order;
      counts = ap (λ (t : Tally). counted t good) so_far.counts ∙ tally_more so_far.turns turn good is;
    }

-- the places of whole rounds, and of a part of one

range_split : (a n m : ℕ) → range_with_len a (n + m) ≡ range_with_len a n ++ range_with_len (a + n) m
range_split a zero m =
    let none : 0 + m ≡ m = omega arith in
    let here : a ≡ a + 0 = omega arith in
    ap (range_with_len a) none ∙ ap (λ k. range_with_len k m) here
range_split a (suc n) m =
    let more : suc n + m ≡ suc (n + m) = omega arith in
    let there : a + 1 + n ≡ a + suc n = omega arith in
    ap (range_with_len a) more
    ∙ ap (λ (l : List ℕ). a ∷ l) (range_split (a + 1) n m ∙ ap (λ k. range_with_len (a + 1) n ++ range_with_len k m) there)

pub place_more : (n : ℕ) → range_with_len 0 n ++ n ∷ [] ≡ range_with_len 0 (n + 1)
place_more n = sym (range_split 0 n 1 ∙ ap (λ k. range_with_len 0 n ++ k ∷ []) here)
  where
    here : 0 + n ≡ n
    here = omega arith

pub round_more : (count round : ℕ) → in_turn count round ++ range_with_len 0 count ≡ in_turn count (round + 1)
round_more count round =
    let places = range_with_len 0 count in
    ap (λ (l : List ℕ). in_turn count round ++ l) (sym (append-nil places))
    ∙ sym (concat-append (replicate round places) (places ∷ []))
    ∙ ap concat (replicate_more round places)

-- the places of a round and of those behind it
next_round : (count left : ℕ) → in_turn count (1 + left) ≡ range_with_len 0 count ++ in_turn count left
next_round count left =
    let next : 1 + left ≡ suc left = omega arith in
    ap (in_turn count) next

rounds_left : (count round left : ℕ) → in_turn count (round + left) ≡ in_turn count round ++ in_turn count left
rounds_left count round left =
    let places = range_with_len 0 count in
    ap concat (sym (replicate-append-replicate round left places)) ∙ concat-append (replicate round places) (replicate left places)

-- amid a round, these places are still to come
places_left : (count steps round place : ℕ) → round < steps → place < count
    → in_turn count steps ≡ (in_turn count round ++ range_with_len 0 place) ++ (range_with_len place (count - place) ++ in_turn count (steps - (round + 1)))
places_left count steps round place early inside =
    let left = steps - (round + 1) in
    let rounds : steps ≡ round + (1 + left) = omega (arith, early) in
    let places : count ≡ place + (count - place) = omega (arith, inside) in
    let here : 0 + place ≡ place = omega arith in
    let before = range_with_len 0 place in
    let behind = range_with_len place (count - place) in
    let split : range_with_len 0 count ≡ before ++ behind = ap (range_with_len 0) places ∙ range_split 0 place (count - place) ∙ ap (λ k. before ++ range_with_len k (count - place)) here in
    ap (in_turn count) rounds ∙ rounds_left count round (1 + left) ∙ ap (λ (l : List ℕ). in_turn count round ++ l) (next_round count left ∙ ap (λ (l : List ℕ). l ++ in_turn count left) split)
    ∙ ap (λ (l : List ℕ). in_turn count round ++ l) (append_assoc before behind (in_turn count left))
    ∙ sym (append_assoc (in_turn count round) before (behind ++ in_turn count left))

-- all turns were taken
pub all_taken : (marked : ℕ → ℕ → Type 0) (from to : Stage) (steps round : ℕ) (tally : Tally) → SoFar marked from to tally (in_turn (length from.browsers) round) → round ≡ steps
    → Drives marked from to steps (Ok tally)
all_taken marked from to steps round tally so_far all = (
  record {
    turns = so_far.turns;
    run = so_far.run;
    order = so_far.order ∙ ap (in_turn (length from.browsers)) all;
    stays = stays_of from to so_far.turns so_far.run;
    asked = told_of from to so_far.turns so_far.run;
    counts = so_far.counts;
  },
  so_far.fresh,
)

-- memory ran out before the first turn
pub not_begun : (from : Stage) (steps : ℕ) → StoppedAmid from from steps
not_begun from steps = record {
  turns = [];
  mid = from;
  run = refl;
  left = in_turn (length from.browsers) steps;
  order = refl;
  gave = inl refl;
}

-- memory ran out in a turn
pub stopped : (marked : ℕ → ℕ → Type 0) (from now to : Stage) (steps round place : ℕ) (tally : Tally) → SoFar marked from now tally (in_turn (length from.browsers) round ++ range_with_len 0 place)
    → round < steps → place < length from.browsers → (browser : BrowserState) → slice_get now.browsers place ≡ Some browser → GivesUpFor (pair_at now browser) to.worker → StoppedAmid from to steps
stopped marked from now to steps round place tally so_far early inside browser there gave = record {
  turns = so_far.turns;
  mid = now;
  run = so_far.run;
  left = range_with_len place (length from.browsers - place) ++ in_turn (length from.browsers) (steps - (round + 1));
  order = places_left (length from.browsers) steps round place early inside
      ∙ ap (λ (l : List ℕ). l ++ (range_with_len place (length from.browsers - place) ++ in_turn (length from.browsers) (steps - (round + 1)))) (sym so_far.order);
  gave = inr (record {
    place = place;
    behind = range_with_len (place + 1) (length from.browsers - (place + 1)) ++ in_turn (length from.browsers) (steps - (round + 1));
    next = ap (λ k. range_with_len place k ++ in_turn (length from.browsers) (steps - (round + 1)))
        (let one : length from.browsers - place ≡ suc (length from.browsers - (place + 1)) = omega (arith, inside) in one);
    browser = browser;
    there = there;
    gave = gave;
  });
}

-- by the result, where memory ran out

pub turn_failed : (marked : ℕ → ℕ → Type 0) (from to : Pair) (result : Result Bool Memory) → IsErr result → GivesUpFor from to.worker → TurnAs marked from to result
turn_failed marked from to (Ok good) failed gave = absurd (false≢true failed)
turn_failed marked from to (Err memory) failed gave = gave

pub drive_failed : (marked : ℕ → ℕ → Type 0) (from to : Stage) (steps : ℕ) (result : Result Tally Memory) → IsErr result → StoppedAmid from to steps → Drives marked from to steps result
drive_failed marked from to steps (Ok tally) failed amid = absurd (false≢true failed)
drive_failed marked from to steps (Err memory) failed amid = amid

-- whatever came of it, the seat follows

stands : (from to : Standing) → to ≡ from → Follows from.seat to.seat
stands from to same = subst (λ (s : Standing). Follows from.seat s.seat) (sym same) (stays_same from.seat from.progress.last).follows

follows_for : (from : Pair) (to : Standing) → GivesUpFor from to → Follows from.worker.seat to.seat
follows_for from to gave = ⊎_elim
    (λ (same : to ≡ from.worker). stands from.worker to same)
    (λ (given : (message : Message) × AreMessages (message_bytes from.browser) (message ∷ []) Between × GivesUp (asked message) from.worker to). given.2.stays.follows)
    gave

pub drives_follow : (marked : ℕ → ℕ → Type 0) (from to : Stage) (steps : ℕ) (result : Result Tally Memory) → Drives marked from to steps result → Follows from.worker.seat to.worker.seat
drives_follow marked from to steps (Ok tally) (drove, fresh) = drove.stays.follows
drives_follow marked from to steps (Err memory) amid =
    follows_trans from.worker.seat amid.mid.worker.seat to.worker.seat (stays_of from amid.mid amid.turns amid.run).follows
    (⊎_elim
    (λ (same : to.worker ≡ amid.mid.worker). stands amid.mid.worker to.worker same)
    (λ (stop : StopsAt amid.mid amid.left to.worker). follows_for (pair_at amid.mid stop.browser) to.worker stop.gave)
    amid.gave)
