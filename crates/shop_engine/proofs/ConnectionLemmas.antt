-- What the steps of a connection leave together, a message that is not begun, and one that is answered.
use Rattle.std.proofs.Common.{◌≡◌, ℕ, ◌+◌, ◌≤◌, ◌==◌, inr, List, [], ◌∷◌, ◌++◌, length, refl, sym, ap, ◌∙◌, arith, subst, None, Result, Ok, Err}
use Rattle.std.specs.declared.option.Option.{Option}
use Rattle.std.specs.Prelude.{flat_map, sum_by}
use Rattle.std.proofs.lemmas.List.Sums.{sum_by-cons}
use Rattle.shop_edges.specs.Gateways.{Answered}
use Rattle.shop_edges.specs.declared.gateway.Answer.{Answer}
use Rattle.shop_edges.proofs.cited.Answering.{answered_nothing}
use Rattle.shop_message.specs.declared.messages.Message.{Message}
use Rattle.shop_model.specs.declared.requests.Request.{Request}
use Rattle.shop_http.specs.declared.requests.Refusal.{Refusal}
use Rattle.shop_attempt.specs.Seats.{Seat}
use Rattle.shop_engine.specs.declared.report.Point.{Point}
use Rattle.shop_engine.specs.Connections.{IsMade, turn_behind}
use Rattle.shop_engine.specs.Seats.{Stays}
use Rattle.shop_engine.specs.Steps.{ANSWERS, Answers, Step, AreSteps, BeginsOn, GivesUp}
use Rattle.shop_engine.specs.Workers.{Standing, WorkerState, standing}
use Rattle.shop_engine.proofs.Seats.{stays_same}
use Rattle.shop_engine.proofs.Steps.{adds_point}
use Rattle.shop_engine.proofs.cited.Stepping.{step_last, stays_then, told_then}

-- what steps leave together

last_grows : (answers : ℕ) (from to : Standing) (steps : List Step) → AreSteps answers from steps to → from.progress.last ≤ to.progress.last
last_grows answers from to [] same = omega (arith, ap (λ (s : Standing). s.progress.last) same)
last_grows answers from to (step ∷ steps) (next, is, are) = omega (arith, step_last _ from step next is, last_grows (answers + 1) next to steps are)

pub stays_of : (answers : ℕ) (from to : Standing) (steps : List Step) → AreSteps answers from steps to
    → Stays from.seat to.seat (flat_map (λ s. s.made) steps) (sum_by (λ s. s.point.tries) steps) to.progress.last
stays_of answers from to [] same = subst (λ (s : Standing). Stays from.seat s.seat [] 0 s.progress.last) (sym same) (stays_same from.seat from.progress.last)
stays_of answers from to (step ∷ steps) (next, is, are) =
    rw (sum_by-cons (λ (s : Step). s.point.tries) step steps)
    (stays_then _ from next to step (flat_map (λ (s : Step). s.made) steps) (sum_by (λ (s : Step). s.point.tries) steps) is (last_grows (answers + 1) next to steps are)
    (stays_of (answers + 1) next to steps are))

-- what the gateway tells of steps

pub told_of : (answers : ℕ) (from to : Standing) (steps : List Step) → AreSteps answers from steps to → Answered from.told to.told (flat_map (λ s. s.answers) steps)
told_of answers from to [] same = subst (λ (s : Standing). Answered from.told s.told []) (sym same) (answered_nothing from.told)
told_of answers from to (step ∷ steps) (next, is, are) =
    told_then _ from next to step (flat_map (λ (s : Step). s.answers) steps) is (told_of (answers + 1) next to steps are)

-- memory ran out before anything was done

not_begun : (asks : Result Request Refusal) (now : Standing) → BeginsOn asks now now []
not_begun (Ok request) now = inr (refl, refl)
not_begun (Err refusal) now = (refl, refl)

pub nothing_begun : (asks : Result Request Refusal) (now : Standing) → GivesUp asks now now
nothing_begun asks now = record {
  answers = [];
  begins = not_begun asks now;
  settles = 0;
  few = omega arith;
  stays = stays_same now.seat now.progress.last;
  few_answers = omega arith;
  told = answered_nothing now.told;
  key = None;
  kept = refl;
}

pub left_alone : (asks : Result Request Refusal) (from to : Standing) → to ≡ from → GivesUp asks from to
left_alone asks from to same = subst (GivesUp asks from) (sym same) (nothing_begun asks from)

pub still_standing : {St : Type 0} (seat_of : St → Seat) (old new : WorkerState St) (clock : Option (List ℕ)) (told : Option (List Answer))
    → new ≡ record { store = old.store; caller = old.caller; progress = old.progress; kept = old.kept; reply = new.reply } → standing seat_of new clock told ≡ standing seat_of old clock told
still_standing {St} seat_of old new clock told is = ap (λ (w : WorkerState St). standing seat_of w clock told) is

-- an answer that was made is that of the message behind those that have points
pub makes_answer : (count : ℕ) (from to : Standing) (message : Message) (point : Point) (reply : List ℕ) (points reserved points' : List Point) → count ≡ length points → Answers ((count + 1) == ANSWERS) from to message point reply
    → reserved ≡ points → points' ≡ reserved ++ point ∷ [] → IsMade (turn_behind points message) from to points (record { points = points'; reply = reply })
makes_answer count from to message point reply points reserved points' size answers same added =
    let is = subst (λ n. Answers ((n + 1) == ANSWERS) from to message point reply) size answers in
    record {
      step = record { message = message; point = point; made = is.0; answers = is.1; reply = reply };
      adds = adds_point _ from to message point reply points points' is (added ∙ ap (λ (l : List Point). l ++ point ∷ []) same);
      reply = refl;
    }
