-- The last moment of turns is one of their points', or the one before them; and how many turns one browser takes.
use Rattle.std.proofs.Common.{◌≡◌, ℕ, zero, suc, ◌≤◌, max, List, [], ◌∷◌, length, Result, Ok, Err, refl, sym, ap, ◌∙◌, arith}
use Rattle.std.proofs.lemmas.List.{length-map}
use Rattle.shop_http.specs.declared.requests.Refusal.{Refusal}
use Rattle.shop_http.specs.Requests.{asked}
use Rattle.shop_model.specs.declared.requests.Request.{Request}
use Rattle.shop_pages.specs.declared.reply.Form.{Form}
use Rattle.shop_engine.specs.Steps.{Step, IsStepFor}
use Rattle.shop_engine.specs.Workers.{Standing}
use Rattle.shop_drive.specs.Drives.{greatest_moment, in_turn, places_of, points_of}
use Rattle.shop_drive.specs.Turns.{Stage, Turn, AreTurns}

step_last : (form : Form) (from to : Standing) (step : Step) (asks : Result Request Refusal) → IsStepFor form from step to asks → to.progress.last ≤ max from.progress.last step.point.moment
step_last form from to step (Ok request) is = omega (arith, is.moment)
step_last form from to step (Err refusal) is = omega (arith, ap (λ (s : Standing). s.progress.last) is.stands)

pub last_of : (from to : Stage) (turns : List Turn) → AreTurns from turns to → to.worker.progress.last ≤ max from.worker.progress.last (greatest_moment (points_of turns))
last_of from to [] same = omega (arith, ap (λ (s : Stage). s.worker.progress.last) same)
last_of from to (turn ∷ turns) (next, is, are) =
    omega (arith, step_last _ from.worker next.worker turn.step (asked turn.step.message) is.asks.answered, last_of next to turns are)

rounds_of_one : (steps : ℕ) → length (in_turn 1 steps) ≡ steps
rounds_of_one zero = refl
rounds_of_one (suc steps) = ap suc (rounds_of_one steps)

-- one browser takes a turn a step
pub turns_count : (turns : List Turn) (steps : ℕ) → places_of turns ≡ in_turn 1 steps → length turns ≡ steps
turns_count turns steps order = sym (length-map turns (λ (t : Turn). t.place)) ∙ ap length order ∙ rounds_of_one steps
