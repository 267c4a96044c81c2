-- What one step leaves, and one step with what came behind it.
use Rattle.std.proofs.Common.{ℕ, ◌+◌, ◌≤◌, Bool, List, ◌++◌, Result, Ok, Err, sym, ap, arith}
use Rattle.shop_edges.specs.Gateways.{Answered}
use Rattle.shop_edges.specs.declared.gateway.Answer.{Answer}
use Rattle.shop_edges.proofs.cited.Answering.{answered_nothing, answered_more}
use Rattle.shop_history.specs.declared.acts.Entry.{Entry}
use Rattle.shop_model.specs.declared.requests.Request.{Request}
use Rattle.shop_http.specs.declared.requests.Refusal.{Refusal}
use Rattle.shop_http.specs.Requests.{asked}
use Rattle.shop_pages.specs.declared.reply.Form.{Form}
use Rattle.shop_engine.specs.Seats.{Stays}
use Rattle.shop_engine.specs.Steps.{Step, IsStep, IsStepFor}
use Rattle.shop_engine.specs.Workers.{Standing}
use Rattle.shop_engine.proofs.Seats.{stays_same, stays_later, stays_trans}

last_kept : (form : Form) (from : Standing) (step : Step) (to : Standing) (asks : Result Request Refusal) → IsStepFor form from step to asks → from.progress.last ≤ to.progress.last
last_kept form from step to (Ok request) is = omega (arith, is.accepts.last)
last_kept form from step to (Err refusal) is = omega (arith, ap (λ (s : Standing). s.progress.last) is.stands)

-- the last moment never falls
pub step_last : (last : Bool) (from : Standing) (step : Step) (to : Standing) → IsStep last from step to → from.progress.last ≤ to.progress.last
step_last last from step to is = last_kept _ from step to (asked step.message) is

step_stays : (form : Form) (from : Standing) (step : Step) (to : Standing) (asks : Result Request Refusal) → IsStepFor form from step to asks → Stays from.seat to.seat step.made step.point.tries to.progress.last
step_stays form from step to (Ok request) is = rw (sym is.moment) is.decided.stays
step_stays form from step to (Err refusal) is = rw (is.stands, is.made, is.point) (stays_same from.seat from.progress.last)

-- what a step leaves of the seat, and what came behind it
pub stays_then : (last : Bool) (from next to : Standing) (step : Step) (entries : List Entry) (settles : ℕ) → IsStep last from step next → next.progress.last ≤ to.progress.last
    → Stays next.seat to.seat entries settles to.progress.last → Stays from.seat to.seat (step.made ++ entries) (step.point.tries + settles) to.progress.last
stays_then last from next to step entries settles is later rest =
    stays_trans from.seat next.seat to.seat step.made entries step.point.tries settles to.progress.last
    (stays_later from.seat next.seat step.made step.point.tries next.progress.last to.progress.last (step_stays _ from step next (asked step.message) is) later) rest

step_told : (form : Form) (from : Standing) (step : Step) (to : Standing) (asks : Result Request Refusal) → IsStepFor form from step to asks → Answered from.told to.told step.answers
step_told form from step to (Ok request) is = is.told
step_told form from step to (Err refusal) is = rw (is.stands, is.answers) (answered_nothing from.told)

-- what the gateway tells of a step, and of what came behind it
pub told_then : (last : Bool) (from next to : Standing) (step : Step) (answers : List Answer) → IsStep last from step next → Answered next.told to.told answers
    → Answered from.told to.told (step.answers ++ answers)
told_then last from next to step answers is rest =
    answered_more from.told next.told to.told step.answers answers (step_told _ from step next (asked step.message) is) rest
