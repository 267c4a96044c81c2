use Rattle.std.proofs.Common.{refl, sym, ◌∙◌, ap, subst}
use Rattle.shop_pages.specs.ReplyStates.{bytes_of}
use Rattle.shop_engine.specs.Steps.{Answers}
use Rattle.shop_engine.specs.WorkerView.{state_of}
use Rattle.shop_engine.specs.Workers.{standing}
use Rattle.shop_engine.proofs.ConnectionLemmas.{nothing_begun}
use Rattle.shop_engine.proofs.serve.reply_to.Goals as goal

pub returns-in_default-clause-answered : goal.returns-in_default-clause-answered
returns-in_default-clause-answered g c = nothing_begun _ _

pub returns-in_default-answer-clause-answered : goal.returns-in_default-answer-clause-answered
returns-in_default-answer-clause-answered g c = c.in_default-answer.ensures.memory refl

-- the reply that is given away is the one that the worker made
pub returns-clause-answered : goal.returns-clause-answered
returns-clause-answered g c =
    let clock = g.C.Clock.readings c.answer.new.clock in
    let told = g.G.Gateway.answers c.answer.new.gateway in
    let from = standing g.St.Store.seat c.args.worker.now (g.C.Clock.readings c.args.clock.now) (g.G.Gateway.answers c.args.gateway.now) in
    let to = standing g.St.Store.seat (state_of c.worker.inside) clock told in
    let made : Answers c.args.last from to c.args.message.now c.in-Some.point (bytes_of c.worker.inside.reply) =
    subst (λ w. Answers c.args.last from (standing g.St.Store.seat w clock told) c.args.message.now c.in-Some.point w.reply) (sym c.worker.view_is) c.in-Some.ensures.answers in
    subst (λ text. Answers c.args.last from to c.args.message.now c.in-Some.point text) (sym (c.into_text.ensures ∙ ap bytes_of c.replace-reply.ensures.value)) made
