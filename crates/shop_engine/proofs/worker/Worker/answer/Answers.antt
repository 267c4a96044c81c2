use Rattle.std.proofs.lemmas.Option.{IfSome_then}
use Rattle.shop_engine.proofs.Steps.{answers_message, answers_plain}
use Rattle.shop_engine.proofs.ConnectionLemmas.{nothing_begun, left_alone, still_standing}
use Rattle.shop_engine.proofs.worker.Worker.answer.Goals as goal

pub returns-in-Request-clause-answers : goal.returns-in-Request-clause-answers
returns-in-Request-clause-answers g c =
    IfSome_then _ c.answer_request.ensures.answers
    (λ point answers. answers_message c.args.last _ _ c.args.message.now c.in-Request.request _ point _ c.in-Request.ensures c.form_of-form.ensures answers)

pub returns-in-Request-clause-memory : goal.returns-in-Request-clause-memory
returns-in-Request-clause-memory g c none = rw (c.in-Request.ensures) (c.answer_request.ensures.memory none)

pub returns-in-Ok-clause-answers : goal.returns-in-Ok-clause-answers
returns-in-Ok-clause-answers g c =
    answers_plain c.args.last _ _ c.args.message.now c.in-Refuse.refusal _ _ _ c.in-Refuse.ensures c.form_of-form.ensures
    (still_standing g.St.Store.seat c.args.self.now c.refuse.new.self _ _ c.refuse.ensures.worker) c.plain_point.ensures (rw c.told.ensures at c.in-Ok.ensures.reply)

pub returns-in-Err-clause-memory : goal.returns-in-Err-clause-memory
returns-in-Err-clause-memory g c none = left_alone _ _ _ (still_standing g.St.Store.seat c.args.self.now c.refuse.new.self _ _ c.refuse.ensures.worker)

pub returns-in-Memory-clause-memory : goal.returns-in-Memory-clause-memory
returns-in-Memory-clause-memory g c none = nothing_begun _ _
