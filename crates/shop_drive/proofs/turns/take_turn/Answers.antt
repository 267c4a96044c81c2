use Rattle.std.proofs.Common.{inl, inr, refl, ◌∙◌, ap, subst, sym}
use Rattle.shop_browsers.specs.Shown.{Shows}
use Rattle.shop_drive.specs.Turns.{is_page}
use Rattle.shop_drive.proofs.TurnLemmas.{turn_failed, turn_taken}
use Rattle.shop_drive.proofs.turns.take_turn.Goals as goal

pub returns-in_err-next_message-clause-turn : goal.returns-in_err-next_message-clause-turn
returns-in_err-next_message-clause-turn g c = turn_failed _ _ _ c.from_residual.result c.from_residual.ensures.0 (inl refl)

pub returns-in_default-clause-turn : goal.returns-in_default-clause-turn
returns-in_default-clause-turn g c = inr (c.next_message.new.message, c.in_ok-next_message.ensures.message, c.in_default.ensures.memory refl)

pub returns-clause-turn : goal.returns-clause-turn
returns-clause-turn g c =
    let took =
    turn_taken _ (record { worker = _; browser = c.args.browser.now; failures = _ }) (record { worker = _; browser = c.take_shown.new.self; failures = _ })
    c.next_message.new.self _ _ _ c.in-Some.ensures.answers c.in_ok-next_message.ensures.message c.in_ok-next_message.ensures.get c.in_ok-next_message.ensures.ok
    c.in-Some.ensures.failures (λ p shows. c.take_shown.ensures p (subst (λ b. Shows b p) (sym c.reply-reply.ensures) shows)) c.in-Some.ensures.fresh in
    (took.0, took.1, took.2, c.is_page.ensures ∙ ap is_page (c.reply-reply.ensures ∙ sym took.3), took.4)
