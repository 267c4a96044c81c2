use Rattle.std.proofs.Common.{◌∙◌, Err, ap, arith}
use Rattle.clap.specs.Words.{first_value, found_of}
use Rattle.shop_words.specs.declared.options.Refusal.{Refusal}
use Rattle.shop_words.specs.Polled.{IsPoll}
use Rattle.shop_words.proofs.Commands.{chosen-read, first-named, none-chosen, none-read, passed, texts}
use Rattle.shop_words.proofs.PolledCommand.{poll-kind, poll-words}
use Rattle.shop_words.proofs.polled.read_poll.Goals as goal

pub returns-in_err-texts : goal.returns-in_err-texts
returns-in_err-texts c =
    passed (IsPoll c.args.words.now) c.from_residual.result c.in_err-texts.field-0.0 c.from_residual.ensures.1
    (λ bad poll is. c.in_err-texts.ensures.bad (ap (λ (r : Refusal). Err r) bad) (poll-words c.args.words.now poll is))

pub returns-in_err-found-in-poll : goal.returns-in_err-found-in-poll
returns-in_err-found-in-poll c =
    let are = ap texts c.as_slice-texts.ensures.value ∙ c.in_ok-texts.ensures.texts in
    passed (IsPoll c.args.words.now) c.from_residual-in_err-found-in-poll.result c.in_err-found-in-poll.field-0.0 c.from_residual-in_err-found-in-poll.ensures.1
    (λ bad. none-read poll-kind _ _ are (first-named _ _ _ _ are (omega arith) c.in-poll.is-poll) (c.in_err-found-in-poll.ensures.bad (ap (λ (r : Refusal). Err r) bad)))

pub returns-in-Some : goal.returns-in-Some
returns-in-Some c =
    let are = ap texts c.as_slice-texts.ensures.value ∙ c.in_ok-texts.ensures.texts in
    chosen-read poll-kind _ _ are (first-named _ _ _ _ are (omega arith) c.in-poll.is-poll)
    (first_value (found_of c.in_ok-found-in-poll.found)) c.in_ok-found-in-poll.ensures.values c.in-Some.poll c.in-Some.ensures.some

pub returns-in-poll : goal.returns-in-poll
returns-in-poll c =
    let are = ap texts c.as_slice-texts.ensures.value ∙ c.in_ok-texts.ensures.texts in
    none-chosen poll-kind _ _ are (first-named _ _ _ _ are (omega arith) c.in-poll.is-poll)
    (first_value (found_of c.in_ok-found-in-poll.found)) c.in_ok-found-in-poll.ensures.values c.in-None.ensures.none
