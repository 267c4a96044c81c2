use Rattle.std.proofs.Common.{◌∙◌, Err, ap, arith}
use Rattle.clap.specs.Words.{first_value, found_of}
use Rattle.shop_words.specs.declared.options.Refusal.{Refusal}
use Rattle.shop_words.specs.Commands.{IsCommand}
use Rattle.shop_words.proofs.Commands.{chosen-read, first-named, none-chosen, none-read, passed, texts}
use Rattle.shop_words.proofs.Sessions.{command-words, drive-kind, gateway-kind, race-kind, serve-kind, session-kind}
use Rattle.shop_words.proofs.command.read_command.Goals as goal

pub returns-in_err-texts : goal.returns-in_err-texts
returns-in_err-texts c =
    passed (IsCommand c.args.words.now) c.from_residual.result c.in_err-texts.field-0.0 c.from_residual.ensures.1
    (λ bad command is. c.in_err-texts.ensures.bad (ap (λ (r : Refusal). Err r) bad) (command-words c.args.words.now command is))

-- ---- a session

pub returns-in_err-found-in-session : goal.returns-in_err-found-in-session
returns-in_err-found-in-session c =
    let are = ap texts c.as_slice-texts.ensures.value ∙ c.in_ok-texts.ensures.texts in
    passed (IsCommand c.args.words.now) c.from_residual-in_err-found-in-session.result c.in_err-found-in-session.field-0.0 c.from_residual-in_err-found-in-session.ensures.1
    (λ bad. none-read session-kind _ _ are (first-named _ _ _ _ are (omega arith) c.in-session.is-session) (c.in_err-found-in-session.ensures.bad (ap (λ (r : Refusal). Err r) bad)))

pub returns-in-Some : goal.returns-in-Some
returns-in-Some c =
    let are = ap texts c.as_slice-texts.ensures.value ∙ c.in_ok-texts.ensures.texts in
    chosen-read session-kind _ _ are (first-named _ _ _ _ are (omega arith) c.in-session.is-session)
    (first_value (found_of c.in_ok-found-in-session.found)) c.in_ok-found-in-session.ensures.values c.in-Some.session c.in-Some.ensures.some

pub returns-in-session : goal.returns-in-session
returns-in-session c =
    let are = ap texts c.as_slice-texts.ensures.value ∙ c.in_ok-texts.ensures.texts in
    none-chosen session-kind _ _ are (first-named _ _ _ _ are (omega arith) c.in-session.is-session)
    (first_value (found_of c.in_ok-found-in-session.found)) c.in_ok-found-in-session.ensures.values c.in-None.ensures.none

-- ---- a drive

pub returns-in_err-found-in-drive : goal.returns-in_err-found-in-drive
returns-in_err-found-in-drive c =
    let are = ap texts c.as_slice-texts.ensures.value ∙ c.in_ok-texts.ensures.texts in
    passed (IsCommand c.args.words.now) c.from_residual-in_err-found-in-drive.result c.in_err-found-in-drive.field-0.0 c.from_residual-in_err-found-in-drive.ensures.1
    (λ bad. none-read drive-kind _ _ are (first-named _ _ _ _ are (omega arith) c.in-drive.is-drive) (c.in_err-found-in-drive.ensures.bad (ap (λ (r : Refusal). Err r) bad)))

pub returns-in-Some-drive_of : goal.returns-in-Some-drive_of
returns-in-Some-drive_of c =
    let are = ap texts c.as_slice-texts.ensures.value ∙ c.in_ok-texts.ensures.texts in
    chosen-read drive-kind _ _ are (first-named _ _ _ _ are (omega arith) c.in-drive.is-drive)
    (first_value (found_of c.in_ok-found-in-drive.found)) c.in_ok-found-in-drive.ensures.values c.in-Some-drive_of.drive c.in-Some-drive_of.ensures.some

pub returns-in-drive : goal.returns-in-drive
returns-in-drive c =
    let are = ap texts c.as_slice-texts.ensures.value ∙ c.in_ok-texts.ensures.texts in
    none-chosen drive-kind _ _ are (first-named _ _ _ _ are (omega arith) c.in-drive.is-drive)
    (first_value (found_of c.in_ok-found-in-drive.found)) c.in_ok-found-in-drive.ensures.values c.in-None-drive_of.ensures.none

-- ---- a race

pub returns-in_err-found-in-race : goal.returns-in_err-found-in-race
returns-in_err-found-in-race c =
    let are = ap texts c.as_slice-texts.ensures.value ∙ c.in_ok-texts.ensures.texts in
    passed (IsCommand c.args.words.now) c.from_residual-in_err-found-in-race.result c.in_err-found-in-race.field-0.0 c.from_residual-in_err-found-in-race.ensures.1
    (λ bad. none-read race-kind _ _ are (first-named _ _ _ _ are (omega arith) c.in-race.is-race) (c.in_err-found-in-race.ensures.bad (ap (λ (r : Refusal). Err r) bad)))

pub returns-in-Some-race_of : goal.returns-in-Some-race_of
returns-in-Some-race_of c =
    let are = ap texts c.as_slice-texts.ensures.value ∙ c.in_ok-texts.ensures.texts in
    chosen-read race-kind _ _ are (first-named _ _ _ _ are (omega arith) c.in-race.is-race)
    (first_value (found_of c.in_ok-found-in-race.found)) c.in_ok-found-in-race.ensures.values c.in-Some-race_of.race c.in-Some-race_of.ensures.some

pub returns-in-race : goal.returns-in-race
returns-in-race c =
    let are = ap texts c.as_slice-texts.ensures.value ∙ c.in_ok-texts.ensures.texts in
    none-chosen race-kind _ _ are (first-named _ _ _ _ are (omega arith) c.in-race.is-race)
    (first_value (found_of c.in_ok-found-in-race.found)) c.in_ok-found-in-race.ensures.values c.in-None-race_of.ensures.none

-- ---- serving a port

pub returns-in_err-found-in-serve : goal.returns-in_err-found-in-serve
returns-in_err-found-in-serve c =
    let are = ap texts c.as_slice-texts.ensures.value ∙ c.in_ok-texts.ensures.texts in
    passed (IsCommand c.args.words.now) c.from_residual-in_err-found-in-serve.result c.in_err-found-in-serve.field-0.0 c.from_residual-in_err-found-in-serve.ensures.1
    (λ bad. none-read serve-kind _ _ are (first-named _ _ _ _ are (omega arith) c.in-serve.is-serve) (c.in_err-found-in-serve.ensures.bad (ap (λ (r : Refusal). Err r) bad)))

pub returns-in-Some-serve_of : goal.returns-in-Some-serve_of
returns-in-Some-serve_of c =
    let are = ap texts c.as_slice-texts.ensures.value ∙ c.in_ok-texts.ensures.texts in
    chosen-read serve-kind _ _ are (first-named _ _ _ _ are (omega arith) c.in-serve.is-serve)
    (first_value (found_of c.in_ok-found-in-serve.found)) c.in_ok-found-in-serve.ensures.values c.in-Some-serve_of.serve c.in-Some-serve_of.ensures.some

pub returns-in-serve : goal.returns-in-serve
returns-in-serve c =
    let are = ap texts c.as_slice-texts.ensures.value ∙ c.in_ok-texts.ensures.texts in
    none-chosen serve-kind _ _ are (first-named _ _ _ _ are (omega arith) c.in-serve.is-serve)
    (first_value (found_of c.in_ok-found-in-serve.found)) c.in_ok-found-in-serve.ensures.values c.in-None-serve_of.ensures.none

-- ---- a gateway

pub returns-in_err-options_of-in-gateway : goal.returns-in_err-options_of-in-gateway
returns-in_err-options_of-in-gateway c =
    let are = ap texts c.as_slice-texts.ensures.value ∙ c.in_ok-texts.ensures.texts in
    passed (IsCommand c.args.words.now) c.from_residual-in_err-options_of-in-gateway.result c.in_err-options_of-in-gateway.field-0.0 c.from_residual-in_err-options_of-in-gateway.ensures.1
    (λ bad. none-read gateway-kind _ _ are (first-named _ _ _ _ are (omega arith) c.in-gateway.is-gateway) (c.in_err-options_of-in-gateway.ensures.bad (ap (λ (r : Refusal). Err r) bad)))

pub returns-in-gateway : goal.returns-in-gateway
returns-in-gateway c =
    let are = ap texts c.as_slice-texts.ensures.value ∙ c.in_ok-texts.ensures.texts in
    chosen-read gateway-kind _ _ are (first-named _ _ _ _ are (omega arith) c.in-gateway.is-gateway) (first_value (found_of c.in_ok-options_of-in-gateway.field-0)) c.in_ok-options_of-in-gateway.ensures.values tt tt
