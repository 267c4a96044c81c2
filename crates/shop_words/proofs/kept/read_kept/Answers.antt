use Rattle.std.proofs.Common.{◌∙◌, Err, ap, arith}
use Rattle.clap.specs.Words.{first_value, found_of}
use Rattle.shop_words.specs.declared.options.Refusal.{Refusal}
use Rattle.shop_words.specs.Kept.{IsKeptCommand}
use Rattle.shop_words.proofs.Commands.{chosen-read, first-named, none-chosen, none-read, passed, texts}
use Rattle.shop_words.proofs.KeptCommands.{keep-kind, kept-words, migrate-kind}
use Rattle.shop_words.proofs.kept.read_kept.Goals as goal

pub returns-in_err-texts : goal.returns-in_err-texts
returns-in_err-texts c =
    passed (IsKeptCommand c.args.words.now) c.from_residual.result c.in_err-texts.field-0.0 c.from_residual.ensures.1
    (λ bad command is. c.in_err-texts.ensures.bad (ap (λ (r : Refusal). Err r) bad) (kept-words c.args.words.now command is))

-- ---- keeping a journal

pub returns-in_err-found-in-keep : goal.returns-in_err-found-in-keep
returns-in_err-found-in-keep c =
    let are = ap texts c.as_slice-texts.ensures.value ∙ c.in_ok-texts.ensures.texts in
    passed (IsKeptCommand c.args.words.now) c.from_residual-in_err-found-in-keep.result c.in_err-found-in-keep.field-0.0 c.from_residual-in_err-found-in-keep.ensures.1
    (λ bad. none-read keep-kind _ _ are (first-named _ _ _ _ are (omega arith) c.in-keep.is-keep) (c.in_err-found-in-keep.ensures.bad (ap (λ (r : Refusal). Err r) bad)))

pub returns-in_err-keep_of-in-keep : goal.returns-in_err-keep_of-in-keep
returns-in_err-keep_of-in-keep c =
    let are = ap texts c.as_slice-texts.ensures.value ∙ c.in_ok-texts.ensures.texts in
    passed (IsKeptCommand c.args.words.now) c.from_residual-in_err-keep_of-in-keep.result c.in_err-keep_of-in-keep.field-0.0 c.from_residual-in_err-keep_of-in-keep.ensures.1
    (λ bad. none-chosen keep-kind _ _ are (first-named _ _ _ _ are (omega arith) c.in-keep.is-keep)
    (first_value (found_of c.in_ok-found-in-keep.found)) c.in_ok-found-in-keep.ensures.values (c.in_err-keep_of-in-keep.ensures.bad (ap (λ (r : Refusal). Err r) bad)))

pub returns-in-keep : goal.returns-in-keep
returns-in-keep c =
    let are = ap texts c.as_slice-texts.ensures.value ∙ c.in_ok-texts.ensures.texts in
    chosen-read keep-kind _ _ are (first-named _ _ _ _ are (omega arith) c.in-keep.is-keep)
    (first_value (found_of c.in_ok-found-in-keep.found)) c.in_ok-found-in-keep.ensures.values c.in_ok-keep_of-in-keep.field-0 c.in_ok-keep_of-in-keep.ensures.keep

-- ---- migrating one

pub returns-in_err-found-in-migrate : goal.returns-in_err-found-in-migrate
returns-in_err-found-in-migrate c =
    let are = ap texts c.as_slice-texts.ensures.value ∙ c.in_ok-texts.ensures.texts in
    passed (IsKeptCommand c.args.words.now) c.from_residual-in_err-found-in-migrate.result c.in_err-found-in-migrate.field-0.0 c.from_residual-in_err-found-in-migrate.ensures.1
    (λ bad. none-read migrate-kind _ _ are (first-named _ _ _ _ are (omega arith) c.in-migrate.is-migrate) (c.in_err-found-in-migrate.ensures.bad (ap (λ (r : Refusal). Err r) bad)))

pub returns-in_err-migrate_of-in-migrate : goal.returns-in_err-migrate_of-in-migrate
returns-in_err-migrate_of-in-migrate c =
    let are = ap texts c.as_slice-texts.ensures.value ∙ c.in_ok-texts.ensures.texts in
    passed (IsKeptCommand c.args.words.now) c.from_residual-in_err-migrate_of-in-migrate.result c.in_err-migrate_of-in-migrate.field-0.0 c.from_residual-in_err-migrate_of-in-migrate.ensures.1
    (λ bad. none-chosen migrate-kind _ _ are (first-named _ _ _ _ are (omega arith) c.in-migrate.is-migrate)
    (first_value (found_of c.in_ok-found-in-migrate.found)) c.in_ok-found-in-migrate.ensures.values (c.in_err-migrate_of-in-migrate.ensures.bad (ap (λ (r : Refusal). Err r) bad)))

pub returns-in-migrate : goal.returns-in-migrate
returns-in-migrate c =
    let are = ap texts c.as_slice-texts.ensures.value ∙ c.in_ok-texts.ensures.texts in
    chosen-read migrate-kind _ _ are (first-named _ _ _ _ are (omega arith) c.in-migrate.is-migrate)
    (first_value (found_of c.in_ok-found-in-migrate.found)) c.in_ok-found-in-migrate.ensures.values c.in_ok-migrate_of-in-migrate.field-0 c.in_ok-migrate_of-in-migrate.ensures.migrate
