use Rattle.std.proofs.Common.{◌+◌, ◌==◌, ap, sym, ◌∙◌, arith}
use Rattle.std.specs.List.{before_first}
use Rattle.std.proofs.lemmas.Bool.{false_from_ne_true}
use Rattle.std.proofs.lemmas.List.{take_rest}
use Rattle.shop_browsers.proofs.Escaped.{query_found, query_quoted, query_none, other_byte}
use Rattle.shop_browsers.proofs.shown.query_in.Goals as goal

pub returns-then-text-at-eq63 : goal.returns-then-text-at-eq63
returns-then-text-at-eq63 c =
    let text = c.args.text.now in
    let first = c.in-Some.ensures in
    ap (before_first (λ b. b == 34)) (take_rest text (c.in-Some.at + 1))
    ∙ query_found text c.in-Some.at (omega (arith, first.0.high)) (λ k below. false_from_ne_true _ (first.0.before k (omega arith) below)) c.if-text-at-eq63.true

pub returns-else-text-at-eq63 : goal.returns-else-text-at-eq63
returns-else-text-at-eq63 c =
    let text = c.args.text.now in
    let first = c.in-Some.ensures in
    sym (query_quoted text c.in-Some.at (omega (arith, first.0.high)) (λ k below. false_from_ne_true _ (first.0.before k (omega arith) below))
    (other_byte _ first.1 c.if-text-at-eq63.false))

pub returns-in-None : goal.returns-in-None
returns-in-None c = sym (query_none c.args.text.now (λ k below. false_from_ne_true _ (c.in-None.ensures k (omega arith) below)))
