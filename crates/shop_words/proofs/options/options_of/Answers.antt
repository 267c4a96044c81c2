use Rattle.std.proofs.Common.{◌≡◌, ◌∙◌, Bor, List, ℕ, ap, false, inl, inr, map, subst, sym, true, true≢false}
use Rattle.clap.specs.Words.{IsAmong, Row, first_of, found_of, kind_of}
use Rattle.clap.proofs.WalkLemmas.{first_value-rows}
use Rattle.shop_words.proofs.Readings.{is-reading, options-taken}
use Rattle.shop_words.proofs.options.options_of.Goals as goal

pub returns-in-Ok-clause-values : goal.returns-in-Ok-clause-values
returns-in-Ok-clause-values c =
    let names = map (λ (s : Bor (List ℕ)). s.now) c.args.names.now in
    let words = map (λ (s : Bor (List ℕ)). s.now) c.args.words.now in
    let found = found_of c.in-Ok.found in
    is-reading names c.requires.names words _ c.requires.words c.in-Ok.ensures.kinds
    (λ name. first_value-rows found name ∙ ap (λ (rows : List Row). first_of name rows) c.in-Ok.ensures.rows)

pub returns-clause-bad : goal.returns-clause-bad
returns-clause-bad c _ given options plain =
    let names = map (λ (s : Bor (List ℕ)). s.now) c.args.names.now in
    let words = map (λ (s : Bor (List ℕ)). s.now) c.args.words.now in
    let none = (options-taken names c.requires.names words given options plain).0 in
    elim c.in-Err.ensures.kinds [
      | inl memory ↦ let same : false ≡ true = rw (c.kind.ensures ∙ memory) at c.if-eq.ensures in true≢false (sym same)
      | inr among ↦ subst (IsAmong (kind_of c.in-Err.error)) none among
    ]
