use Rattle.std.proofs.Common.{◌≡◌, ◌∙◌, List, ℕ, Bor, ap, ap₂, map, rules, subst, take_all}
use Rattle.std.proofs.lemmas.Result.{IfOk-weaker}
use Rattle.clap.specs.Words.{App, FailsBy, fault_of, is_simple, is_simple_and_free, matches_of, rule_of, with_rule}
use Rattle.clap.proofs.WalkLemmas.{both}
use Rattle.shop_words.specs.Parser.{option_rule, options_app}
use Rattle.shop_words.proofs.Rules.{is-simple, option-next}
use Rattle.shop_words.proofs.options.matches.Goals as goal

pub loop-name-preserved : goal.loop-name-preserved
loop-name-preserved c =
    let rule : rule_of c.action-option.result ≡ option_rule c.new.result.id.now = search rules in
    c.in_ok-command.ensures.shape (search rules) ∙ ap₂ with_rule c.loop-name.invariant rule
    ∙ option-next c.args.names.now c.loop-name.name-index _ c.new.result.id.now c.loop-name-test.true (ap (λ (s : Bor (List ℕ)). s.now) c.new.ensures.id)

pub returns-clause-rows : goal.returns-clause-rows
returns-clause-rows c =
    let parse = c.try_get_matches_from in
    let words = map (λ (s : Bor (List ℕ)). s.now) c.args.words.now in
    let whole = take_all c.loop-name.name-index c.args.names.now c.loop-name-test.false in
    let app = c.loop-name.invariant ∙ ap (λ (ns : List (Bor (List ℕ))). options_app (map (λ s. s.now) ns)) whole in
    let names = map (λ (s : Bor (List ℕ)). s.now) c.args.names.now in
    let simple = (both (is_simple (options_app names)) _ (is-simple names)).0 in
    IfOk-weaker parse.result _ _ (λ m h. (h (ap is_simple app ∙ simple)).0 ∙ ap (λ (a : App). matches_of a words) app) parse.ensures.matches

pub returns-clause-kinds : goal.returns-clause-kinds
returns-clause-kinds c =
    let parse = c.try_get_matches_from in
    let words = map (λ (s : Bor (List ℕ)). s.now) c.args.words.now in
    let whole = take_all c.loop-name.name-index c.args.names.now c.loop-name-test.false in
    let app = c.loop-name.invariant ∙ ap (λ (ns : List (Bor (List ℕ))). options_app (map (λ s. s.now) ns)) whole in
    let names = map (λ (s : Bor (List ℕ)). s.now) c.args.names.now in
    subst (λ (a : App). FailsBy (fault_of a words) parse.result) app (parse.ensures.kinds (ap is_simple_and_free app ∙ is-simple names))
