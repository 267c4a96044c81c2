use Rattle.std.proofs.Common.{◌∙◌, ℕ, ◌+◌, ◌++◌, ◌∷◌, [], List, map, ap, sym, arith}
use Rattle.std.specs.List.{range_with_len}
use Rattle.std.proofs.lemmas.List.FromFn.{map-range_with_len_more}
use Rattle.shop_browsers.specs.Browsers.{BrowserState, new_browser}
use Rattle.shop_app.proofs.driven.first_browsers.Goals as goal

pub loop-before-preserved : goal.loop-before-preserved
loop-before-preserved c =
    let browser : ℕ → BrowserState = λ n. new_browser c.args.asked.now.shop.seed n c.args.asked.now.mix c.args.asked.now.shop.scale in
    c.in_ok-push.ensures.items ∙ ap (λ (l : List BrowserState). l ++ c.new.result ∷ []) c.loop-before.invariant
    ∙ ap (λ b. map browser (range_with_len 1 c.loop-before.before) ++ b ∷ []) c.new.ensures
    ∙ sym (map-range_with_len_more browser 1 c.loop-before.before (c.loop-before.before + 1) (omega arith))
