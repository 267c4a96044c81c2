use Rattle.std.proofs.Common.{◌==◌, refl, ap, ◌∙◌}
use Rattle.std.specs.List.{after_first}
use Rattle.shop_browsers.proofs.Escaped.{query_escaped, target_begins}
use Rattle.shop_browsers.proofs.shown.with_target.Goals as goal

pub loop-after-init : goal.loop-after-init
loop-after-init c = λ t is.
    let query = after_first (λ b. b == 63) t in
    let begins = target_begins c.query_in-rest.result.now query (c.query_in-rest.ensures ∙ ap (after_first (λ b. b == 63)) is ∙ query_escaped t) in
    (begins.0, query, begins.1, refl)
