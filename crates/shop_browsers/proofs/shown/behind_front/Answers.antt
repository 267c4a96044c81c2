use Rattle.std.proofs.Common.{ap, ◌∙◌}
use Rattle.std.proofs.lemmas.List.{take_rest}
use Rattle.shop_browsers.specs.Scanned.{links_in}
use Rattle.shop_browsers.proofs.Fronts.{links_behind_front}
use Rattle.shop_browsers.proofs.shown.behind_front.Goals as goal

pub returns-then-shown-eq72 : goal.returns-then-shown-eq72
returns-then-shown-eq72 c = λ p shows.
    let shown = c.args.shown.now in
    ap links_in (take_rest shown 113) ∙ links_behind_front shown p shows c.if-shown-eq72.true
