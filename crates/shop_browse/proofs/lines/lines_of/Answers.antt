use Rattle.std.proofs.Common.{◌∙◌}
use Rattle.shop_browse.proofs.lines.lines_of.Goals as goal

pub returns-in_default : goal.returns-in_default
returns-in_default c all =
    let named = all c.loop-item.item-index 0 c.loop-item-test.true in
    c.in_default.not-Some named.0 (c.in_ok-label.ensures ∙ named.1)
