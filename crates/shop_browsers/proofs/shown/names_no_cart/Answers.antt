use Rattle.std.proofs.Common.{not, ap, ◌∙◌}
use Rattle.shop_browsers.proofs.Carts.{no_cart}
use Rattle.shop_browsers.proofs.shown.names_no_cart.Goals as goal

pub returns : goal.returns
returns c = λ none. no_cart c.args.bytes.now c.find.result c.find.ensures (c.is_none.ensures ∙ ap not none)
