use Rattle.shop_browsers.proofs.Ids.{none_lacks, cart_lacks}
use Rattle.shop_browsers.proofs.shown.names_no_more.Goals as goal

pub returns-in-Some-Some : goal.returns-in-Some-Some
returns-in-Some-Some c = λ _. none_lacks c.args.ids c.args.left.now _ _ c.in-Some-Some.is-0 c.in-Some-Some.is-1

pub returns-then-not-looked : goal.returns-then-not-looked
returns-then-not-looked c = λ none. cart_lacks c.args.ids c.args.left.now _ c.in-Some-None.is-0 (c.names_no_cart.ensures none)
