use Rattle.std.proofs.Common.{rules}
use Rattle.shop_browsers.proofs.browser.cart_after.Goals as goal

pub returns-in-Some-BuyConfirm : goal.returns-in-Some-BuyConfirm
returns-in-Some-BuyConfirm c = search rules
