use Rattle.std.proofs.Common.{rules}
use Rattle.shop_browsers.proofs.browser.as_customer.Goals as goal

pub returns-in-None-BuyConfirm : goal.returns-in-None-BuyConfirm
returns-in-None-BuyConfirm c = search rules
