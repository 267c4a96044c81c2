use Rattle.std.proofs.Common.{rules}
use Rattle.shop_browsers.proofs.browser.Browser.write_message.Goals as goal

pub returns : goal.returns
returns c = search rules
