use Rattle.shop_browsers.proofs.Head.{one_request}
use Rattle.shop_browsers.proofs.browser.Browser.next_message.Goals as goal

pub returns-clause-message : goal.returns-clause-message
returns-clause-message c = rw c.in_ok-write_message.ensures (one_request c.args.self.now)
