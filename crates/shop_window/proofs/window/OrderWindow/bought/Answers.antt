use Rattle.std.proofs.Common.{arith}
use Rattle.shop_window.proofs.Adding.{lines_few}
use Rattle.shop_window.proofs.window.OrderWindow.bought.Goals as goal

pub bought-requires : goal.bought-requires
bought-requires g c =
    let w = c.self.inside in
    let most = lines_few w.items c.args.customer w.orders.kept c.self.invariant.counted.orders in
    omega (arith, most, c.self.invariant.counted.few)
