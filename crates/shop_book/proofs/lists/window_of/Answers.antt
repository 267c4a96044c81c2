use Rattle.std.proofs.Common.{◌∙◌, arith}
use Rattle.shop_book.proofs.KeptLists.{admitted, all_admitted}
use Rattle.shop_book.proofs.lists.window_of.Goals as goal

pub loop-order-preserved : goal.loop-order-preserved
loop-order-preserved g c =
    let is = rw c.get.ensures at c.in_ok-admit.ensures.kept in
    record {
      items = c.admit.ensures.items ∙ c.loop-order.invariant.items;
      kept = admitted g.row.N c.args.orders.now c.loop-order.order-index c.order-item.result c.loop-order.window.kept c.admit.new.self.kept c.loop-order-test.true c.order-item.is
          c.loop-order.invariant.kept is;
    }

pub returns-clause-kept : goal.returns-clause-kept
returns-clause-kept g c =
    all_admitted g.row.N c.args.orders.now c.loop-order.order-index c.loop-order.window.kept (omega arith) c.loop-order.invariant.kept
