use Rattle.std.proofs.Common.{◌++◌, sym, ◌∙◌, ap}
use Rattle.shop_attempt.specs.declared.attempts.ReadOf.{ReadOf}
use Rattle.shop_order.specs.Purchases.{stock_writes_in}
use Rattle.shop_order.proofs.TableLemmas.{line_at}
use Rattle.shop_order.proofs.PurchaseLemmas.{stocks_more}
use Rattle.shop_order.proofs.sale.push_stocks.Goals as goal

pub loop-place-preserved : goal.loop-place-preserved
loop-place-preserved c t shows =
    stocks_more c.args.lines.now c.args.items.now c.loop-place.place c.index-items-place.result c.requires.items_are c.loop-place-test.true c.index-items-place.is t shows
    c.args.writes.now c.loop-place.writes c.push_stock.new.writes (c.loop-place.invariant t shows)
    (c.in_ok-push_stock.ensures
    ∙ ap (λ (r : ReadOf). c.loop-place.writes ++ stock_writes_in (line_at c.args.lines.now c.loop-place.place) r.row) (sym c.index-items-place.is))
