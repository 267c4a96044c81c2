use Rattle.std.proofs.Common.{◌≡◌, sym, ◌∙◌, ap, arith}
use Rattle.shop_model.specs.rows.Rows.{LineRow}
use Rattle.shop_book.proofs.BuyerLemmas.{units_of_it, units_of_other}
use Rattle.shop_book.proofs.buyers.units_of.Goals as goal
use Rattle.shop_book.proofs.buyers.units_of.Goals.{then-line-item, else-line-item}

pub overflow_add-units : goal.overflow_add-units
overflow_add-units c = omega (arith, c.line.invariant.quantity)

pub loop-line-preserved : goal.loop-line-preserved
loop-line-preserved c =
    let lines = c.args.lines.now in
    let i = c.loop-line.line-index in
    let line : LineRow = c.line-item.result in
    let item : line.item ≡ c.line.inside.item = sym (ap (λ (l : LineRow). l.item) c.line.view_is) in
    let quantity : line.quantity ≡ c.line.inside.quantity = sym (ap (λ (l : LineRow). l.quantity) c.line.view_is) in
    let few = c.line.invariant.quantity in
    elim c.if-line-item.branch [
      | then-line-item w ↦
          let more = units_of_it c.args.item lines i line c.loop-line-test.true c.line-item.is (item ∙ w.if-line-item.true) in
          record { units = omega (arith, more, quantity, w.units-is, w.from-units.ensures, c.loop-line.invariant.units); few = omega (arith, few, w.units-is, w.from-units.ensures, c.loop-line.invariant.few) }
      | else-line-item w ↦
          let same = units_of_other c.args.item lines i line c.loop-line-test.true c.line-item.is (λ is. w.if-line-item.false (sym item ∙ is)) in
          record { units = w.units-is ∙ c.loop-line.invariant.units ∙ sym same; few = omega (arith, w.units-is, c.loop-line.invariant.few) }
    ]
