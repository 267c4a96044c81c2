use Rattle.std.proofs.Common.{◌≡◌, ◌+◌, ◌%◌, map, refl, sym, ◌∙◌, ap}
use Rattle.shop_model.specs.pages.BuyConfirm.{confirm_page, purchase_ids}
use Rattle.shop_model.specs.pages.Priced.{lines_table}
use Rattle.shop_model.specs.pages.Priced as order
use Rattle.shop_model.specs.pages.ShoppingCart as cart
use Rattle.shop_model.specs.rows.Rows.{CustomerRow}
use Rattle.shop_draft.proofs.cited.PageTexts.{six, written}
use Rattle.shop_order.specs.Purchases.{numbered, order_of, drawn_order}
use Rattle.shop_order.proofs.BuyerPageLemmas.{cells_ordered}
use Rattle.shop_order.proofs.PurchaseLemmas.{numbered_ordered}
use Rattle.shop_order.proofs.confirm_page.write_page.Goals as goal

pub returns : goal.returns
unfolding confirm_page lines_table
returns c t shows drawn =
    let purchase = c.args.purchase.now in
    let bill = c.args.bill.now in
    let lines = purchase.lines.now in
    let days = 1 + c.args.draw % 7 in
    let cells : map (order.line_cells t) (numbered 1 bill.priced) ≡ map (cart.line_cells t) lines
    = ap (λ p. map (order.line_cells t) (numbered 1 p)) (c.requires.bill.pricing.are t shows)
    ∙ ap (map (order.line_cells t)) (numbered_ordered t 1 lines)
    ∙ cells_ordered t 1 lines in
    record {
      status = refl;
      text = written (confirm_page t (purchase_ids purchase.asked.now) (drawn_order drawn days (order_of purchase bill c.args.auth.now))) _ _ _ (c.in_ok-begin.ensures drawn)
          (six _ _ _ _ _ _ _ _ _ _ _ _ _ (c.in_ok-heading.ensures drawn)
          (rw c.days_later.ensures at (rw (ap (λ (r : CustomerRow). r.id) c.customer.view_is) at (c.in_ok-ships.ensures drawn)))
          (rw (sym cells) at (c.in_ok-table.ensures t shows drawn))
          (c.in_ok-totals.ensures drawn)
          (c.in_ok-authorised.ensures drawn)
          (rw (c.page_ids-ids.ensures drawn ∙ ap purchase_ids c.get.ensures) at (c.in_ok-nav.ensures drawn)))
          (c.in_ok-end.ensures drawn);
    }
