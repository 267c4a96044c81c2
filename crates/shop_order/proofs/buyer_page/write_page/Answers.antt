use Rattle.std.proofs.Common.{◌≡◌, ℕ, Some, refl, sym, ◌∙◌, ap}
use Rattle.shop_model.specs.pages.BuyRequest.{priced_page, buy_request, buyer_ids}
use Rattle.shop_model.specs.pages.Priced.{lines_table}
use Rattle.shop_draft.specs.Drawing.{ids_at}
use Rattle.shop_draft.proofs.cited.PageTexts.{six, written}
use Rattle.shop_order.proofs.BuyerPageLemmas.{cells_ordered}
use Rattle.shop_order.proofs.buyer_page.write_page.Goals as goal

pub returns : goal.returns
unfolding priced_page lines_table
returns c t shows drawn row is =
    let ids : ids_at drawn c.page_ids-ids.result ≡ buyer_ids row c.args.cart
    = c.page_ids-ids.ensures drawn ∙ ap (λ (n : ℕ). record { c = Some n; cart = Some c.args.cart }) (sym is.id) in
    record {
      status = refl;
      text = written (buy_request t row c.args.cart c.args.lines.now c.args.rate) _ _ _ (c.in_ok-begin.ensures drawn)
          (six _ _ _ _ _ _ _ _ _ _ _ _ _ (rw (sym is.id) at (c.in_ok-heading.ensures drawn)) (c.in_ok-buyer.ensures drawn row is.buyer)
          (rw (sym (cells_ordered t 1 c.args.lines.now)) at (c.in_ok-table.ensures t shows drawn))
          (rw (sym is.buyer.discount_is) at (c.in_ok-totals.ensures t shows drawn))
          (rw ids at (c.in_ok-payment_form.ensures row is.buyer.named drawn))
          (rw ids at (c.in_ok-nav.ensures drawn)))
          (c.in_ok-end.ensures drawn);
    }
