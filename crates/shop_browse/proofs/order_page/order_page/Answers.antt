use Rattle.std.proofs.Common.{◌≡◌, List, refl, sym, ◌∙◌, ap, subst}
use Rattle.shop_model.specs.rows.Rows.{LineRow, OrderRow}
use Rattle.shop_model.specs.pages.OrderDisplay.{order_page}
use Rattle.shop_draft.specs.Drawing.{ids_at}
use Rattle.shop_browse.specs.OrderDisplay.{HaveItems}
use Rattle.shop_browse.proofs.OrderPageLemmas.{page_written}
use Rattle.shop_browse.proofs.order_page.order_page.Goals as goal

pub returns : goal.returns
unfolding order_page
returns c t ships items drawn =
    let order = c.args.order.now in
    let lines_are : c.as_slice.result.now ≡ order.lines = c.as_slice.ensures ∙ ap (λ (o : OrderRow). o.lines) c.order.view_is in
    let first = subst (λ (l : List LineRow). HaveItems t c.args.names l) (sym lines_are) items in
    record {
      status = refl;
      text = page_written t (ids_at drawn c.args.ids) order c.args.city.now c.args.country.now c.as_slice.result.now c.order.inside.card ships lines_are (ap (λ (o : OrderRow). o.card) c.order.view_is)
          _ _ _ _ _ _ _ _ _ (c.in_ok-begin.ensures drawn) (c.in_ok-heading.ensures drawn) (c.in_ok-placed.ensures drawn) (c.in_ok-table.ensures t first drawn) (c.in_ok-totals.ensures drawn)
          (c.in_ok-ship_to.ensures drawn) (c.in_ok-paid.ensures drawn) (c.in_ok-nav.ensures drawn) (c.in_ok-end.ensures drawn);
    }
