use Rattle.std.proofs.Common.{refl}
use Rattle.shop_model.specs.pages.ShoppingCart.{cart_page}
use Rattle.shop_draft.specs.Drawing.{id_at, ids_at}
use Rattle.shop_draft.proofs.cited.PageTexts.{six, written}
use Rattle.shop_order.proofs.page.write_cart.Goals as goal

pub returns : goal.returns
unfolding cart_page
returns c t shows drawn = record {
  status = refl;
  text = written (cart_page t (ids_at drawn c.args.ids) (id_at drawn c.args.cart) c.args.lines.now) _ _ _ (c.in_ok-begin.ensures drawn)
      (six _ _ _ _ _ _ _ _ _ _ _ _ _ (c.in_ok-heading.ensures drawn) (c.in_ok-table.ensures t shows drawn)
      (rw (c.sum.ensures t shows) at (c.in_ok-sum_line.ensures drawn))
      (c.in_ok-cart_form.ensures drawn) (c.in_ok-plain_link.ensures drawn) (c.in_ok-nav.ensures drawn))
      (c.in_ok-end.ensures drawn);
}
