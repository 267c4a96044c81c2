use Rattle.std.proofs.Common.{ℕ, subst}
use Rattle.shop_model.specs.declared.requests.IdsAsked.{IdsAsked}
use Rattle.shop_model.specs.pages.ShoppingCart.{cart_page, ids_with}
use Rattle.shop_draft.specs.Drawing.{id_at}
use Rattle.shop_draft.specs.Pages.{IsPage}
use Rattle.shop_order.proofs.page.write_page.Goals as goal

pub returns : goal.returns
returns c t shows drawn =
    let lines = c.args.lines.now in
    let cart = c.cart_id-cart.ensures drawn in
    subst (λ (n : ℕ). IsPage c.write_cart.new.draft drawn (cart_page t (ids_with c.args.ids n) n lines)) cart
    (subst (λ (ids : IdsAsked). IsPage c.write_cart.new.draft drawn (cart_page t ids (id_at drawn c.cart_id-cart.result) lines)) (c.page_ids.ensures drawn) (c.in_ok-write_cart.ensures t shows drawn))
