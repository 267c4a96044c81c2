use Rattle.shop_book.proofs.Placed.{carts_same}
use Rattle.shop_book.proofs.same_rows.same_cart.Goals as goal

pub returns-then-cart-other : goal.returns-then-cart-other
returns-then-cart-other c = rw (← c.cart.view_is, ← c.other.view_is) (carts_same _ _ c.eq.result c.if-cart-other.true (cc))
