-- The page of a cart, by what a settle draws.
use Rattle.std.specs.Prelude.{ℕ, List, Option, Some, None}
use Rattle.shop_model.specs.declared.page.Page.{Page}
use Rattle.shop_model.specs.declared.requests.IdsAsked.{IdsAsked}
use Rattle.shop_model.specs.declared.tables.Tables.{Tables}
use Rattle.shop_model.specs.pages.ShoppingCart.{cart_page, ids_with}
use Rattle.shop_history.specs.declared.acts.Drawn.{Drawn}
use Rattle.shop_draft.specs.Drawing.{or_zero}

-- the id of the cart that a page is about: the one that is named, or the one that is drawn
abbrev pub cart_at : Drawn → Option ℕ → ℕ
cart_at drawn None = or_zero drawn.ids.cart
cart_at drawn (Some id) = id

-- the page of a cart with these lines
abbrev pub page_at : Tables → IdsAsked → List (ℕ × ℕ) → Drawn → Page
page_at t ids lines drawn =
    cart_page t (ids_with ids (cart_at drawn ids.cart)) (cart_at drawn ids.cart) lines
