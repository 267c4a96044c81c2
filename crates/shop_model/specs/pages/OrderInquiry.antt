-- The page of Order Inquiry; this project's own wording of the TPC-W specification's interaction.
use Rattle.std.specs.Prelude.{◌∷◌, Option, codes}
use Rattle.shop_model.specs.declared.page.Block.TheVariants.{Heading}
use Rattle.shop_model.specs.declared.page.Page.{Page}
use Rattle.shop_model.specs.declared.requests.IdsAsked.{IdsAsked}
use Rattle.shop_model.specs.rows.Rows.{CustomerRow}
use Rattle.shop_model.specs.pages.Forms.{login_form}
use Rattle.shop_model.specs.pages.Targets.{nav}

-- for a customer or for anyone
unfoldable pub order_inquiry : IdsAsked → Option CustomerRow → Page
order_inquiry ids customer = record {
  status = 200;
  title = codes "Order Inquiry";
  blocks = Heading (codes "Order inquiry") ∷ login_form (codes "/order_display") customer ids ∷ nav ids;
}
