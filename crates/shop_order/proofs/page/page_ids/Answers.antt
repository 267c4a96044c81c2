use Rattle.std.proofs.Common.{ap}
use Rattle.shop_model.specs.declared.requests.IdsAsked.{IdsAsked}
use Rattle.shop_model.specs.pages.ShoppingCart.{ids_with}
use Rattle.shop_draft.specs.Drawing.{id_at}
use Rattle.shop_order.proofs.page.page_ids.Goals as goal

pub returns : goal.returns
returns c drawn = ap (λ (ids : IdsAsked). ids_with ids (id_at drawn c.args.cart)) (c.of.ensures drawn)
