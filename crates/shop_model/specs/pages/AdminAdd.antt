-- The page of Admin Add; this project's own.
use Rattle.std.specs.Prelude.{ℕ, List, ◌∷◌, ◌++◌, codes, decimal}
use Rattle.shop_model.specs.declared.page.Block.TheVariants.{Heading, Para}
use Rattle.shop_model.specs.declared.page.Page.{Page}
use Rattle.shop_model.specs.declared.requests.IdsAsked.{IdsAsked}
use Rattle.shop_model.specs.pages.Targets.{item_link, nav}

-- the page of an item that was just added, by its id and its title
unfoldable pub added_page : IdsAsked → ℕ → List ℕ → Page
added_page ids id title = record {
  status = 200;
  title = codes "Admin Add";
  blocks =
      Heading (codes "Item " ++ decimal id)
      ∷ Para title
      ∷ item_link (codes "/product_detail") id ids (codes "See it")
      ∷ nav ids;
}
