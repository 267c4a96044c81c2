-- The page of Search Request; this project's own wording of the TPC-W specification's interaction.
use Rattle.std.specs.Prelude.{ℕ, [], ◌∷◌, ◌++◌, codes}
use Rattle.shop_model.specs.declared.page.Block.{Block}
use Rattle.shop_model.specs.declared.page.Block.TheVariants.{Heading, Form}
use Rattle.shop_model.specs.declared.page.Page.{Page}
use Rattle.shop_model.specs.declared.requests.IdsAsked.{IdsAsked}
use Rattle.shop_model.specs.declared.tables.Tables.{Tables}
use Rattle.shop_model.specs.pages.Targets.{id_fields, nav}
use Rattle.shop_model.specs.pages.Promotion.{promo}

-- the form of a search by title
unfoldable pub search_form : IdsAsked → Block
search_form ids =
    Form
    (codes "/search_results")
    (record { name = codes "kind"; value = codes "title" }
    ∷ record { name = codes "text"; value = [] }
    ∷ id_fields ids)

-- Search Request doesn't look at the customer
unfoldable pub search_request : Tables → IdsAsked → ℕ → Page
search_request tables ids draw = record {
  status = 200;
  title = codes "Search Request";
  blocks = Heading (codes "Search") ∷ promo tables ids draw ++ search_form ids ∷ nav ids;
}
