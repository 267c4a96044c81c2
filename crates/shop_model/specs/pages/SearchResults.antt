-- The page of Search Results.
use Rattle.std.specs.Prelude.{ℕ, List, [], ◌∷◌, ◌++◌, codes}
use Rattle.shop_model.specs.declared.page.Block.TheVariants.{Heading, Para}
use Rattle.shop_model.specs.declared.page.Page.{Page}
use Rattle.shop_model.specs.declared.requests.IdsAsked.{IdsAsked}
use Rattle.shop_model.specs.declared.requests.SearchKind.{SearchKind}
use Rattle.shop_model.specs.declared.tables.Tables.{Tables}
use Rattle.shop_model.specs.lists.Catalogues.{catalogue, found}
use Rattle.shop_model.specs.asked.Kinds.{kind_name}
use Rattle.shop_model.specs.pages.Lists.{list_page}

unfoldable pub search_results : Tables → SearchKind → List ℕ → IdsAsked → Page
search_results t kind text ids =
    list_page t ids (codes "Search Results")
    (Heading (codes "Search Results") ∷ Para (kind_name kind ++ codes ": " ++ text) ∷ [])
    (found (catalogue t) kind text)
