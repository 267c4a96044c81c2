-- The promotion: items that are related to a drawn one.
use Rattle.std.specs.Prelude.{ℕ, ◌+◌, ◌%◌, List, length, map, codes}
use Rattle.shop_model.specs.declared.page.Block.{Block}
use Rattle.shop_model.specs.declared.requests.IdsAsked.{IdsAsked}
use Rattle.shop_model.specs.declared.tables.Tables.{Tables}
use Rattle.shop_model.specs.rows.Lookups.{title_of, related_of}
use Rattle.shop_model.specs.pages.Targets.{item_link}

-- a link to the page of an item, labelled with its title
unfoldable pub promoted : Tables → IdsAsked → ℕ → Block
promoted tables ids item = item_link (codes "/product_detail") item ids (title_of tables item)

-- the promotion: the items that are related to a drawn one
unfoldable pub promo : Tables → IdsAsked → ℕ → List Block
promo tables ids draw = map (promoted tables ids) (related_of tables (1 + draw % length tables.items))
