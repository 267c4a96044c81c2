-- The page of Admin Confirm; this project's own wording of the TPC-W specification's interaction.
use Rattle.std.specs.Prelude.{ℕ, List, ◌∷◌, ◌++◌, map, Option, option_map, codes, decimal}
use Rattle.shop_text.specs.Texts.{cents_text, day_text}
use Rattle.shop_model.specs.declared.page.Block.TheVariants.{Heading, Para, Picture}
use Rattle.shop_model.specs.declared.page.Page.{Page}
use Rattle.shop_model.specs.declared.requests.IdsAsked.{IdsAsked}
use Rattle.shop_model.specs.declared.tables.Tables.{Tables}
use Rattle.shop_model.specs.rows.Lookups.{row_numbered}
use Rattle.shop_model.specs.rows.Rows.{ItemRow}
use Rattle.shop_model.specs.pages.Promotion.{promoted}
use Rattle.shop_model.specs.pages.Targets.{nav}

-- what it costs, and the day on which it is published
unfoldable pub mended_text : ℕ → ℕ → List ℕ
mended_text cost day = codes "Cost " ++ cents_text cost ++ codes ", published " ++ day_text day

-- the page of an item as it is now, with links to the items that are related to it
unfoldable pub mended_page : Tables → IdsAsked → ItemRow → Page
mended_page t ids item = record {
  status = 200;
  title = codes "Admin Confirm";
  blocks =
      Heading (codes "Item " ++ decimal item.id)
      ∷ Para (mended_text item.cost item.published)
      ∷ Picture item.image item.title
      ∷ Picture item.thumb item.title
      ∷ map (promoted t ids) item.related
      ++ nav ids;
}

-- the page of the item with a number, if there is one
abbrev pub admin_confirm : Tables → ℕ → IdsAsked → Option Page
admin_confirm t number ids = option_map (mended_page t ids) (row_numbered t.items number)
