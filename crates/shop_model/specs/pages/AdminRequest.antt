-- The page of Admin Request; this project's own wording of the TPC-W specification's interaction.
use Rattle.std.specs.Prelude.{ℕ, ◌∷◌, ◌++◌, Option, option_map, codes, decimal}
use Rattle.shop_model.specs.declared.page.Block.{Block}
use Rattle.shop_model.specs.declared.page.Block.TheVariants.{Heading, Para, Picture, Form}
use Rattle.shop_model.specs.declared.page.Page.{Page}
use Rattle.shop_model.specs.declared.requests.IdsAsked.{IdsAsked}
use Rattle.shop_model.specs.declared.tables.Tables.{Tables}
use Rattle.shop_model.specs.rows.Lookups.{row_numbered}
use Rattle.shop_model.specs.rows.Rows.{ItemRow}
use Rattle.shop_model.specs.pages.Forms.{text_field}
use Rattle.shop_model.specs.pages.Targets.{number_field, id_fields, nav}

-- the form in which an item is changed; its cost is in cents
unfoldable pub admin_form : ItemRow → IdsAsked → Block
admin_form item ids =
    Form (codes "/admin_confirm")
    (number_field (codes "item") item.id
    ∷ number_field (codes "cost") item.cost
    ∷ text_field (codes "image") item.image
    ∷ text_field (codes "thumb") item.thumb
    ∷ id_fields ids)

unfoldable pub admin_page : ItemRow → IdsAsked → Page
admin_page item ids = record {
  status = 200;
  title = codes "Admin Request";
  blocks =
      Heading (codes "Item " ++ decimal item.id)
      ∷ Para item.title
      ∷ Picture item.image item.title
      ∷ admin_form item ids
      ∷ nav ids;
}

-- the page of the item with a number, if there is one
abbrev pub admin_request : Tables → ℕ → IdsAsked → Option Page
admin_request t number ids = option_map (λ item. admin_page item ids) (row_numbered t.items number)
