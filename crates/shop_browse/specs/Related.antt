-- Links to the items that are related to one, by what is known of them.
use Rattle.std.specs.Prelude.{ℕ, List, [], codes}
use Rattle.shop_model.specs.declared.page.Block.{Block}
use Rattle.shop_model.specs.declared.requests.IdsAsked.{IdsAsked}
use Rattle.shop_model.specs.pages.Targets.{item_link}
use Rattle.shop_history.specs.declared.keys.Row.{Row}
use Rattle.shop_history.specs.declared.keys.Row.TheVariants as row
use Rattle.shop_browse.specs.declared.names.Names.{Names}
use Rattle.shop_browse.specs.Names.{title_in}

-- a link to the page of an item, labelled with its title
abbrev pub promoted_in : Names → IdsAsked → ℕ → Block
promoted_in names ids item = item_link (codes "/product_detail") item ids (title_in names item)

-- the items that are related to the one in a row
abbrev pub related_in : Row → List ℕ
related_in (row.Item item) = item.related
related_in _ = []
