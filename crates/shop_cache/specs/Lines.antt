-- The lines of lists, and the links to the pages of their items.
use Rattle.std.specs.Prelude.{codes}
use Rattle.shop_model.specs.declared.page.Block.{Block}
use Rattle.shop_model.specs.declared.requests.IdsAsked.{IdsAsked}
use Rattle.shop_model.specs.pages.Lists.{line_label}
use Rattle.shop_model.specs.pages.Targets.{item_link}
use Rattle.shop_cache.specs.declared.lines.ListLine.{ListLine}

-- a link to the page of the item on a line
abbrev pub line_in : IdsAsked → ListLine → Block
line_in ids line = item_link (codes "/product_detail") line.item ids (line_label line.label.title line.label.first line.label.last)
