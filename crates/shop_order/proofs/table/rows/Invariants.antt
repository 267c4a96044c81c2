use Rattle.std.proofs.Common.{map, take}
use Rattle.std.specs.List.{flat_map}
use Rattle.shop_model.specs.declared.tables.Tables.{Tables}
use Rattle.shop_model.specs.pages.ShoppingCart.{line_cells}
use Rattle.shop_model.specs.pages.PageText.{row_text}
use Rattle.shop_draft.specs.Templates.{Says}
use Rattle.shop_attempt.specs.Reads.{Shows}
use Rattle.shop_order.proofs.table.rows.Given as goal

-- the rows so far are those in tables that show the items
abbrev pub invariant-loop-place : goal.invariant-loop-place
invariant-loop-place l = (t : Tables) → Shows t l.items → Says l.initial.page l.page (flat_map row_text (map (line_cells t) (take l.place l.lines)))
