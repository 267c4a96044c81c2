use Rattle.std.proofs.Common.{map, take}
use Rattle.std.specs.List.{flat_map}
use Rattle.shop_model.specs.declared.tables.Tables.{Tables}
use Rattle.shop_model.specs.pages.PageText.{row_text}
use Rattle.shop_model.specs.pages.Priced.{line_cells}
use Rattle.shop_draft.specs.Templates.{Says}
use Rattle.shop_browse.specs.OrderDisplay.{HaveItems}
use Rattle.shop_browse.proofs.order_page.rows.Given as goal

-- the rows so far are those in tables whose titles are known
abbrev pub invariant-loop-line : goal.invariant-loop-line
invariant-loop-line l = (t : Tables) → HaveItems t l.names l.lines → Says l.initial.page l.page (flat_map row_text (map (line_cells t) (take l.line-index l.lines)))
