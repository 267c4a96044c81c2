-- How the pages of lists end.
use Rattle.std.specs.Prelude.{ℕ, List, ◌++◌}
use Rattle.std.specs.List.{flat_map}
use Rattle.shop_model.specs.declared.requests.IdsAsked.{IdsAsked}
use Rattle.shop_model.specs.pages.PageText.{block_line}
use Rattle.shop_model.specs.pages.Targets.{nav}
use Rattle.shop_cache.specs.declared.lines.ListLine.{ListLine}
use Rattle.shop_draft.specs.Pages.{page_end}
use Rattle.shop_browse.specs.Lists.{lines_in}

-- the text of a list behind its first blocks, to the end of its page
abbrev pub list_end : IdsAsked → List ListLine → List ℕ
list_end ids lines = flat_map block_line (lines_in ids lines) ++ (flat_map block_line (nav ids) ++ page_end)
