-- The links of lists, as they are kept.
use Rattle.std.specs.Prelude.{◌≡◌, List, map}
use Rattle.std.specs.List.{flat_map}
use Rattle.shop_model.specs.declared.requests.IdsAsked.{IdsAsked}
use Rattle.shop_model.specs.pages.PageText.{block_line}
use Rattle.shop_draft.specs.Links.{LinkTexts, links_with}
use Rattle.shop_cache.specs.declared.lines.ListLine.{ListLine}
use Rattle.shop_cache.specs.Lines.{line_in}

-- with whatever ids, they are the links of these lines
abbrev pub AreLinksOf : List ListLine → LinkTexts → Type 0
AreLinksOf lines links = (ids : IdsAsked) → links_with ids links ≡ flat_map block_line (map (line_in ids) lines)
