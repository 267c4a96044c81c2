use Rattle.std.proofs.Common.{◌≡◌, map, take}
use Rattle.std.specs.List.{flat_map}
use Rattle.shop_model.specs.declared.requests.IdsAsked.{IdsAsked}
use Rattle.shop_model.specs.pages.PageText.{block_line}
use Rattle.shop_draft.specs.Links.{links_with}
use Rattle.shop_cache.specs.Lines.{line_in}
use Rattle.shop_cache.proofs.lines.links_of.Given as goal

-- the links of the lines so far
abbrev pub invariant-loop-line : goal.invariant-loop-line
invariant-loop-line l = (ids : IdsAsked) → links_with ids l.links ≡ flat_map block_line (map (line_in ids) (take l.line-index l.lines))
