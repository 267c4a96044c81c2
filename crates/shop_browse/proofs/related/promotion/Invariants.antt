use Rattle.std.proofs.Common.{map, take}
use Rattle.std.specs.List.{flat_map}
use Rattle.shop_model.specs.pages.PageText.{block_line}
use Rattle.shop_draft.specs.Drawing.{ids_at}
use Rattle.shop_draft.specs.Templates.{Adds}
use Rattle.shop_browse.specs.Related.{promoted_in}
use Rattle.shop_browse.proofs.related.promotion.Given as goal

-- the links so far were added
abbrev pub invariant-loop-item : goal.invariant-loop-item
invariant-loop-item l = Adds l.initial.page l.page (λ drawn. flat_map block_line (map (promoted_in l.names (ids_at drawn l.ids)) (take l.item-index l.items)))
