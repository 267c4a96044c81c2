use Rattle.std.proofs.Common.{get_or}
use Rattle.std.proofs.lemmas.List.{get_or_default}
use Rattle.shop_draft.specs.Drawing.{ids_at}
use Rattle.shop_browse.specs.Related.{promoted_in}
use Rattle.shop_draft.proofs.cited.PageTexts.{blocks_more}
use Rattle.shop_browse.proofs.related.promotion.Goals as goal

pub loop-item-preserved : goal.loop-item-preserved
loop-item-preserved c drawn =
    let items = c.args.items.now in
    let at = c.loop-item.item-index in
    let within = c.loop-item-test.true in
    blocks_more (promoted_in c.args.names (ids_at drawn c.args.ids)) items at (get_or items at 0) _ _ _
    within (get_or_default items at 0 (get_or items at 0) within) (c.loop-item.invariant drawn) (c.in_ok-promoted.ensures drawn)
