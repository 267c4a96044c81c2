use Rattle.std.proofs.Common.{[]}
use Rattle.shop_draft.proofs.cited.PageTexts.{blocks_more}
use Rattle.shop_cache.specs.Lines.{line_in}
use Rattle.shop_cache.proofs.lines.links_of.Goals as goal

pub loop-line-preserved : goal.loop-line-preserved
loop-line-preserved c ids =
    blocks_more (line_in ids) c.args.lines.now c.loop-line.line-index c.line-item.result [] _ _
    c.loop-line-test.true c.line-item.is (c.loop-line.invariant ids) (rw (c.title.ensures, c.first.ensures, c.last.ensures) at (c.in_ok-push.ensures ids))
