use Rattle.std.proofs.Common.{arith}
use Rattle.shop_draft.proofs.Splices.{filled-put}
use Rattle.shop_draft.proofs.template.Template.fill.Goals as goal

pub returns : goal.returns
returns c =
    rw (← c.self.view_is)
    (filled-put _ _ c.deref-gap-items.result.now c.loop-gap.gap-index _ _ _ _ c.deref-gap-items.ensures.value (omega arith)
    (rw (← c.self.view_is) at c.loop-gap.invariant.bytes) c.put-2.ensures.bytes)
