use Rattle.std.proofs.Common.{arith}
use Rattle.shop_draft.proofs.Splices.{adds_gap}
use Rattle.shop_draft.proofs.template.Template.put_gap.Goals as goal

pub returns : goal.returns
returns c drawn =
    rw (← c.self.view_is)
    (adds_gap _ _ _ _ _ _ c.self.invariant (omega (arith, c.self.invariant.within, c.len-end.ensures)) c.in_ok-push.ensures.items drawn)
