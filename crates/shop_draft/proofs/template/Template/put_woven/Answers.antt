use Rattle.shop_draft.proofs.Splices.{adds_bytes}
use Rattle.shop_draft.proofs.template.Template.put_woven.Goals as goal

pub returns : goal.returns
returns c drawn =
    rw (← c.self.view_is) (adds_bytes _ _ _ _ _ _ c.self.invariant (rw (c.text.ensures, c.write.ensures) at c.in_ok-put_to.ensures.text) drawn)
