use Rattle.shop_draft.proofs.Splices.{adds_bytes}
use Rattle.shop_draft.proofs.template.Template.put.Goals as goal

pub returns : goal.returns
returns g c drawn = rw (← c.self.view_is) (adds_bytes _ _ _ _ _ _ c.self.invariant c.in_ok-put_array.ensures.ok drawn)
