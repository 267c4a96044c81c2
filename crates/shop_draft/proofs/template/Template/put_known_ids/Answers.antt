use Rattle.shop_draft.proofs.Splices.{adds_bytes}
use Rattle.shop_draft.proofs.Tails.{at_known}
use Rattle.shop_draft.proofs.template.Template.put_known_ids.Goals as goal

pub put_to-requires : goal.put_to-requires
put_to-requires c = rw (c.keep.ensures c.if-not-keep.false) at c.requires

pub returns-clause-added : goal.returns-clause-added
returns-clause-added c known drawn =
    let kept = c.keep.new.self in
    rw (c.keep.ensures c.if-not-keep.false, at_known drawn kept.c kept.cart, ← c.self.view_is)
    (adds_bytes _ _ _ _ _ _ c.self.invariant c.in_ok-put_to.ensures.ok drawn)
