use Rattle.std.proofs.Common.{◌≤◌, length, drop, arith, length-drop}
use Rattle.shop_draft.specs.Templates.{head_room, front_len}
use Rattle.shop_draft.proofs.Splices.{filled-len}
use Rattle.shop_draft.proofs.template.Template.len.Goals as goal

pub returns : goal.returns
returns c =
    let bytes = c.self.inside.bytes in
    let within : front_len c.self.inside.gaps.items ≤ length (drop head_room bytes) =
    omega (arith, c.self.invariant.counted, c.self.invariant.within, length-drop head_room bytes) in
    rw (← c.self.view_is)
    (filled-len _ _ c.deref-gap-items.result.now c.loop-gap.len c.loop-gap.gap-index within
    c.deref-gap-items.ensures.value (omega arith) (rw (← c.self.view_is) at c.loop-gap.invariant.sum))
