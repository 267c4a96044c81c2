use Rattle.std.proofs.Common.{◌-◌, length, arith, ap}
use Rattle.shop_draft.specs.Templates.{head_room, filled, spliced}
use Rattle.shop_draft.proofs.Heads.{head_is, text_is}
use Rattle.shop_draft.proofs.template.Template.put_before.Goals as goal

pub returns-clause-head : goal.returns-clause-head
returns-clause-head c =
    let head = c.args.head.now in
    rw c.write_at.ensures
    (head_is c.self.inside.bytes head (head_room - length head) head_room (omega (arith, c.requires)) (omega (arith, c.self.invariant.within)))

pub returns-clause-text : goal.returns-clause-text
returns-clause-text c =
    let head = c.args.head.now in
    rw (c.write_at.ensures, ← c.self.view_is)
    (text_is c.self.inside.bytes head (head_room - length head) head_room (omega (arith, c.requires)) (omega (arith, c.self.invariant.within)))

pub returns-clause-same : goal.returns-clause-same
unfolding filled
returns-clause-same c drawn =
    let head = c.args.head.now in
    rw (c.write_at.ensures, ← c.self.view_is)
    (ap (spliced drawn c.self.inside.gaps.items)
    (text_is c.self.inside.bytes head (head_room - length head) head_room (omega (arith, c.requires)) (omega (arith, c.self.invariant.within))))
