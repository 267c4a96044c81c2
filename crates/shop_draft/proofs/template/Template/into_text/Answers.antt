use Rattle.std.proofs.Common.{arith}
use Rattle.shop_draft.specs.Templates.{head_room}
use Rattle.shop_draft.proofs.Heads.{both_are}
use Rattle.shop_draft.proofs.template.Template.into_text.Goals as goal

pub returns : goal.returns
returns c = rw (c.into_text.ensures, ← c.self.view_is) (both_are _ _ head_room c.self.invariant.head (omega (arith, c.self.invariant.within)))
