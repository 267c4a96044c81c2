use Rattle.std.proofs.Common.{arith, length-drop}
use Rattle.shop_draft.specs.Templates.{head_room}
use Rattle.shop_draft.proofs.template.Template.text_len.Goals as goal

pub returns : goal.returns
returns c = rw (← c.self.view_is) (omega (arith, c.len.ensures, length-drop head_room c.self.inside.bytes))
