use Rattle.std.proofs.Common.{arith}
use Rattle.shop_text.proofs.cited.Plain.{plain_decimal}
use Rattle.shop_draft.proofs.Splices.{adds_bytes}
use Rattle.shop_draft.proofs.template.Template.put_number.Goals as goal

pub returns : goal.returns
returns c drawn =
    rw (plain_decimal c.args.number (omega arith), ← c.self.view_is) (adds_bytes _ _ _ _ _ _ c.self.invariant c.in_ok-put_number.ensures.ok drawn)
