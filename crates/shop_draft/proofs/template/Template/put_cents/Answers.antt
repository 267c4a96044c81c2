use Rattle.std.proofs.Common.{arith}
use Rattle.shop_text.proofs.cited.Plain.{plain_cents}
use Rattle.shop_draft.proofs.Splices.{adds_bytes}
use Rattle.shop_draft.proofs.template.Template.put_cents.Goals as goal

pub returns : goal.returns
returns c drawn =
    rw (plain_cents c.args.cents (omega arith), ← c.self.view_is) (adds_bytes _ _ _ _ _ _ c.self.invariant c.in_ok-put_cents.ensures.ok drawn)
