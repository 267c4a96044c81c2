use Rattle.std.proofs.Common.{decimal, refl}
use Rattle.shop_text.proofs.cited.Plain.{plain_spelled}
use Rattle.shop_draft.proofs.template.Template.put_known_user.Goals as goal

pub returns : goal.returns
returns c drawn =
    rw (plain_spelled (decimal c.args.customer), c.in_ok-put_spelled.ensures drawn, c.as_bytes.ensures.value, c.format.ensures.text) refl
