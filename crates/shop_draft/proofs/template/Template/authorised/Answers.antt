use Rattle.std.proofs.Common.{codes, refl}
use Rattle.shop_model.specs.pages.PageText.{block_text}
use Rattle.shop_draft.proofs.cited.PageTexts.{one_value}
use Rattle.shop_draft.proofs.template.Template.authorised.Goals as goal

pub returns : goal.returns
unfolding block_text
returns c drawn =
    one_value (codes "<p>") (codes "Authorisation ") (codes "</p>") (codes "\n") _ _ _ c.args.auth.now refl
    (rw c.bytes.ensures.value at (c.in_ok-plain.ensures drawn)) (c.in_ok-put.ensures drawn)
