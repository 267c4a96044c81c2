use Rattle.std.proofs.Common.{codes, decimal, refl}
use Rattle.shop_model.specs.pages.PageText.{field_text}
use Rattle.shop_draft.proofs.cited.PageTexts.{counted_field}
use Rattle.shop_draft.proofs.template.Template.line_field.Goals as goal

pub returns : goal.returns
unfolding field_text
returns c drawn =
    counted_field (codes "<input name=\"") (codes "qty_") (codes "\" value=\"") (codes "\">") _ _ _ _
    (decimal c.args.line.0) (decimal c.args.line.1) refl
    (rw c.from.ensures at (c.in_ok-number.ensures drawn)) (rw c.from-2.ensures at (c.in_ok-number-2.ensures drawn)) (c.in_ok-put.ensures drawn)
