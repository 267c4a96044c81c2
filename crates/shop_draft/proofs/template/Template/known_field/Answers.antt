use Rattle.std.proofs.Common.{codes}
use Rattle.shop_model.specs.pages.PageText.{field_text}
use Rattle.shop_draft.proofs.cited.PageTexts.{named_field}
use Rattle.shop_draft.proofs.template.Template.known_field.Goals as goal

pub returns : goal.returns
unfolding field_text
returns c drawn =
    named_field (codes "<input name=\"") (codes "\" value=\"") (codes "\">") _ _ _ _ _ c.args.name.now _ c.requires
    (c.in_ok-put.ensures drawn) (c.in_ok-put_bytes.ensures drawn) (c.in_ok-id.ensures drawn) (c.in_ok-put-2.ensures drawn)
