use Rattle.std.proofs.Common.{append_assoc, refl}
use Rattle.shop_model.specs.pages.CustomerRegistration.{newcomer_form}
use Rattle.shop_model.specs.pages.PageText.{block_text, field_text}
use Rattle.shop_draft.proofs.template.Template.newcomer_form.Goals as goal

pub returns : goal.returns
unfolding block_text field_text newcomer_form
returns c drawn =
    rw (c.in_ok-put-2.ensures drawn, c.in_ok-id_fields.ensures drawn, c.in_ok-put.ensures drawn) (simp append_assoc refl)
