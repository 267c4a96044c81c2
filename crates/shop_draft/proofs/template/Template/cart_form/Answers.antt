use Rattle.std.proofs.Common.{append_assoc, refl}
use Rattle.std.proofs.lemmas.Grind.{flat_map-append}
use Rattle.shop_model.specs.pages.PageText.{block_text}
use Rattle.shop_draft.proofs.template.Template.cart_form.Goals as goal

pub returns : goal.returns
unfolding block_text
returns c drawn =
    rw (c.in_ok-put-2.ensures drawn, c.in_ok-id_fields.ensures drawn, c.in_ok-line_fields.ensures drawn, c.in_ok-put.ensures drawn)
    (simp (append_assoc, flat_map-append) refl)
