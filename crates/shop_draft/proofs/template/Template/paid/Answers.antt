use Rattle.std.proofs.Common.{codes, refl}
use Rattle.shop_model.specs.pages.OrderDisplay.{paid_text}
use Rattle.shop_model.specs.pages.PageText.{block_text}
use Rattle.shop_model.specs.rows.Subjects.{card_name}
use Rattle.shop_draft.proofs.cited.PageTexts.{two_values}
use Rattle.shop_draft.proofs.template.Template.paid.Goals as goal

pub returns : goal.returns
unfolding block_text paid_text
returns c drawn =
    rw (← c.card.view_is)
    (two_values (codes "<p>") (codes "Card ") (codes ", authorisation ") (codes "</p>") (codes "\n") _ _ _ _
    (card_name c.card.inside.card) c.card.inside.auth refl refl
    (rw c.name.ensures.name at (c.in_ok-plain.ensures drawn)) (rw c.bytes.ensures.value at (c.in_ok-plain-2.ensures drawn))
    (c.in_ok-put.ensures drawn))
