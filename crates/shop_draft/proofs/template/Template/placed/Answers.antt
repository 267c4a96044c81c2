use Rattle.std.proofs.Common.{codes, refl}
use Rattle.shop_text.specs.Texts.{day_text}
use Rattle.shop_model.specs.pages.OrderDisplay.{placed_text}
use Rattle.shop_model.specs.pages.PageText.{block_text}
use Rattle.shop_model.specs.rows.Limits.{day_of}
use Rattle.shop_model.specs.rows.Subjects.{state_name}
use Rattle.shop_draft.proofs.cited.PageTexts.{three_values}
use Rattle.shop_draft.proofs.template.Template.placed.Goals as goal

pub returns : goal.returns
unfolding block_text placed_text
returns c drawn =
    rw (← c.order.view_is)
    (three_values (codes "<p>") (codes "Placed ") (codes ", ships ") (codes ", status ") (codes "</p>") (codes "\n") _ _ _ _ _
    (day_text (day_of c.order.inside.placed)) (day_text c.order.inside.ship_day) (state_name c.order.inside.status) refl refl refl
    (c.in_ok-day.ensures drawn) (c.in_ok-day-2.ensures drawn) (rw c.name.ensures.name at (c.in_ok-plain.ensures drawn)) (c.in_ok-put.ensures drawn))
