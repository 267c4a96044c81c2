use Rattle.std.proofs.Common.{codes, decimal, refl}
use Rattle.shop_text.specs.Texts.{day_text}
use Rattle.shop_model.specs.pages.BuyConfirm.{ships_text}
use Rattle.shop_model.specs.pages.PageText.{block_text}
use Rattle.shop_draft.specs.Drawing.{day_after, hole_text}
use Rattle.shop_draft.proofs.cited.PageTexts.{two_values}
use Rattle.shop_draft.proofs.template.Template.ships.Goals as goal

pub returns : goal.returns
unfolding block_text ships_text hole_text
returns c drawn =
    two_values (codes "<p>") (codes "Customer ") (codes ", ships ") (codes "</p>") (codes "\n") _ _ _ _
    (decimal c.args.customer) (day_text (day_after drawn.stamp c.args.later)) refl refl
    (rw c.from.ensures at (c.in_ok-number.ensures drawn)) (c.in_ok-hole.ensures drawn) (c.in_ok-put.ensures drawn)
