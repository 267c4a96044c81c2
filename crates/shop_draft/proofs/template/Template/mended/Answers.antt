use Rattle.std.proofs.Common.{codes, refl}
use Rattle.shop_text.specs.Texts.{cents_text, day_text}
use Rattle.shop_model.specs.pages.AdminConfirm.{mended_text}
use Rattle.shop_model.specs.pages.PageText.{block_text}
use Rattle.shop_draft.specs.Drawing.{day_after, hole_text}
use Rattle.shop_draft.proofs.cited.PageTexts.{two_values}
use Rattle.shop_draft.proofs.template.Template.mended.Goals as goal

pub returns : goal.returns
unfolding block_text mended_text hole_text
returns c drawn =
    two_values (codes "<p>") (codes "Cost ") (codes ", published ") (codes "</p>") (codes "\n") _ _ _ _
    (cents_text c.args.cost) (day_text (day_after drawn.stamp 0)) refl refl
    (c.in_ok-money.ensures drawn) (c.in_ok-hole.ensures drawn) (c.in_ok-put.ensures drawn)
