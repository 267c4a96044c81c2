use Rattle.std.proofs.Common.{refl, codes}
use Rattle.shop_text.specs.Texts.{day_text}
use Rattle.shop_model.specs.pages.PageText.{block_text}
use Rattle.shop_model.specs.pages.ProductDetail.{subject_line}
use Rattle.shop_model.specs.rows.Subjects.{subject_name}
use Rattle.shop_draft.proofs.cited.PageTexts.{three_values}
use Rattle.shop_browse.proofs.product_detail.subject_line.Goals as goal

pub returns : goal.returns
unfolding block_text subject_line
returns c drawn =
    rw (← c.item.view_is, ← c.get-details.ensures)
    (three_values (codes "<p>") (codes "Subject ") (codes ", published ") (codes " by ") (codes "</p>") (codes "\n") _ _ _ _ _
    (subject_name c.get-details.result.now.subject) (day_text c.item.inside.published) c.get-details.result.now.publisher refl refl refl
    (rw c.name.ensures.name at (c.in_ok-plain.ensures drawn)) (c.in_ok-day.ensures drawn) (c.in_ok-text.ensures drawn) (c.in_ok-put.ensures drawn))
