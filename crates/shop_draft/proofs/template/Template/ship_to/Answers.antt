use Rattle.std.proofs.Common.{codes, refl}
use Rattle.shop_model.specs.pages.OrderDisplay.{ship_text}
use Rattle.shop_model.specs.pages.PageText.{block_text}
use Rattle.shop_draft.proofs.cited.PageTexts.{two_values}
use Rattle.shop_draft.proofs.template.Template.ship_to.Goals as goal

pub returns : goal.returns
unfolding block_text ship_text
returns c drawn =
    two_values (codes "<p>") (codes "Ship to ") (codes ", ") (codes "</p>") (codes "\n") _ _ _ _ c.args.city.now c.args.country.now refl refl
    (c.in_ok-escaped.ensures drawn) (c.in_ok-escaped-2.ensures drawn) (c.in_ok-put.ensures drawn)
