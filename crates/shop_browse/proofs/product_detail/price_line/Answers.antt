use Rattle.std.proofs.Common.{refl, codes, decimal}
use Rattle.shop_text.specs.Texts.{cents_text}
use Rattle.shop_model.specs.pages.PageText.{block_text}
use Rattle.shop_model.specs.pages.ProductDetail.{price_line}
use Rattle.shop_draft.proofs.cited.PageTexts.{three_values}
use Rattle.shop_browse.proofs.product_detail.price_line.Goals as goal

pub returns : goal.returns
unfolding block_text price_line
returns c drawn =
    rw (← c.item.view_is, ← c.get-details.ensures)
    (three_values (codes "<p>") (codes "List ") (codes ", our price ") (codes ", in stock ") (codes "</p>") (codes "\n") _ _ _ _ _
    (cents_text c.get-details.result.now.srp) (cents_text c.get-details.result.now.cost) (decimal c.item.inside.stock) refl refl refl
    (c.in_ok-money.ensures drawn) (c.in_ok-money-2.ensures drawn) (rw c.from.ensures at (c.in_ok-number.ensures drawn)) (c.in_ok-put.ensures drawn))
