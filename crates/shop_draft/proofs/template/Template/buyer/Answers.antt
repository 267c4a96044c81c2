use Rattle.std.proofs.Common.{codes, decimal, refl}
use Rattle.shop_model.specs.pages.BuyRequest.{buyer_text}
use Rattle.shop_model.specs.pages.PageText.{block_text}
use Rattle.shop_draft.specs.Drawing.{user_at}
use Rattle.shop_draft.proofs.cited.PageTexts.{named_values}
use Rattle.shop_draft.proofs.template.Template.buyer.Goals as goal

pub returns : goal.returns
unfolding block_text buyer_text
returns c drawn row is =
    rw (is.user_is, is.named.first_is, is.named.last_is, is.discount_is)
    (named_values (codes "<p>") (codes "User ") (codes ", ") (codes " ") (codes ", discount ") (codes "</p>") (codes "\n") _ _ _ _ _ _
    (user_at drawn c.args.customer) c.args.first.now c.args.last.now (decimal c.args.discount) refl refl refl refl
    (c.in_ok-user.ensures drawn) (c.in_ok-escaped.ensures drawn) (c.in_ok-escaped-2.ensures drawn)
    (rw c.from.ensures at (c.in_ok-number.ensures drawn)) (c.in_ok-put.ensures drawn))
