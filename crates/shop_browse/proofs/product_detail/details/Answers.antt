use Rattle.std.proofs.Common.{append_assoc, append-nil, refl}
use Rattle.shop_model.specs.pages.ProductDetail.{details}
use Rattle.shop_browse.proofs.product_detail.details.Goals as goal

pub returns : goal.returns
unfolding details
returns c drawn =
    rw (
      c.in_ok-item_link.ensures drawn,
      c.in_ok-price_line.ensures drawn,
      c.in_ok-pages_line.ensures drawn,
      c.in_ok-picture.ensures drawn,
      ← c.item.view_is,
    )
    (simp (append_assoc, append-nil) refl)
