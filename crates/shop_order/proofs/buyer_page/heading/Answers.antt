use Rattle.std.proofs.Common.{append_assoc, codes, decimal, refl}
use Rattle.shop_text.proofs.cited.Plain.{escape_append}
use Rattle.shop_model.specs.pages.PageText.{block_text}
use Rattle.shop_draft.specs.Drawing.{id_at}
use Rattle.shop_order.proofs.buyer_page.heading.Goals as goal

pub returns : goal.returns
unfolding block_text
returns c drawn =
    rw (c.in_ok-put.ensures drawn, c.in_ok-id.ensures drawn, escape_append (codes "Customer ") (decimal (id_at drawn c.args.customer))) (simp append_assoc refl)
