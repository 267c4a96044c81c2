use Rattle.std.proofs.Common.{append_assoc, refl}
use Rattle.shop_model.specs.pages.PageText.{block_text}
use Rattle.shop_order.proofs.table.table.Goals as goal

pub returns : goal.returns
unfolding block_text
returns c t shows drawn =
    rw (c.in_ok-put-2.ensures drawn, c.in_ok-rows.ensures t shows drawn, c.in_ok-put.ensures drawn) (simp append_assoc refl)
