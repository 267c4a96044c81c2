use Rattle.std.proofs.Common.{append_assoc, refl}
use Rattle.shop_model.specs.pages.PageText.{block_text}
use Rattle.shop_model.specs.pages.Priced.{lines_table}
use Rattle.shop_browse.proofs.order_page.table.Goals as goal

pub returns : goal.returns
unfolding block_text lines_table
returns c t items drawn =
    rw (c.in_ok-put-2.ensures drawn, c.in_ok-rows.ensures t items drawn, c.in_ok-put.ensures drawn) (simp append_assoc refl)
