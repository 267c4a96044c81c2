use Rattle.std.proofs.Common.{refl}
use Rattle.shop_model.specs.pages.PageText.{block_line}
use Rattle.shop_model.specs.pages.ProductDetail.{product_page, details}
use Rattle.shop_model.specs.pages.Targets.{nav}
use Rattle.shop_draft.specs.Drawing.{ids_at}
use Rattle.shop_draft.proofs.cited.PageTexts.{five, both, written}
use Rattle.shop_browse.proofs.product_detail.write_page.Goals as goal

pub returns : goal.returns
unfolding product_page
returns c drawn =
    let item = c.args.item.now in
    let ids = ids_at drawn c.args.ids in
    record {
      status = refl;
      text = written (product_page item c.args.author.now ids) _ _ _ (c.in_ok-begin.ensures drawn)
          (five _ _ _ _ _ _ _ _ _ _ _ (c.in_ok-heading.ensures drawn) (c.in_ok-author_line.ensures drawn) (c.in_ok-subject_line.ensures drawn) (c.in_ok-about_line.ensures drawn)
          (both block_line (details item ids) (nav ids) _ _ _ (c.in_ok-details.ensures drawn) (c.in_ok-nav.ensures drawn)))
          (c.in_ok-end.ensures drawn);
    }
