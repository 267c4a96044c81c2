use Rattle.std.proofs.Common.{map, refl, ◌∙◌, ap}
use Rattle.shop_model.specs.pages.AdminConfirm.{mended_page}
use Rattle.shop_model.specs.pages.Promotion.{promoted}
use Rattle.shop_model.specs.pages.PageText.{block_line}
use Rattle.shop_model.specs.pages.Targets.{nav}
use Rattle.shop_model.specs.rows.Rows.{ItemRow}
use Rattle.shop_draft.proofs.cited.PageTexts.{both, five, written}
use Rattle.shop_browse.proofs.cited.Names.{links_are}
use Rattle.shop_order.specs.AdminConfirm.{published_at}
use Rattle.shop_order.proofs.mended_page.write_page.Goals as goal

pub returns : goal.returns
unfolding mended_page
returns c t named drawn =
    let item = c.args.item.now in
    let ids = c.args.ids in
    let related_is = ap (λ d. d.related) c.get.ensures ∙ ap (λ (i : ItemRow). i.related) c.item.view_is in
    let links = links_are c.args.names t ids item.related named in
    record {
      status = refl;
      text = written (mended_page t ids (published_at drawn.stamp item)) _ _ _ (c.in_ok-begin.ensures drawn)
          (five _ _ _ _ _ _ _ _ _ _ _ (c.in_ok-heading.ensures drawn) (c.in_ok-cost.ensures drawn) (c.in_ok-image.ensures drawn) (c.in_ok-thumb.ensures drawn)
          (both block_line (map (promoted t ids) item.related) (nav ids) _ _ _
          (rw links at (rw related_is at (rw (c.of-ids.ensures drawn) at (c.in_ok-promotion.ensures drawn))))
          (rw (c.of-ids.ensures drawn) at (c.in_ok-nav.ensures drawn))))
          (c.in_ok-end.ensures drawn);
    }
