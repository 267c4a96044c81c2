use Rattle.std.proofs.Common.{refl, codes, ◌∷◌, []}
use Rattle.shop_model.specs.declared.page.Block.TheVariants.{Heading, Para}
use Rattle.shop_model.specs.pages.OrderDisplay.{no_order_page}
use Rattle.shop_model.specs.pages.PageText.{block_line}
use Rattle.shop_model.specs.pages.Targets.{nav}
use Rattle.shop_draft.specs.Drawing.{ids_at}
use Rattle.shop_draft.proofs.cited.PageTexts.{both, written}
use Rattle.shop_browse.proofs.order_page.no_order_page.Goals as goal

pub returns : goal.returns
unfolding no_order_page
returns c drawn =
    let ids = ids_at drawn c.args.ids in
    record {
      status = refl;
      text = written (no_order_page ids) _ _ _ (c.in_ok-begin.ensures drawn)
          (both block_line (Heading (codes "Orders") ∷ Para (codes "No order yet.") ∷ []) (nav ids) _ _ _ (c.in_ok-none.ensures drawn) (c.in_ok-nav.ensures drawn))
          (c.in_ok-end.ensures drawn);
    }
