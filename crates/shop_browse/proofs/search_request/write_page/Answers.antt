use Rattle.std.proofs.Common.{◌∷◌, map, refl}
use Rattle.shop_model.specs.pages.PageText.{block_line}
use Rattle.shop_model.specs.pages.SearchRequest.{search_form}
use Rattle.shop_model.specs.pages.Targets.{nav}
use Rattle.shop_draft.specs.Drawing.{ids_at}
use Rattle.shop_draft.proofs.cited.PageTexts.{two, both, written}
use Rattle.shop_browse.specs.Related.{promoted_in}
use Rattle.shop_browse.specs.SearchRequest.{search_in}
use Rattle.shop_browse.proofs.search_request.write_page.Goals as goal

pub returns : goal.returns
unfolding search_in
returns c drawn =
    let ids = ids_at drawn c.args.ids in
    let items = c.args.items.now in
    let names = c.args.names in
    record {
      status = refl;
      text = written (search_in names ids items) _ _ _ (c.in_ok-begin.ensures drawn)
          (two _ _ _ _ _ (c.in_ok-heading.ensures drawn)
          (both block_line (map (promoted_in names ids) items) (search_form ids ∷ nav ids) _ _ _ (c.in_ok-promotion.ensures drawn)
          (two _ _ _ _ _ (c.in_ok-search_form.ensures drawn) (c.in_ok-nav.ensures drawn))))
          (c.in_ok-end.ensures drawn);
    }
