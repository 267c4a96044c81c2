use Rattle.std.proofs.Common.{refl, ◌≡◌, ◌∙◌, ap}
use Rattle.shop_model.specs.asked.AddAsked.{AddAsked}
use Rattle.shop_model.specs.pages.AdminAdd.{added_page}
use Rattle.shop_draft.specs.Drawing.{ids_at}
use Rattle.shop_draft.proofs.cited.PageTexts.{four, written}
use Rattle.shop_order.proofs.added_page.write_page.Goals as goal

pub returns : goal.returns
unfolding added_page
returns c drawn =
    let asked : AddAsked = c.args.asked.now in
    let ids_are : ids_at drawn c.of-ids.result ≡ asked.ids = c.of-ids.ensures drawn ∙ ap (λ (a : AddAsked). a.ids) c.asked.view_is in
    record {
      status = refl;
      text = written (added_page asked.ids c.args.id asked.title) _ _ _ (c.in_ok-begin.ensures drawn)
          (four _ _ _ _ _ _ _ _ _ (c.in_ok-heading.ensures drawn) (c.in_ok-title.ensures drawn) (rw ids_are at (c.in_ok-item_link.ensures drawn)) (rw ids_are at (c.in_ok-nav.ensures drawn)))
          (c.in_ok-end.ensures drawn);
    }
