use Rattle.std.proofs.Common.{refl}
use Rattle.shop_model.specs.pages.AdminRequest.{admin_page}
use Rattle.shop_draft.specs.Drawing.{ids_at}
use Rattle.shop_draft.proofs.cited.PageTexts.{five, written}
use Rattle.shop_browse.proofs.admin_request.write_page.Goals as goal

pub returns : goal.returns
unfolding admin_page
returns c drawn = record {
  status = refl;
  text = written (admin_page c.args.item.now (ids_at drawn c.args.ids)) _ _ _ (c.in_ok-begin.ensures drawn)
      (five _ _ _ _ _ _ _ _ _ _ _ (c.in_ok-heading.ensures drawn) (c.in_ok-title.ensures drawn) (c.in_ok-picture.ensures drawn) (c.in_ok-admin_form.ensures drawn) (c.in_ok-nav.ensures drawn))
      (c.in_ok-end.ensures drawn);
}
