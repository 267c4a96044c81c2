use Rattle.std.proofs.Common.{map, refl}
use Rattle.std.specs.Prelude.{option_copied}
use Rattle.shop_model.specs.pages.PageText.{block_line}
use Rattle.shop_model.specs.pages.Home.{greetings}
use Rattle.shop_model.specs.pages.Targets.{nav}
use Rattle.shop_draft.specs.Drawing.{ids_at}
use Rattle.shop_draft.proofs.cited.PageTexts.{two, written}
use Rattle.shop_browse.specs.Home.{home_in}
use Rattle.shop_browse.specs.Related.{promoted_in}
use Rattle.shop_browse.proofs.HomeLemmas.{four_parts}
use Rattle.shop_browse.proofs.home.write_page.Goals as goal

pub returns : goal.returns
unfolding home_in
returns c drawn =
    let ids = ids_at drawn c.args.ids in
    let names = c.args.names in
    let draw = c.args.draw in
    let items = c.args.items.now in
    record {
      status = refl;
      text = written (home_in names draw ids (option_copied c.args.customer) items) _ _ _ (c.in_ok-begin.ensures drawn)
          (two _ _ _ _ _ (c.in_ok-heading.ensures drawn)
          (four_parts block_line (greetings (option_copied c.args.customer)) (map (promoted_in names ids) items) _ (nav ids) _ _ _ _ _
          (c.in_ok-greetings.ensures drawn) (c.in_ok-promotion.ensures drawn)
          (rw c.picked.ensures at (c.in_ok-subject_links.ensures drawn)) (c.in_ok-nav.ensures drawn)))
          (c.in_ok-end.ensures drawn);
    }
