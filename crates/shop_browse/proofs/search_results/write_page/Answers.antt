use Rattle.std.proofs.Common.{◌≡◌, codes, refl, ap, subst}
use Rattle.shop_model.specs.asked.SearchAsked.{SearchAsked}
use Rattle.shop_model.specs.declared.requests.IdsAsked.{IdsAsked}
use Rattle.shop_model.specs.pages.PageText.{page_text}
use Rattle.shop_draft.specs.Templates.{filled}
use Rattle.shop_browse.specs.Lists.{page_in, head_of}
use Rattle.shop_browse.proofs.ListsLemmas.{list_written}
use Rattle.shop_browse.proofs.search_results.write_page.Goals as goal

pub returns : goal.returns
returns c drawn =
    let asked = c.args.asked.now in
    let title = codes "Search Results" in
    record {
      status = refl;
      text = subst (λ (ids : IdsAsked). filled drawn c.finish.new.page ≡ page_text (page_in ids title (head_of asked) c.args.lines.now)) (ap (λ (a : SearchAsked). a.ids) c.asked.view_is)
          (list_written _ title (head_of asked) c.args.lines.now _ _ _ (c.in_ok-begin.ensures drawn) (c.in_ok-heading.ensures drawn) (c.in_ok-finish.ensures drawn));
    }
