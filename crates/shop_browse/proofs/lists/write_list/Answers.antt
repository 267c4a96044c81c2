use Rattle.std.proofs.Common.{◌≡◌, Some, sym, ap, ◌∙◌, subst}
use Rattle.shop_model.specs.declared.page.Page.{Page}
use Rattle.shop_model.specs.declared.requests.Request.{Request}
use Rattle.shop_draft.specs.Pages.{Shows}
use Rattle.shop_browse.specs.Lists.{new_page, best_page, found_page, page_by}
use Rattle.shop_browse.proofs.lists.write_list.Goals as goal

pub returns-in_ok-write_page-in-NewProducts : goal.returns-in_ok-write_page-in-NewProducts
returns-in_ok-write_page-in-NewProducts c page is =
    let shows : Some (new_page c.in-NewProducts.asked c.args.lines.now) ≡ Some page = sym (ap (λ (r : Request). page_by r c.args.lines.now) c.in-NewProducts.is) ∙ is in
    let same : new_page c.in-NewProducts.asked c.args.lines.now ≡ page = cc in
    subst (λ (p : Page). Shows c.write_page.new.draft (λ drawn. p)) same c.in_ok-write_page-in-NewProducts.ensures

pub returns-in_ok-write_page-in-BestSellers : goal.returns-in_ok-write_page-in-BestSellers
returns-in_ok-write_page-in-BestSellers c page is =
    let shows : Some (best_page c.in-BestSellers.asked c.args.lines.now) ≡ Some page = sym (ap (λ (r : Request). page_by r c.args.lines.now) c.in-BestSellers.is) ∙ is in
    let same : best_page c.in-BestSellers.asked c.args.lines.now ≡ page = cc in
    subst (λ (p : Page). Shows c.write_page-in-BestSellers.new.draft (λ drawn. p)) same c.in_ok-write_page-in-BestSellers.ensures

pub returns-in_ok-write_page-in-SearchResults : goal.returns-in_ok-write_page-in-SearchResults
returns-in_ok-write_page-in-SearchResults c page is =
    let shows : Some (found_page c.in-SearchResults.asked c.args.lines.now) ≡ Some page = sym (ap (λ (r : Request). page_by r c.args.lines.now) c.in-SearchResults.is) ∙ is in
    let same : found_page c.in-SearchResults.asked c.args.lines.now ≡ page = cc in
    subst (λ (p : Page). Shows c.write_page-in-SearchResults.new.draft (λ drawn. p)) same c.in_ok-write_page-in-SearchResults.ensures
