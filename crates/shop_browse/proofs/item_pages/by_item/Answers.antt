use Rattle.std.proofs.Common.{◌≡◌, Some, None, refl, ◌∙◌, ap}
use Rattle.shop_model.specs.declared.author.Author.{Author}
use Rattle.shop_model.specs.pages.AdminRequest.{admin_page}
use Rattle.shop_model.specs.pages.ProductDetail.{product_page}
use Rattle.shop_model.specs.rows.Lookups.{row_numbered}
use Rattle.shop_browse.proofs.DriverLemmas.{with_ids}
use Rattle.shop_browse.proofs.ItemPagesLemmas.{page_at, lists_none, author_is, none_shown, item_shown, author_there}
use Rattle.shop_browse.proofs.item_pages.by_item.Goals as goal

pub returns-in_ok-refusal-in-Absent : goal.returns-in_ok-refusal-in-Absent
returns-in_ok-refusal-in-Absent c round = (
  lists_none c.args.page,
  none_shown c.args.page c.args.read.now c.requires c.args.ask.now _ c.in-Absent.is c.in_ok-refusal-in-Absent.ensures,
)

pub returns-in_ok-write_page-in-Some : goal.returns-in_ok-write_page-in-Some
returns-in_ok-write_page-in-Some c round =
    let ask = c.args.ask.now in
    let x = c.in-Item.item in
    let ids = c.in-Detail.asked.now.ids in
    let author = c.get-in-Some.result.now in
    let there : row_numbered ask.index.now.authors x.author ≡ Some author
    = rw (← c.item.view_is, ← c.get.ensures, ← c.author.ensures, c.in-Some.is, c.get-in-Some.ensures) refl in (
      lists_none c.args.page,
      item_shown c.args.page c.args.read.now c.requires ask x c.in-Item.is _ (product_page x author ids)
          (λ t named. ap (λ page. page_at t page x) c.in-Detail.is ∙ ap (λ (a : Author). product_page x a ids) (author_is t ask.index.now x author named there))
          (with_ids _ (product_page x author) c.of.result ids c.of.ensures c.in_ok-write_page-in-Some.ensures),
    )

pub returns-in-None : goal.returns-in-None
returns-in-None c round =
    let x = c.in-Item.item in
    let none : row_numbered c.args.ask.now.index.now.authors x.author ≡ None = rw (← c.item.view_is, ← c.get.ensures, ← c.author.ensures, c.in-None.is) refl in
    author_there c.args.page c.args.read.now c.requires c.args.ask.now x c.in-Item.is none

pub returns-in_ok-write_page-in-Admin : goal.returns-in_ok-write_page-in-Admin
returns-in_ok-write_page-in-Admin c round =
    let x = c.in-Item.item in
    let ids = c.in-Admin.asked.now.ids in (
      lists_none c.args.page,
      item_shown c.args.page c.args.read.now c.requires c.args.ask.now x c.in-Item.is _ (admin_page x ids)
          (λ t named. ap (λ page. page_at t page x) c.in-Admin.is)
          (with_ids _ (admin_page x) c.of-in-Admin.result ids c.of-in-Admin.ensures c.in_ok-write_page-in-Admin.ensures),
    )
