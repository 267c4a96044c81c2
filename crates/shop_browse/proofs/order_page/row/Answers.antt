use Rattle.std.proofs.Common.{◌≡◌, ◌++◌, Some, ap, sym, subst, ◌∙◌}
use Rattle.shop_model.specs.pages.PageText.{row_text}
use Rattle.shop_model.specs.pages.Priced.{line_cells}
use Rattle.shop_model.specs.rows.Lookups.{title_of}
use Rattle.shop_model.specs.rows.Rows.{LineRow}
use Rattle.shop_draft.specs.Templates.{filled}
use Rattle.shop_browse.specs.Names.{known_title}
use Rattle.shop_browse.proofs.order_page.row.Goals as goal

pub returns-in_ok-line_row-in-Some : goal.returns-in_ok-line_row-in-Some
returns-in_ok-line_row-in-Some c t known drawn =
    let here = subst (λ (l : LineRow). known_title c.args.names l.item ≡ Some (title_of t l.item)) (sym c.line.view_is) known in
    let same : Some c.in-Some.title.now ≡ Some (title_of t c.line.inside.item) = c.in-Some.ensures ∙ here in
    let title : title_of t c.line.inside.item ≡ c.in-Some.title.now = cc in
    c.in_ok-line_row-in-Some.ensures t title drawn ∙ ap (λ (l : LineRow). filled drawn c.args.page.now ++ row_text (line_cells t l)) c.line.view_is
