use Rattle.std.proofs.Common.{ℕ, List, ◌++◌, map, ◌∙◌, ap, sym}
use Rattle.std.specs.List.{flat_map}
use Rattle.std.proofs.lemmas.List.{take_all}
use Rattle.shop_model.specs.pages.ShoppingCart.{line_cells}
use Rattle.shop_model.specs.pages.PageText.{row_text}
use Rattle.shop_attempt.specs.declared.attempts.ReadOf.{ReadOf}
use Rattle.shop_draft.specs.Templates.{filled}
use Rattle.shop_order.specs.Table.{cells_in}
use Rattle.shop_order.proofs.TableLemmas.{line_at, rows_more}
use Rattle.shop_order.proofs.table.rows.Goals as goal

pub loop-place-preserved : goal.loop-place-preserved
loop-place-preserved c t shows drawn =
    rows_more c.args.lines.now c.args.items.now c.loop-place.place c.index-items-place.result c.requires.items c.loop-place-test.true c.index-items-place.is _ _ _
    (c.in_ok-row.ensures drawn
    ∙ ap (λ (r : ReadOf). filled drawn c.loop-place.page ++ row_text (cells_in (line_at c.args.lines.now c.loop-place.place) r.row)) (sym c.index-items-place.is))
    t shows (c.loop-place.invariant t shows drawn)

pub returns : goal.returns
returns c t shows drawn =
    c.loop-place.invariant t shows drawn
    ∙ ap (λ (lines : List (ℕ × ℕ)). filled drawn c.args.page.now ++ flat_map row_text (map (line_cells t) lines)) (take_all c.loop-place.place c.args.lines.now c.loop-place-test.false)
