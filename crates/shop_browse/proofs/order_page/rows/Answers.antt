use Rattle.std.proofs.Common.{◌≡◌, Some, subst, sym}
use Rattle.std.proofs.lemmas.List.{take_all}
use Rattle.shop_model.specs.rows.Lookups.{title_of}
use Rattle.shop_model.specs.rows.Rows.{LineRow}
use Rattle.shop_browse.specs.Names.{known_title}
use Rattle.shop_browse.proofs.OrderPageLemmas.{rows_more}
use Rattle.shop_browse.proofs.order_page.rows.Goals as goal

pub loop-line-preserved : goal.loop-line-preserved
loop-line-preserved c t items drawn =
    let here = subst (λ (l : LineRow). known_title c.args.names l.item ≡ Some (title_of t l.item)) (sym c.line-item.is)
    (items c.loop-line.line-index c.line-item.result c.loop-line-test.true) in
    rows_more t c.args.lines.now c.loop-line.line-index c.line-item.result _ _ _ c.loop-line-test.true c.line-item.is
    (c.in_ok-row.ensures t here drawn) (c.loop-line.invariant t items drawn)

pub returns : goal.returns
returns c t items drawn =
    let all = take_all c.loop-line.line-index c.args.lines.now c.loop-line-test.false in
    rw all at (c.loop-line.invariant t items drawn)
