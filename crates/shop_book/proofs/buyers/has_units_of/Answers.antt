use Rattle.std.proofs.Common.{◌≡◌, ℕ, List, map, take, Contains, ⊎_elim, sym, ◌∙◌, ap, subst, arith}
use Rattle.std.proofs.lemmas.List.Elements.{Contains-push_cases}
use Rattle.shop_model.specs.rows.Rows.{LineRow, OrderRow}
use Rattle.shop_model.specs.rows.Sound.{units_in}
use Rattle.shop_book.proofs.RankLemmas.{items_more, items_all}
use Rattle.shop_book.proofs.buyers.has_units_of.Goals as goal

pub loop-line-init : goal.loop-line-init
loop-line-init c = λ item there. absurd (omega (arith, there.1))

pub loop-line-preserved : goal.loop-line-preserved
loop-line-preserved c = λ item there.
    let lines : List LineRow = c.as_slice-lines.result.now in
    let others : List LineRow = c.as_slice-others.result.now in
    let i = c.loop-line.line-index in
    let line : LineRow = c.line-item.result in
    let same : units_in line.item lines ≡ units_in line.item others =
    ap (λ n. units_in n lines) (ap (λ (l : LineRow). l.item) (sym c.line.view_is)) ∙ sym c.units_of.ensures ∙ c.if-units_of.false ∙ c.units_of-in-loop-line.ensures
    ∙ ap (λ n. units_in n others) (ap (λ (l : LineRow). l.item) c.line.view_is) in
    ⊎_elim
    (λ (seen : Contains (map (λ (l : LineRow). l.item) (take i lines)) item). c.loop-line.invariant item seen)
    (λ (is : line.item ≡ item). subst (λ n. units_in n lines ≡ units_in n others) is same)
    (Contains-push_cases (map (λ (l : LineRow). l.item) (take i lines)) line.item item (subst (λ (items : List ℕ). Contains items item) (items_more lines i line c.loop-line-test.true c.line-item.is) there))

pub returns-clause-all : goal.returns-clause-all
returns-clause-all c = λ yes item there.
    let lines_are = c.as_slice-lines.ensures ∙ ap (λ (o : OrderRow). o.lines) c.order.view_is in
    let others_are = c.as_slice-others.ensures ∙ ap (λ (o : OrderRow). o.lines) c.other.view_is in
    ap (units_in item) (sym lines_are)
    ∙ c.loop-line.invariant item (subst (λ (items : List ℕ). Contains items item) (sym (items_all c.as_slice-lines.result.now c.loop-line.line-index c.args.order.now lines_are c.loop-line-test.false)) there)
    ∙ ap (units_in item) others_are
