use Rattle.std.proofs.Common.{◌≡◌, ℕ, ◌-◌, List, [], ◌∷◌, ◌++◌, length, map, take, get_or, sym, ◌∙◌, ap, subst, append-nil, arith}
use Rattle.shop_model.specs.declared.item.ItemDetails.{ItemDetails}
use Rattle.shop_model.specs.declared.subject.Subject.{Subject}
use Rattle.shop_model.specs.rows.Rows.{ItemRow, LineRow, OrderRow}
use Rattle.shop_model.specs.rows.Sound.{Has}
use Rattle.shop_ranking.specs.StandingBest.{standing_best}
use Rattle.shop_book.specs.Sales.{Renews, subject_in}
use Rattle.shop_book.specs.Stored.{stored}
use Rattle.shop_book.proofs.Placed.{same_places, then_more}
use Rattle.shop_book.proofs.RankLemmas.{items_all, item_there, subjects_more, subject_is}
use Rattle.shop_book.proofs.ranks.renew_lists.Goals as goal
use Rattle.shop_book.proofs.ranks.renew_lists.Goals.{After-line-item}

-- the item is there
line_item_there : (c : After-line-item) → Has (length c.args.items.now) c.line-item.result.item
line_item_there c =
    item_there (length c.args.items.now) c.args.order.now c.as_slice-line-items.result.now c.loop-line.line-index c.line-item.result c.requires.items (c.as_slice-line-items.ensures ∙ ap (λ (o : OrderRow). o.lines) c.order.view_is) c.loop-line-test.true c.line-item.is

pub renew_list-requires-clause-size : goal.renew_list-requires-clause-size
renew_list-requires-clause-size c = c.loop-line.invariant.size

pub renew_list-requires-clause-place : goal.renew_list-requires-clause-place
renew_list-requires-clause-place c = omega (arith, c.loop-line.invariant.places.each 5, c.requires.place)

pub loop-line-init : goal.loop-line-init
loop-line-init c = record {
  size = c.requires.size;
  places = same_places;
  renewed = λ was old done renews. subst (λ (all : List Subject). Renews was (standing_best c.args.best.now) c.args.number all c.args.lists.now.items old (stored c.args.versions.now)) (sym (append-nil done)) renews;
}

pub loop-line-preserved : goal.loop-line-preserved
loop-line-preserved c =
    let items : List ItemRow = c.args.items.now in
    let line : LineRow = c.line-item.result in
    let lines : List LineRow = c.as_slice-line-items.result.now in
    let i = c.loop-line.line-index in
    let row : ItemRow = c.index-items-line.result in
    let is : row ≡ get_or items (line.item - 1) row = c.index-items-line.is ∙ ap (λ (l : LineRow). get_or items (l.item - 1) row) c.line.view_is in
    let subject : c.get.result.now.subject ≡ subject_in items line.item =
    ap (λ (d : ItemDetails). d.subject) c.get.ensures ∙ ap (λ (r : ItemRow). r.subject) c.item.view_is ∙ sym (subject_is items line.item row (line_item_there (goal.at.loop-line-preserved c).After-line-item) is) in
    record {
      size = c.renew_list.ensures.size ∙ c.loop-line.invariant.size;
      places = then_more c.loop-line.invariant.places c.renew_list.ensures.places;
      renewed = λ was old done renews.
          let before : List Subject = done ++ map (subject_in items) (map (λ (l : LineRow). l.item) (take i lines)) in
          subst (λ (all : List Subject). Renews was (standing_best c.args.best.now) c.args.number all c.renew_list.new.lists.items old (stored c.renew_list.new.versions))
          (ap (λ (s : Subject). before ++ s ∷ []) subject ∙ subjects_more items lines i line done c.loop-line-test.true c.line-item.is)
          (c.renew_list.ensures.renewed was old before (c.loop-line.invariant.renewed was old done renews));
    }

pub returns-clause-renewed : goal.returns-clause-renewed
returns-clause-renewed c = λ was old done renews.
    subst (λ (items : List ℕ). Renews was (standing_best c.args.best.now) c.args.number (done ++ map (subject_in c.args.items.now) items) c.loop-line.lists.items old (stored c.loop-line.versions))
    (items_all c.as_slice-line-items.result.now c.loop-line.line-index c.args.order.now (c.as_slice-line-items.ensures ∙ ap (λ (o : OrderRow). o.lines) c.order.view_is) c.loop-line-test.false)
    (c.loop-line.invariant.renewed was old done renews)
