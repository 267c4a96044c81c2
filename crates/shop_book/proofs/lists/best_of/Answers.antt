use Rattle.std.proofs.Common.{◌≡◌, ◌+◌, ◌-◌, List, length, set, ◌∙◌, ap, ap₂, arith, length-set}
use Rattle.shop_model.specs.lists.Related.{units_in_orders}
use Rattle.shop_model.specs.rows.Rows.{ItemRow}
use Rattle.shop_model.proofs.cited.Lists.{id_of_place}
use Rattle.shop_ranking.specs.StandingBest.{Units}
use Rattle.shop_book.proofs.KeptLists.{set_next}
use Rattle.shop_book.proofs.lists.best_of.Goals as goal

pub bump-requires : goal.bump-requires
bump-requires c =
    let item = c.item-item.result in
    let place : item.id ≡ 1 + c.loop-item.item-index = ap (λ (i : ItemRow). i.id) c.item-item.is ∙ id_of_place (λ (i : ItemRow). i.id) c.args.items.now c.loop-item.item-index item c.requires c.loop-item-test.true in
    let id = ap (λ (i : ItemRow). i.id) c.item.view_is ∙ place in
    let long = c.loop-item.invariant.long in
    let within = c.loop-item-test.true in
    record { first = omega (arith, id); last = omega (arith, id, long, within) }

pub loop-item-preserved : goal.loop-item-preserved
loop-item-preserved c =
    let items : List ItemRow = c.args.items.now in
    let item = c.item-item.result in
    let i = c.loop-item.item-index in
    let kept = c.args.sold.now.kept in
    let place : item.id ≡ 1 + i = ap (λ (x : ItemRow). x.id) c.item-item.is ∙ id_of_place (λ (x : ItemRow). x.id) items i item c.requires c.loop-item-test.true in
    let id = ap (λ (x : ItemRow). x.id) c.item.view_is in
    let at : c.item.inside.id - 1 ≡ i = omega (arith, id, place) in
    let units : c.quantity.result ≡ units_in_orders item.id kept = c.quantity.ensures ∙ ap (λ n. units_in_orders n kept) id in
    record {
      subjects = ap (λ (u : Units). u.subjects) c.bump.ensures ∙ c.loop-item.invariant.subjects;
      long = ap (λ (u : Units). length u.units) c.bump.ensures ∙ length-set c.loop-item.best.units (c.item.inside.id - 1) c.quantity.result ∙ c.loop-item.invariant.long;
      units = set_next (λ (x : ItemRow). units_in_orders x.id kept) items i item c.loop-item.best.units c.bump.new.self.units c.loop-item-test.true c.item-item.is c.loop-item.invariant.long c.loop-item.invariant.units
          (ap (λ (u : Units). u.units) c.bump.ensures ∙ ap₂ (set c.loop-item.best.units) at units);
    }
