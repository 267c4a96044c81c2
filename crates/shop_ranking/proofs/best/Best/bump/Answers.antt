use Rattle.std.proofs.Common.{◌≡◌, ℕ, ◌-◌, List, length, ap, ◌∙◌, arith, Vec, Global, vec_capacity}
use Rattle.shop_model.specs.declared.subject.Subject.{Subject}
use Rattle.shop_model.specs.lists.Rankings.{Sale, in_order, better}
use Rattle.shop_model.specs.rows.Sound.{Has}
use Rattle.shop_ranking.specs.Order.{put_shown}
use Rattle.shop_ranking.specs.StandingBest.{Units, is_sold, sales_from}
use Rattle.shop_ranking.proofs.cited.Order.{better_strict, better_in_order}
use Rattle.shop_ranking.proofs.Kept.{Stands, list_within, list_at, room_besides, kept_changed}
use Rattle.shop_ranking.proofs.Listed.{besides}
use Rattle.shop_ranking.proofs.Sales.{sale, length_sales, sale_before, sale_after}
use Rattle.shop_ranking.proofs.best.Best.bump.Goals as goal
use Rattle.shop_ranking.proofs.best.Best.bump.Goals.{After-index, After-number-number, After-index_mut-list}

has : (c : After-index) → Has (length c.self.inside.units.items) c.args.item
has c =
    let units : c.self.inside.units.items ≡ c.args.self.now.units = ap (λ (u : Units). u.units) c.self.view_is in
    rw units c.requires

stands : (c : After-number-number) → Has (length c.self.inside.units.items) c.args.item
    → Stands is_sold better c.self.inside.subjects.items (sales_from 1 c.self.inside.units.items) c.self.inside.lists.items (c.args.item - 1) c.number-number.result c.index-2.result.now
stands c has = record {
  kept = c.self.invariant;
  within = omega (arith, has.first, has.last, length_sales 1 c.self.inside.units.items, c.self.invariant.same);
  is = c.index-2.ensures;
  here = c.number-number.ensures;
}

-- the other sales of the item's subject
abbrev others : List Subject → List ℕ → Subject → ℕ → List Sale
others owns units own item = besides is_sold own owns (sales_from 1 units) (item - 1)

-- among which its own stands
before : (c : After-index_mut-list) → Has (length c.self.inside.units.items) c.args.item
    → Stands is_sold better c.self.inside.subjects.items (sales_from 1 c.self.inside.units.items) c.self.inside.lists.items (c.args.item - 1) c.number-number.result c.index-2.result.now
    → c.index_mut-list.result.now.items
    ≡ put_shown is_sold better (sale c.args.item c.index.result.now) (in_order better (others c.self.inside.subjects.items c.self.inside.units.items c.index-2.result.now c.args.item))
before c has stands =
    let old = sale c.args.item c.index.result.now in
    ap (λ (list : Vec Sale Global). list.items) c.index_mut-list.ensures.value
    ∙ list_at is_sold better better_strict _ _ _ _ _ _ old c.index_mut-list.result.now stands
    ∙ ap (λ s. put_shown is_sold better s (in_order better (others c.self.inside.subjects.items c.self.inside.units.items c.index-2.result.now c.args.item)))
    (sale_before c.self.inside.units.items c.args.item c.index.result.now old has c.index.ensures)

pub index-requires-2 : goal.index-requires-2
index-requires-2 c =
    let has = has (goal.at.index-requires-2 c).After-index in
    omega (arith, has.first, has.last, length_sales 1 c.self.inside.units.items, c.self.invariant.same, c.self.inside.subjects.ok.0)

pub index_mut-list-requires : goal.index_mut-list-requires
index_mut-list-requires c =
    let at = goal.at.index_mut-list-requires c in
    omega (arith, list_within is_sold better _ _ _ _ _ _ (stands at.After-number-number (has at.After-index)), c.self.inside.lists.ok.0)

pub take_sale-requires : goal.take_sale-requires
take_sale-requires c =
    let at = goal.at.take_sale-requires c in
    let has = has at.After-index in
    record {
      others = others c.self.inside.subjects.items c.self.inside.units.items c.index-2.result.now c.args.item;
      is = before at.After-index_mut-list has (stands at.After-number-number has);
    }

pub put_sale-requires-clause-sorted : goal.put_sale-requires-clause-sorted
put_sale-requires-clause-sorted c =
    let at = goal.at.put_sale-requires-clause-sorted c in
    let has = has at.After-index in
    let stands = stands at.After-number-number has in
    rw (c.take_sale.ensures.others _ (before at.After-index_mut-list has stands))
    (better_in_order (others c.self.inside.subjects.items c.self.inside.units.items c.index-2.result.now c.args.item)).sorted

pub put_sale-requires-clause-room : goal.put_sale-requires-clause-room
put_sale-requires-clause-room c =
    let at = goal.at.put_sale-requires-clause-room c in
    let has = has at.After-index in
    let stands = stands at.After-number-number has in
    let rest = c.take_sale.ensures.others _ (before at.After-index_mut-list has stands) in
    omega (
      arith,
      ap length rest,
      c.take_sale.new.list.ok.0,
      c.take_sale.ensures.capacity,
      ap vec_capacity c.index_mut-list.ensures.value,
      room_besides is_sold better _ _ _ _ _ _ c.index_mut-list.result.now stands,
    )

pub invariant_of-self : goal.invariant_of-self
invariant_of-self c =
    let at = goal.at.invariant_of-self c in
    let has = has at.After-index in
    let stands = stands at.After-number-number has in
    let rest = c.take_sale.ensures.others _ (before at.After-index_mut-list has stands) in
    let now = sale c.args.item c.args.units in
    rw (sale_after c.self.inside.units.items c.args.item c.args.units has) at
    (kept_changed is_sold better better_strict _ _ _ _ _ _ now c.index_mut-list.result.now c.put_sale.new.list stands c.index_mut-list.ensures.value
    (c.put_sale.ensures.items ∙ ap (put_shown is_sold better now) rest) (c.put_sale.ensures.capacity ∙ c.take_sale.ensures.capacity))
