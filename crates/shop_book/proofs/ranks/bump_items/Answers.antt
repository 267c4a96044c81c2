use Rattle.std.proofs.Common.{◌≡◌, ℕ, ◌+◌, ◌-◌, List, [], ◌∷◌, ◌++◌, length, map, take, set, refl, sym, ◌∙◌, ap, subst, append-nil, append_assoc, length-set}
use Rattle.shop_model.specs.lists.Related.{units_in_orders}
use Rattle.shop_model.specs.rows.Rows.{LineRow, OrderRow}
use Rattle.shop_model.specs.rows.Sound.{Has}
use Rattle.shop_ranking.specs.StandingBest.{Units}
use Rattle.shop_book.specs.Sales.{Bumps}
use Rattle.shop_book.proofs.RankLemmas.{items_more, items_all, item_there, bumps_more}
use Rattle.shop_book.proofs.ranks.bump_items.Goals as goal
use Rattle.shop_book.proofs.ranks.bump_items.Goals.{After-quantity}

-- the item is there
line_item_there : (c : After-quantity) → Has (length c.loop-line.best.units) c.line.inside.item
line_item_there c =
    subst (λ (n : ℕ). Has n c.line.inside.item) (sym c.loop-line.invariant.long)
    (subst (Has (length c.args.best.now.units)) (sym (ap (λ (l : LineRow). l.item) c.line.view_is))
    (item_there (length c.args.best.now.units) c.args.order.now c.as_slice-line-items.result.now c.loop-line.line-index c.line-item.result c.requires (c.as_slice-line-items.ensures ∙ ap (λ (o : OrderRow). o.lines) c.order.view_is) c.loop-line-test.true c.line-item.is))

pub bump-requires : goal.bump-requires
bump-requires c = line_item_there (goal.at.bump-requires c).After-quantity

pub loop-line-init : goal.loop-line-init
loop-line-init c = record {
  long = refl;
  bumps = λ was done bumps. subst (λ (items : List ℕ). Bumps (λ item. units_in_orders item c.args.sold.now.kept) was items c.args.best.now) (sym (append-nil done)) bumps;
}

pub loop-line-preserved : goal.loop-line-preserved
loop-line-preserved c =
    let sold : ℕ → ℕ = λ item. units_in_orders item c.args.sold.now.kept in
    let old : Units = c.loop-line.best in
    let new : Units = c.bump.new.self in
    let item = c.line.inside.item in
    let lines : List LineRow = c.as_slice-line-items.result.now in
    let i = c.loop-line.line-index in
    let units_are : new.units ≡ set old.units (item - 1) (sold item) = ap (λ (u : Units). u.units) c.bump.ensures ∙ ap (set old.units (item - 1)) c.quantity.ensures in
    let items : map (λ (l : LineRow). l.item) (take i lines) ++ item ∷ [] ≡ map (λ (l : LineRow). l.item) (take (i + 1) lines) =
    ap (λ n. map (λ (l : LineRow). l.item) (take i lines) ++ n ∷ []) (ap (λ (l : LineRow). l.item) c.line.view_is)
    ∙ sym (items_more lines i c.line-item.result c.loop-line-test.true c.line-item.is) in
    record {
      long = ap length units_are ∙ length-set old.units (item - 1) (sold item) ∙ c.loop-line.invariant.long;
      bumps = λ was done bumps.
          subst (λ (all : List ℕ). Bumps sold was all new) (append_assoc done (map (λ (l : LineRow). l.item) (take i lines)) (item ∷ []) ∙ ap (λ (l : List ℕ). done ++ l) items)
          (bumps_more sold old new item (line_item_there (goal.at.loop-line-preserved c).After-quantity) (ap (λ (u : Units). u.subjects) c.bump.ensures) units_are
          was (done ++ map (λ (l : LineRow). l.item) (take i lines)) (c.loop-line.invariant.bumps was done bumps));
    }

pub returns : goal.returns
returns c = λ was done bumps.
    subst (λ (items : List ℕ). Bumps (λ item. units_in_orders item c.args.sold.now.kept) was (done ++ items) c.loop-line.best)
    (items_all c.as_slice-line-items.result.now c.loop-line.line-index c.args.order.now (c.as_slice-line-items.ensures ∙ ap (λ (o : OrderRow). o.lines) c.order.view_is) c.loop-line-test.false)
    (c.loop-line.invariant.bumps was done bumps)
