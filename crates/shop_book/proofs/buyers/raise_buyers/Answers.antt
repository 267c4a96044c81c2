use Rattle.std.proofs.Common.{◌≡◌, ℕ, ◌+◌, Bool, List, [], ◌∷◌, ◌++◌, length, map, take, sym, ◌∙◌, ap, subst}
use Rattle.shop_model.specs.rows.Rows.{LineRow, OrderRow}
use Rattle.shop_model.specs.rows.Sound.{Has}
use Rattle.shop_history.specs.declared.keys.Key.TheVariants as key
use Rattle.shop_book.specs.declared.versions.Versions.{Versions}
use Rattle.shop_book.specs.Sales.{RaisesBuyers, has_bought}
use Rattle.shop_book.specs.Stored.{stored, numbers}
use Rattle.shop_book.proofs.BuyerLemmas.{buyers_none, buyers_raised, buyers_left}
use Rattle.shop_book.proofs.Placed.{same_places, then_more, more_place}
use Rattle.shop_book.proofs.RankLemmas.{items_more, items_all, item_there}
use Rattle.shop_book.proofs.buyers.raise_buyers.Goals as goal
use Rattle.shop_book.proofs.buyers.raise_buyers.Goals.{then-not-has, else-not-has}

pub raise-requires-clause-place : goal.raise-requires-clause-place
raise-requires-clause-place c =
    let item : c.line-item.result.item ≡ c.line.inside.item = sym (ap (λ (l : LineRow). l.item) c.line.view_is) in
    more_place c.args.versions.now c.loop-line.versions (key.Buyers c.line.inside.item) c.loop-line.invariant.places
    (subst (Has (length (numbers c.args.versions.now 6))) item
    (item_there (length (numbers c.args.versions.now 6)) c.args.order.now c.as_slice-line-items.result.now c.loop-line.line-index c.line-item.result c.requires (c.as_slice-line-items.ensures ∙ ap (λ (o : OrderRow). o.lines) c.order.view_is) c.loop-line-test.true c.line-item.is))

pub loop-line-init : goal.loop-line-init
loop-line-init c = record {
  places = same_places;
  raised = buyers_none (has_bought c.args.recent.now.kept c.args.order.now.customer) c.args.number (stored c.args.versions.now);
}

pub loop-line-preserved : goal.loop-line-preserved
loop-line-preserved c =
    let orders = c.args.recent.now.kept in
    let customer : ℕ = c.args.order.now.customer in
    let has : ℕ → Bool = has_bought orders customer in
    let lines : List LineRow = c.as_slice-line-items.result.now in
    let i = c.loop-line.line-index in
    let item = c.line.inside.item in
    let before : List ℕ = map (λ (l : LineRow). l.item) (take i lines) in
    let items : before ++ item ∷ [] ≡ map (λ (l : LineRow). l.item) (take (i + 1) lines) =
    ap (λ n. before ++ n ∷ []) (ap (λ (l : LineRow). l.item) c.line.view_is) ∙ sym (items_more lines i c.line-item.result c.loop-line-test.true c.line-item.is) in
    let has_it : c.has.result ≡ has item = c.has.ensures ∙ ap (λ n. has_bought orders n item) (ap (λ (o : OrderRow). o.customer) c.order.view_is) in
    elim c.if-not-has.branch [
      | then-not-has w ↦
          record {
            places = rw w.versions-is (then_more c.loop-line.invariant.places w.raise.ensures.places);
            raised =
                subst (λ (v : Versions). RaisesBuyers has (map (λ (l : LineRow). l.item) (take (i + 1) lines)) c.args.number (stored c.args.versions.now) (stored v)) (sym w.versions-is)
                (subst (λ (all : List ℕ). RaisesBuyers has all c.args.number (stored c.args.versions.now) (stored w.raise.new.self)) items
                (buyers_raised has before c.args.number (stored c.args.versions.now) (stored c.loop-line.versions) item c.loop-line.invariant.raised (stored w.raise.new.self)
                (sym has_it ∙ w.if-not-has.true) w.raise.ensures.here w.raise.ensures.others));
          }
      | else-not-has w ↦
          record {
            places = rw w.versions-is c.loop-line.invariant.places;
            raised =
                subst (λ (v : Versions). RaisesBuyers has (map (λ (l : LineRow). l.item) (take (i + 1) lines)) c.args.number (stored c.args.versions.now) (stored v)) (sym w.versions-is)
                (subst (λ (all : List ℕ). RaisesBuyers has all c.args.number (stored c.args.versions.now) (stored c.loop-line.versions)) items
                (buyers_left has before c.args.number (stored c.args.versions.now) (stored c.loop-line.versions) item c.loop-line.invariant.raised (sym has_it ∙ w.if-not-has.false)));
          }
    ]

pub returns-clause-raised : goal.returns-clause-raised
returns-clause-raised c =
    subst (λ (items : List ℕ). RaisesBuyers (has_bought c.args.recent.now.kept c.args.order.now.customer) items c.args.number (stored c.args.versions.now) (stored c.loop-line.versions))
    (items_all c.as_slice-line-items.result.now c.loop-line.line-index c.args.order.now (c.as_slice-line-items.ensures ∙ ap (λ (o : OrderRow). o.lines) c.order.view_is) c.loop-line-test.false)
    c.loop-line.invariant.raised
