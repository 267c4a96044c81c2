use Rattle.std.proofs.Common.{◌≡◌, ℕ, ◌≤◌, max, List, length, map, ◌∙◌, ap, subst, arith}
use Rattle.shop_model.specs.declared.subject.Subject.{Subject}
use Rattle.shop_model.specs.declared.tables.Tables.{Tables}
use Rattle.shop_model.specs.lists.Rankings.{sold_lately}
use Rattle.shop_model.specs.lists.Related.{sold_of, last}
use Rattle.shop_model.specs.rows.Limits.{counted_orders, recent_orders, items_limit}
use Rattle.shop_model.specs.rows.Rows.{ItemRow, OrderRow}
use Rattle.shop_model.specs.rows.Subjects.{subjects}
use Rattle.shop_ranking.specs.StandingBest.{AreSoldLately}
use Rattle.shop_ranking.specs.StandingNewest.{AreAsPublished}
use Rattle.shop_ranking.proofs.cited.Standing.{standing_best_is, standing_newest_is}
use Rattle.shop_book.specs.Auths.{AreAuths}
use Rattle.shop_book.proofs.KeptLists.{sold_is}
use Rattle.shop_book.proofs.lists.Lists.of.Goals as goal

pub returns : goal.returns
returns c =
    let t : Tables = c.args.tables.now in
    let items = c.as_slice-items.ensures in
    let orders = c.as_slice-orders.ensures in
    let size : max items_limit (length t.items) ≤ c.in_ok-sold.sold.items = omega (arith, c.in_ok-sold.ensures.items, c.max-size.ensures, ap length items) in
    let recent_size : max items_limit (length t.items) ≤ c.in_ok-recent.recent.items = omega (arith, c.in_ok-recent.ensures.items, c.max-size.ensures, ap length items) in
    let sold : c.in_ok-sold.sold.kept ≡ map sold_of (last counted_orders t.orders) = c.in_ok-sold.ensures.kept ∙ ap (λ (os : List OrderRow). map sold_of (last counted_orders os)) orders in
    let units : AreSoldLately t c.in_ok-best.best = record {
      subjects = c.in_ok-best.ensures.subjects ∙ ap (map (λ (i : ItemRow). i.subject)) items;
      units =
          c.in_ok-best.ensures.units
          ∙ ap (λ (f : ℕ → ℕ). map (λ (i : ItemRow). f i.id) c.as_slice-items.result.now) (λ i item. sold_is t c.in_ok-sold.sold.kept item sold i)
          ∙ ap (map (λ (i : ItemRow). sold_lately t i.id)) items;
    } in
    let days : AreAsPublished t c.in_ok-newest.newest = record {
      subjects = c.in_ok-newest.ensures.subjects ∙ ap (map (λ (i : ItemRow). i.subject)) items;
      titles = c.in_ok-newest.ensures.titles ∙ ap (map (λ (i : ItemRow). i.title)) items;
      days = c.in_ok-newest.ensures.days ∙ ap (map (λ (i : ItemRow). i.published)) items;
    } in
    record {
      sold_items = size;
      recent_items = recent_size;
      sold = sold;
      recent = c.in_ok-recent.ensures.kept ∙ ap (λ (os : List OrderRow). map sold_of (last recent_orders os)) orders;
      units = units;
      days = days;
      best_rows = c.in_ok-listings.ensures ∙ ap (λ (f : Subject → List ℕ). map f subjects) (λ i subject. standing_best_is t c.in_ok-best.best subject c.requires.ids.items units i);
      newest_rows = c.in_ok-listings-2.ensures ∙ ap (λ (f : Subject → List ℕ). map f subjects) (λ i subject. standing_newest_is t c.in_ok-newest.newest subject c.requires.ids.items days i);
      auths = subst (λ (os : List OrderRow). AreAuths os c.in_ok-auths.auths) orders c.in_ok-auths.ensures;
    }
