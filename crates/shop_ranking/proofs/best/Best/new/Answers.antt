use Rattle.std.proofs.Common.{◌≡◌, ℕ, length, replicate, arith, ap, false, rules}
use Rattle.std.specs.List.{All}
use Rattle.std.proofs.lemmas.List.{length-replicate, length-map}
use Rattle.shop_model.specs.lists.Rankings.{better}
use Rattle.shop_ranking.specs.Standing.{AreNew}
use Rattle.shop_ranking.specs.StandingBest.{is_sold, sales_from}
use Rattle.shop_ranking.proofs.Kept.{kept_new}
use Rattle.shop_ranking.proofs.Sales.{length_sales, none_sold}
use Rattle.shop_ranking.proofs.best.Best.new.Goals as goal

pub invariant_of-result : goal.invariant_of-result
invariant_of-result c =
    let items = c.args.items.now in
    let owns = c.in_ok-subjects.subjects.items in
    let units = c.in_ok-vec.field-0.items in
    let zeros : units ≡ replicate (length items) 0 = search rules in
    let same : length (sales_from 1 units) ≡ length owns =
    omega (arith, length_sales 1 units, ap length zeros, length-replicate {A = ℕ} (length items) 0, ap length c.in_ok-subjects.ensures, length-map items (λ i. i.subject)) in
    let hidden : All (λ s. is_sold s ≡ false) (sales_from 1 units) = rw zeros (none_sold 1 (length items)) in
    let new : AreNew owns c.in_ok-lists.lists.items = rw c.deref.ensures.value at c.in_ok-lists.ensures in
    kept_new is_sold better owns (sales_from 1 units) c.in_ok-lists.lists.items same hidden new
