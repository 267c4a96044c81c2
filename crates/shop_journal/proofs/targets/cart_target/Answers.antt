use Rattle.shop_journal.proofs.Marks.{adds_both, target_is}
use Rattle.shop_journal.proofs.targets.cart_target.Goals as goal

pub returns-clause-target : goal.returns-clause-target
returns-clause-target c =
    let listed = rw c.as_slice.ensures at c.in_ok-add_sets.ensures in
    let sets = adds_both _ _ _ _ _ listed c.in_ok-add_ids.ensures in
    let all = adds_both _ _ _ _ _ c.in_ok-add_optional.ensures sets in
    rw (← c.asked.view_is) (target_is _ _ _ _ c.in_ok-target.ensures all)
