use Rattle.shop_model.proofs.cited.Searches.{compared_twice}
use Rattle.shop_model.proofs.sought.Sought.of.Goals as goal

pub invariant_of-result : goal.invariant_of-result
invariant_of-result c = rw c.in_ok-text.ensures (compared_twice c.args.kind c.args.text.now)
