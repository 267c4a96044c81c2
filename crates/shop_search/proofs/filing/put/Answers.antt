use Rattle.shop_search.proofs.TitledLemmas.{by_titled_strict}
use Rattle.shop_search.proofs.filing.put.Goals as goal

pub put_in-requires-clause-order : goal.put_in-requires-clause-order
put_in-requires-clause-order c = by_titled_strict.total
