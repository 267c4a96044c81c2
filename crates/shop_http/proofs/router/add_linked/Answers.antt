use Rattle.shop_http.proofs.InteractionLemmas.{plain_paths}
use Rattle.shop_http.proofs.router.add_linked.Goals as goal

pub add-requires-clause-plain : goal.add-requires-clause-plain
add-requires-clause-plain c = rw c.path.ensures (plain_paths c.args.interaction)
