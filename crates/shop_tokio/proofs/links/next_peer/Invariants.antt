use Rattle.futures.specs.Task.{Keeps}
use Rattle.shop_tokio.proofs.links.next_peer.Given as goal

abbrev pub invariant-loop : goal.invariant-loop
invariant-loop l = Keeps l.initial.cx l.cx
