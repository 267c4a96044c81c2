use Rattle.std.proofs.Common.{◌≤◌, arith}
use Rattle.shop_engine.proofs.KeptLemmas.{kept_later}
use Rattle.shop_engine.proofs.worker.Worker.accept.Goals as goal

pub invariant_of-self : goal.invariant_of-self
invariant_of-self g c =
    let later : c.self.inside.last ≤ c.max-moment.result = omega (arith, c.max-moment.ensures) in (
      rw c.next-call.ensures.calls c.self.invariant.0,
      omega (arith, c.max-moment.ensures, c.min.ensures, c.self.invariant.1),
      kept_later _ _ c.self.inside.last c.max-moment.result c.self.inside.cache later c.self.invariant.2,
    )
