use Rattle.shop_draft.proofs.Tails.{as_first, long}
use Rattle.shop_draft.proofs.tail.Tail.put_to.Goals as goal

pub put_behind-requires : goal.put_behind-requires
put_behind-requires c =
    let ids = c.self.inside.ids in
    rw c.self.invariant (long ids.c ids.cart (rw (← c.self.view_is) at c.requires))

pub returns-in-First-clause-ok : goal.returns-in-First-clause-ok
returns-in-First-clause-ok c =
    let ids = c.self.inside.ids in
    rw (c.in-First.is, ← c.self.view_is, as_first ids.c ids.cart (rw (← c.self.view_is) at c.requires), ← c.self.invariant) c.put_behind.ensures.ok
