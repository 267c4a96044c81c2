use Rattle.std.proofs.Common.{refl}
use Rattle.shop_draft.proofs.Tails.{one_by_one}
use Rattle.shop_draft.proofs.tail.Tail.write.Goals as goal

pub invariant_of-self : goal.invariant_of-self
invariant_of-self c =
    rw (one_by_one c.args.ids.c c.args.ids.cart, c.put_id-2.ensures.text, c.put_id.ensures.text, c.clear.ensures) refl
