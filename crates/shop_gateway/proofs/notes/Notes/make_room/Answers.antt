use Rattle.shop_gateway.proofs.Noted.{still_noted}
use Rattle.shop_gateway.proofs.notes.Notes.make_room.Goals as goal

pub invariant_of-self-in_err-reserve-3 : goal.invariant_of-self-in_err-reserve-3
invariant_of-self-in_err-reserve-3 c = still_noted _ _ _ _ _ _ c.self.invariant c.reserve-3.ensures.items c.reserve.ensures.items c.reserve-2.ensures.keys.2

pub invariant_of-self-2 : goal.invariant_of-self-2
invariant_of-self-2 c = still_noted _ _ _ _ _ _ c.self.invariant c.reserve-3.ensures.items c.reserve.ensures.items c.reserve-2.ensures.keys.2
