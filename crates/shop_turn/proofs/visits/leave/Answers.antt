use Rattle.std.proofs.Common.{arith, ◌∙◌}
use Rattle.shop_turn.proofs.SeatLemmas.{leaves_as}
use Rattle.shop_turn.proofs.visits.leave.Goals as goal

pub store-requires : goal.store-requires
store-requires c = let at = c.requires.at in let e = c.exchange.ensures in let k = c.requires.inside in
    (e.0 ∙ at.table, (let a = at.words in let b = k.most in omega arith), leaves_as _ _ _ _ _ c.args.share c.args.seat.now.me k e.3 at.slots)
