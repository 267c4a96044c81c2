use Rattle.std.proofs.Common.{arith}
use Rattle.shop_turn.proofs.SeatLemmas.{names_as}
use Rattle.shop_turn.proofs.seats.try_name.Goals as goal

pub compare_exchange-requires : goal.compare_exchange-requires
compare_exchange-requires c =
    let at = c.requires.at in
    let may = c.requires.named in
    (at.table, (let a = at.words in omega arith), names_as _ _ _ _ _ _ may.idle may.seen (let a = may.one in omega arith) may.most)
