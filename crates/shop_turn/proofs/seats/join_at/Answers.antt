use Rattle.std.proofs.Common.{arith}
use Rattle.shop_turn.proofs.Plays.{joins}
use Rattle.shop_turn.proofs.seats.join_at.Goals as goal

pub join_seat-requires : goal.join_seat-requires
join_seat-requires c = (c.requires.at.table, c.requires.other.table, c.requires.empty, (let a = c.requires.at.words in omega arith), joins _ _ _ _ _)
