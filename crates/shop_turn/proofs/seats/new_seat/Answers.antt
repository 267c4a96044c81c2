use Rattle.std.proofs.Common.{arith}
use Rattle.shop_turn.proofs.Plays.{splits}
use Rattle.shop_turn.proofs.seats.new_seat.Goals as goal

pub split_seat-seat-requires : goal.split_seat-seat-requires
split_seat-seat-requires g c = let at = c.requires.at in (at.table, (let a = at.words in omega arith), splits _ _ _)
