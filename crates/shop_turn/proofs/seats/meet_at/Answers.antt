use Rattle.std.proofs.Common.{ap, ◌∙◌, arith}
use Rattle.shop_turn.specs.Plays.{AtTable}
use Rattle.shop_turn.proofs.Plays.{splits, joins}
use Rattle.shop_turn.proofs.seats.meet_at.Goals as goal

pub split_seat-shadow-requires : goal.split_seat-shadow-requires
split_seat-shadow-requires g c = let at = c.requires.other in (at.table, (let a = at.words in omega arith), splits _ _ _)

pub join_seat-requires : goal.join_seat-requires
join_seat-requires g c =
    let s = c.split_seat-shadow.ensures in
    (c.requires.at.table, s.3 ∙ c.requires.other.table, ap (λ (m : AtTable). m.1) s.4, (let a = c.requires.at.words in omega arith), joins _ _ _ _ _)
