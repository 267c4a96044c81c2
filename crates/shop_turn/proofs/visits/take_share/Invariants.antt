use Rattle.shop_turn.specs.Seats.{SeatIs}
use Rattle.shop_turn.proofs.visits.take_share.Given as goal

abbrev pub invariant-loop : goal.invariant-loop
invariant-loop g l =
    (goal.iterator-loop g).can_next l.iterator' × (goal.iterator-loop g).is_finite l.iterator' × SeatIs l.initial.seat l.initial.seat.me l.seat
