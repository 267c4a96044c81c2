use Rattle.std.proofs.Common.{arith, ap, ◌∙◌}
use Rattle.shop_turn.specs.Plays.{AtTable}
use Rattle.shop_turn.proofs.SeatLemmas.{gathers_as, gathered_slot, top_slot}
use Rattle.shop_turn.proofs.turns.try_gather.Goals as goal

pub compare_exchange-requires : goal.compare_exchange-requires
compare_exchange-requires c = let at = c.requires.at in let t = c.requires.turn in (at.table, (let a = at.words in let b = t.most in omega arith), gathers_as _ _ _ _ c.args.next t)

pub exchange-requires : goal.exchange-requires
exchange-requires c = let at = c.requires.at in let l = c.compare_exchange.ensures in let t = l.2.0 c.if-compare_exchange-ne0.false in
    (l.0 ∙ at.table, (_, top_slot _ _ _ (ap (λ (m : AtTable). m.1) (gathered_slot _ c.args.seat.now.me c.args.next c.requires.turn.gathered t))))
