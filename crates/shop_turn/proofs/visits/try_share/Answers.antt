use Rattle.std.proofs.Common.{arith, Some, ap, ◌∙◌}
use Rattle.shop_turn.specs.Plays.{AtTable}
use Rattle.shop_turn.proofs.SeatLemmas.{enters_as, entered_slot, top_slot}
use Rattle.shop_turn.proofs.visits.try_share.Goals as goal

pub compare_exchange-requires : goal.compare_exchange-requires
compare_exchange-requires c = let at = c.requires.at in let r = c.requires.ready in (at.table, (let a = at.words in let b = r.most in omega arith), enters_as _ _ _ _ _ r)

pub exchange-requires : goal.exchange-requires
exchange-requires c = let at = c.requires.at in let l = c.compare_exchange.ensures in let t = l.2.0 c.if-compare_exchange-ne0.false in
    (l.0 ∙ at.table, (Some t.0, top_slot _ _ _ (ap (λ (m : AtTable). m.1) (entered_slot _ c.args.seat.now.me c.args.number t.0 c.requires.ready.number_is t.2))))
