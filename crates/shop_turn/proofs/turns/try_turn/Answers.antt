use Rattle.std.proofs.Common.{arith, Some, ap, ◌∙◌}
use Rattle.shop_turn.specs.Plays.{AtTable}
use Rattle.shop_turn.proofs.SeatLemmas.{takes_as, top_slot}
use Rattle.shop_turn.proofs.turns.try_turn.Goals as goal

pub compare_exchange-requires : goal.compare_exchange-requires
compare_exchange-requires c = let at = c.requires.at in (at.table, (let a = at.words in omega arith), takes_as _ _ _ _ _ c.requires.ready)

pub exchange-requires : goal.exchange-requires
exchange-requires c = let at = c.requires.at in let l = c.compare_exchange.ensures in let t = l.2.0 c.if-compare_exchange-ne0.false in
    (l.0 ∙ at.table, (Some t.0, top_slot _ _ _ (ap (λ (m : AtTable). m.1) t.2)))
