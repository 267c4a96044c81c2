use Rattle.std.proofs.Common.{arith, ◌∙◌, refl}
use Rattle.shop_turn.proofs.SeatLemmas.{gives_as}
use Rattle.shop_turn.proofs.ShareLemmas.{turn_top, given_as}
use Rattle.shop_turn.proofs.turns.give_turn.Goals as goal

pub exchange-requires : goal.exchange-requires
exchange-requires c = let at = c.requires.at in (at.table, (_, turn_top c.args.share c.args.seat.now.me c.requires.all))

pub store-requires : goal.store-requires
store-requires c = let at = c.requires.at in let e = c.exchange.ensures in
    (e.0 ∙ at.table, (let a = at.words in omega arith), gives_as _ _ _ _ c.args.share c.args.seat.now.me c.requires.all e.3 at.slots)

pub returns : goal.returns
returns c = let e = c.exchange.ensures in let f = c.store.ensures in
    (f.0 ∙ e.0, f.1 ∙ e.1, given_as c.args.share c.args.seat.now.me.0 c.args.seat.now.me _ _ c.requires.all refl e.3 f.2)
