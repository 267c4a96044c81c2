use Rattle.std.proofs.Common.{arith, ◌∙◌, ◌*◌, refl}
use Rattle.shop_turn.proofs.SeatLemmas.{fills_as, laid_as}
use Rattle.shop_turn.proofs.ShareLemmas.{top_of, filled_as, filled_keeps}
use Rattle.shop_turn.proofs.turns.fill_all.Goals as goal

pub loop-left-init : goal.loop-left-init
loop-left-init g c = ((c.requires.all, (refl, refl, refl)), omega arith)

pub exchange-requires : goal.exchange-requires
exchange-requires g c = let at = c.requires.at in let i = c.loop-left.invariant.0 in
    (i.1.0 ∙ at.table, (_, top_of c.loop-left.left _ c.loop-left.seat.me i.0 (let t = c.loop-left-test.true in omega arith)))

pub store-requires : goal.store-requires
store-requires g c = let at = c.requires.at in let i = c.loop-left.invariant.0 in let e = c.exchange.ensures in
    let now = laid_as (8 * c.loop-left.left) _ c.args.share.now c.loop-left.seat.me _ c.another.ensures e.3 in
    (e.0 ∙ i.1.0 ∙ at.table, (let a = at.words in omega arith), fills_as _ _ _ _ c.loop-left.left _ c.loop-left.seat.me i.0 now (let t = c.loop-left-test.true in omega arith) at.slots)

pub loop-left-preserved : goal.loop-left-preserved
loop-left-preserved g c = let i = c.loop-left.invariant.0 in let e = c.exchange.ensures in let f = c.store.ensures in
    let now = laid_as (8 * c.loop-left.left) _ c.args.share.now c.loop-left.seat.me _ c.another.ensures e.3 in
    ((filled_as c.loop-left.left _ c.loop-left.seat.me _ _ i.0 now f.2 (let t = c.loop-left-test.true in omega arith), (f.0 ∙ e.0 ∙ i.1.0, f.1 ∙ e.1 ∙ i.1.1, filled_keeps c.args.seat.now.me.0 c.loop-left.seat.me _ _ _ _ now f.2 i.1.2)), (let b = c.loop-left.invariant.1 in omega arith))
