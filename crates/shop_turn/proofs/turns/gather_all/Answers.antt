use Rattle.std.proofs.Common.{arith, ◌∙◌}
use Rattle.shop_turn.proofs.ShareLemmas.{turn_next, more_shares, more_keeps}
use Rattle.shop_turn.proofs.turns.gather_all.Goals as goal

pub gather_one-requires-clause-turn : goal.gather_one-requires-clause-turn
gather_one-requires-clause-turn g c = let t = c.loop-gathered-test.true in let all = c.requires.callers in
    turn_next c.loop-gathered.gathered _ c.args.share.now c.loop-gathered.seat.me c.loop-gathered.invariant.0 (omega arith)

pub loop-gathered-preserved : goal.loop-gathered-preserved
loop-gathered-preserved g c = let i = c.loop-gathered.invariant in let e = c.gather_one.ensures in
    (more_shares c.loop-gathered.gathered c.args.share.now c.loop-gathered.seat.me _ i.0 e.1.2, (e.1.0 ∙ i.1.0, e.1.1 ∙ i.1.1, more_keeps c.args.seat.now.me.0 c.loop-gathered.seat.me _ _ e.1.2 i.1.2))
