use Rattle.std.proofs.Common.{arith}
use Rattle.shop_places.proofs.Steps.{continues_more, continues_none, idle_more}
use Rattle.shop_places.proofs.places.join_all.Goals as goal

pub loop-at-init : goal.loop-at-init
loop-at-init g c = record { idle = λ place other none. absurd (omega (arith, none)); continues = continues_none g.S.Station.serves _ _ }

pub loop-at-preserved : goal.loop-at-preserved
loop-at-preserved g c =
    let was = c.loop-at.invariant in
    let settled = c.join_at.ensures.settled in
    record {
      idle = idle_more g.S.Station.serves c.loop-at.at c.loop-at.spots.items c.join_at.new.spots.items _ _ settled (omega (arith, c.loop-at-test.true, was.continues.size, c.len-count.ensures)) was.idle;
      continues = continues_more g.S.Station.serves c.args.spots.now.items c.loop-at.spots.items c.join_at.new.spots.items _ _ _ was.continues settled.continues;
    }
