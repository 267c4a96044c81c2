use Rattle.shop_places.proofs.Steps.{continues_more, continues_none}
use Rattle.shop_places.proofs.places.free_place.Goals as goal

pub loop-init : goal.loop-init
loop-init g c = record { can = tt; finite = tt; continues = continues_none g.S.Station.serves _ _ }

pub loop-preserved-in-Ok : goal.loop-preserved-in-Ok
loop-preserved-in-Ok g c =
    record { can = tt; finite = tt; continues = continues_more g.S.Station.serves _ _ _ _ _ _ c.loop.invariant.continues c.join_told.ensures }
