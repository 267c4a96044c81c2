use Rattle.std.proofs.Common.{◌∙◌, sym, subst}
use Rattle.shop_places.specs.Spots.{IsFree}
use Rattle.shop_places.specs.declared.spot.Spot.TheVariants.{Gone}
use Rattle.shop_places.proofs.starts.job_at.Goals as goal

pub station_of-station-requires : goal.station_of-station-requires
station_of-station-requires g c = subst IsFree (sym (c.put.ensures.value Gone ∙ c.requires.1.1 Gone)) tt
