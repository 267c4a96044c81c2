use Rattle.std.proofs.Common.{arith}
use Rattle.shop_app.proofs.RaceEnds.{race_told}
use Rattle.shop_app.proofs.RaceLemmas.{one_shop}
use Rattle.shop_app.proofs.raced.race_browsers.Goals as goal

pub race-ran-requires-after_bounds : goal.race-ran-requires-after_bounds
race-ran-requires-after_bounds g c κs within = one_shop g.C.Clock.readings c.args.asked.now (g.C.Clock.readings c.args.clock.now) _ _ c.in-Ok.ensures

pub returns : goal.returns
returns g c =
    race_told g.C.Clock.readings c.args.asked.now (g.C.Clock.readings c.args.clock.now) _ _ c.in-Ok.ensures c.args.spawner.now c.race-ran.new.spawner (omega (arith, c.requires.steps))
    c.race-ran.result c.lines_of.result c.race-ran.ensures c.lines_of.ensures
