use Rattle.shop_poll.proofs.Runs.{landing}
use Rattle.shop_poll.proofs.run.run_lanes.Goals as goal

pub returns-in-Done-clause-landed : goal.returns-in-Done-clause-landed
returns-in-Done-clause-landed g c =
    let begun = c.in-Ok.ensures.begun in
    record {
      stations = begun.stations;
      are = begun.are;
      landing = landing _ _ _ c.in-Ok.lanes c.in-Done.landed begun.begun c.in-Done.ensures.done;
    }
