use Rattle.std.proofs.Common.{◌≡◌, true, rules}
use Rattle.shop_edges.specs.Starts.{is_listed}
use Rattle.shop_edges.proofs.spawner.Way.begin.Goals as goal

pub returns-in-Failing-clause-fails : goal.returns-in-Failing-clause-fails
returns-in-Failing-clause-fails g c =
    λ unlisted. absurd (let listed : is_listed c.args.self.now c.args.call ≡ true = search rules in cc)
