use Rattle.std.proofs.Common.{◌≡◌, true, false, rules}
use Rattle.shop_gateway.specs.Scripts.{is_listed}
use Rattle.shop_gateway.proofs.script_gateway.ScriptGatewayGateway.authorize.Goals as goal

pub returns-then-contains-clause-passed : goal.returns-then-contains-clause-passed
returns-then-contains-clause-passed g c =
    λ unlisted failed. absurd (let listed : is_listed c.args.self.now ≡ true = search rules in cc)

pub returns-clause-listed : goal.returns-clause-listed
returns-clause-listed g c = λ listed. absurd (let unlisted : is_listed c.args.self.now ≡ false = search rules in cc)

pub returns-then-contains-clause-cause : goal.returns-then-contains-clause-cause
returns-then-contains-clause-cause g c = search rules

pub returns-then-contains-clause-counts : goal.returns-then-contains-clause-counts
returns-then-contains-clause-counts g c = search rules
