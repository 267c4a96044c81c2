use Rattle.shop_model.proofs.DigitLemmas.{plain_codes}
use Rattle.shop_model.proofs.auth_id.AuthId.bytes.Goals as goal

pub returns-clause-plain : goal.returns-clause-plain
returns-clause-plain c = plain_codes c.self.inside.digits c.self.invariant.digits
