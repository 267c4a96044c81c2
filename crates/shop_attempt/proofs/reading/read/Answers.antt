use Rattle.std.proofs.Common.{rules}
use Rattle.shop_attempt.proofs.reading.read.Goals as goal

pub returns-clause-read : goal.returns-clause-read
returns-clause-read g c = search rules
