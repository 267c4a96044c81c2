use Rattle.std.proofs.Common.{rules}
use Rattle.shop_gateway.proofs.notes.Notes.ask.Goals as goal

pub returns-then-is_err-clause-told : goal.returns-then-is_err-clause-told
returns-then-is_err-clause-told g c = search rules
