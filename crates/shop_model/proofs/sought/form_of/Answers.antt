use Rattle.std.proofs.Common.{rules}
use Rattle.shop_model.proofs.sought.form_of.Goals as goal

pub returns-in-Title : goal.returns-in-Title
returns-in-Title c = search rules
