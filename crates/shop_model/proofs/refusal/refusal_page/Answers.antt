use Rattle.std.proofs.Common.{rules}
use Rattle.shop_model.specs.asked.Refusals.{refusal_page}
use Rattle.shop_model.proofs.refusal.refusal_page.Goals as goal

pub returns : goal.returns
unfolding refusal_page
returns c = search rules
