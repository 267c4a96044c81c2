use Rattle.shop_message.proofs.GatheredLemmas.{awaits-one}
use Rattle.shop_message.proofs.gather.Gather.new.Goals as goal

pub invariant_of-result : goal.invariant_of-result
invariant_of-result c = awaits-one _
