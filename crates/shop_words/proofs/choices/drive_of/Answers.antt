use Rattle.shop_words.specs.Commands.{workload_of_drive}
use Rattle.shop_words.proofs.choices.drive_of.Goals as goal

pub returns-in_err-shop-clause-none : goal.returns-in_err-shop-clause-none
returns-in_err-shop-clause-none c = rw c.from_residual.ensures (λ drive chooses. c.in_err-shop.ensures.none (workload_of_drive drive) chooses.workload)
