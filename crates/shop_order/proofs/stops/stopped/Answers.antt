use Rattle.std.proofs.Common.{refl, sym, subst}
use Rattle.shop_browse.specs.declared.driver.Next.TheVariants.{Show, Never}
use Rattle.shop_order.specs.Stops.{IsStopped}
use Rattle.shop_order.proofs.stops.stopped.Goals as goal

pub returns-in_ok-refusal-in-Refused : goal.returns-in_ok-refusal-in-Refused
returns-in_ok-refusal-in-Refused c =
    subst (λ stop. IsStopped stop c.refusal.new.draft Show) (sym c.in-Refused.is) (refl, c.in_ok-refusal-in-Refused.ensures)

pub returns-in-Never : goal.returns-in-Never
returns-in-Never c = subst (λ stop. IsStopped stop c.args.draft.now Never) (sym c.in-Never.is) refl
