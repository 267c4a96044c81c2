use Rattle.std.proofs.Common.{subst, sym}
use Rattle.shop_http.specs.Routes.{FindsAll}
use Rattle.shop_http.proofs.InteractionLemmas.{finds_all}
use Rattle.shop_http.proofs.router.Routes.new.Goals as goal

pub invariant_of-result : goal.invariant_of-result
invariant_of-result c = record { finds_all = subst FindsAll (sym c.in_ok-add_all.ensures) finds_all }
