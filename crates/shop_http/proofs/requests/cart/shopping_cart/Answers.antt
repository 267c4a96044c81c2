use Rattle.std.proofs.Common.{rules}
use Rattle.shop_http.proofs.SetBounds.{sets_bounds}
use Rattle.shop_http.proofs.requests.cart.shopping_cart.Goals as goal

pub invariant_of-result : goal.invariant_of-result
invariant_of-result c =
    let bounds = sets_bounds _ c.in_ok-sets.sets c.in_ok-sets.ensures in
    record { item = search rules; few = bounds.0; sets = bounds.1; ids = search rules }
