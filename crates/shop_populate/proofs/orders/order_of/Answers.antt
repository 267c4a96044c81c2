use Rattle.std.proofs.Common.{◌∙◌}
use Rattle.shop_model.specs.population.Population as spec
use Rattle.shop_populate.proofs.orders.order_of.Goals as goal

pub returns : goal.returns
unfolding spec.order_of
returns c =
    let charge = c.charge.view_is ∙ rw (c.as_slice.ensures, c.get.ensures, c.country_rate-rate.ensures.value) at c.charged-charge.ensures.value in
    rw (
      c.in_ok-card.ensures,
      c.placed.ensures.value,
      c.picked.ensures,
      c.ship_day.ensures.value,
      c.picked-2.ensures,
      c.get.ensures,
      c.country_rate-rate.ensures.value,
      ← c.customer.view_is,
      ← charge,
    )
