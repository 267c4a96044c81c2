use Rattle.std.proofs.Common.{ap}
use Rattle.shop_model.specs.rows.Rows.{CustomerRow}
use Rattle.shop_model.specs.population.Population as spec
use Rattle.shop_populate.proofs.orders.order_row.Goals as goal

pub returns : goal.returns
unfolding spec.order_row spec.order_customer spec.order_address spec.order_lines
returns c =
    let address = ap (λ (x : CustomerRow). x.address) c.customer.view_is in
    rw (
      c.in_ok-order.ensures,
      c.address_at-address.ensures,
      address,
      c.customer_at-customer.ensures.value,
      c.in_ok-lines.ensures.value,
      c.size.ensures.value,
      c.drawn.ensures,
      ← c.scale.view_is,
    )
