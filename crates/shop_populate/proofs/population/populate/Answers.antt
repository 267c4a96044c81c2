use Rattle.std.proofs.Common.{◌≡◌, length, subst, sym}
use Rattle.shop_model.specs.declared.tables.Tables.{Tables}
use Rattle.shop_model.specs.population.Population as spec
use Rattle.shop_populate.proofs.Opening.{is_sound, has_room, all_born, all_born_items, orders_run, buyers_exist}
use Rattle.shop_populate.proofs.population.populate.Goals as goal

pub last_orders_table-requires-clause-run : goal.last_orders_table-requires-clause-run
last_orders_table-requires-clause-run c =
    rw (c.as_slice-4.ensures, c.in_ok-orders.ensures, ← c.scale.view_is)
    (orders_run c.args.seed _ c.scale.invariant)

pub last_orders_table-requires-clause-known : goal.last_orders_table-requires-clause-known
last_orders_table-requires-clause-known c =
    rw (c.as_slice-4.ensures, c.in_ok-orders.ensures, ← c.scale.view_is)
    (buyers_exist c.args.seed _ c.scale.invariant)

pub returns-clause-value : goal.returns-clause-value
unfolding spec.populated spec.lasts_table
returns-clause-value c =
    rw (
      c.in_ok-countries.ensures,
      c.in_ok-addresses.ensures,
      c.in_ok-customers.ensures,
      c.in_ok-authors.ensures,
      c.in_ok-items.ensures,
      c.in_ok-last.ensures,
      c.as_slice-4.ensures,
      c.in_ok-orders.ensures,
      c.new.ensures,
      ← c.scale.view_is,
    )

pub returns-clause-sound : goal.returns-clause-sound
returns-clause-sound c =
    rw (returns-clause-value c, ← c.scale.view_is) (is_sound c.args.seed _ c.scale.invariant)

pub returns-clause-room : goal.returns-clause-room
returns-clause-room c =
    rw (returns-clause-value c, ← c.scale.view_is) (has_room c.args.seed _ c.scale.invariant)

pub returns-clause-born : goal.returns-clause-born
returns-clause-born c =
    subst (λ (t : Tables). t.born_orders ≡ length t.orders) (sym (returns-clause-value c))
    (rw (← c.scale.view_is) (all_born c.args.seed _ c.scale.invariant))

pub returns-clause-born_items : goal.returns-clause-born_items
returns-clause-born_items c =
    subst (λ (t : Tables). t.born_items ≡ length t.items) (sym (returns-clause-value c))
    (rw (← c.scale.view_is) (all_born_items c.args.seed _ c.scale.invariant))
