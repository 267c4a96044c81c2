use Rattle.shop_edges.specs.declared.charge.Charge.TheInside.{Inside}
use Rattle.shop_edges.specs.Charges.{ChargeValue}

abbrev pub charge_of : Inside → ChargeValue
charge_of i =
    record { caller = i.caller; call = i.call; cents = i.cents; card = i.card; number = i.number; expiry = i.expiry }
