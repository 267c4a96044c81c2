use Rattle.shop_model.specs.declared.administration.AdminConfirm.TheInside.{Inside}
use Rattle.shop_model.specs.asked.AdminAsked.{AdminAsked}

abbrev pub asked_of : Inside → AdminAsked
asked_of i = record { item = i.item; cost = i.cost; image = i.image; thumb = i.thumb; ids = i.ids }
