use Rattle.shop_model.specs.declared.requests.CartRequest.TheInside.{Inside}
use Rattle.shop_model.specs.asked.CartAsked.{CartAsked}

abbrev pub asked_of : Inside → CartAsked
asked_of i = record { item = i.item; sets = i.sets; ids = i.ids }
