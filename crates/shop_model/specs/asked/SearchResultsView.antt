use Rattle.shop_model.specs.declared.requests.SearchResults.TheInside.{Inside}
use Rattle.shop_model.specs.asked.SearchAsked.{SearchAsked}

abbrev pub asked_of : Inside → SearchAsked
asked_of i = record { kind = i.kind; text = i.text; ids = i.ids }
