use Rattle.std.proofs.Common.{List, ◌∙◌, sym, ap}
use Rattle.shop_model.specs.declared.address.Address.{Address}
use Rattle.shop_book.specs.Said.{said_id}
use Rattle.shop_book.proofs.addresses.Addresses.make_room.Goals as goal

pub invariant_of-self : goal.invariant_of-self
invariant_of-self c = record {
  each = λ text. c.reserve-2.ensures.entries.2 text ∙ c.self.invariant.each text ∙ ap (λ (rows : List Address). said_id rows text) (sym c.reserve.ensures.items);
}
