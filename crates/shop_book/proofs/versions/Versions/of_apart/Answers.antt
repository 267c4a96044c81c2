use Rattle.std.proofs.Common.{unwrap_or, sym, ◌∙◌, ap}
use Rattle.std.specs.HashMap.{get}
use Rattle.shop_model.specs.declared.address.AddressText.{AddressText}
use Rattle.shop_book.specs.Said.{alike}
use Rattle.shop_book.specs.Stored.{stored_apart}
use Rattle.shop_book.proofs.versions.Versions.of_apart.Goals as goal

pub returns-in-SameAddress : goal.returns-in-SameAddress
returns-in-SameAddress c =
    c.version_at-in-SameAddress.ensures
    ∙ ap (λ (text : AddressText). unwrap_or (get alike c.args.self.now.said text) 0) c.get.ensures
    ∙ sym (ap (stored_apart c.args.self.now) c.in-SameAddress.is)
