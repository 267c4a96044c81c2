use Rattle.std.proofs.Common.{ℕ, Option, unwrap_or, refl, sym, ◌∙◌, ap}
use Rattle.std.specs.HashMap.{get}
use Rattle.shop_model.specs.declared.address.AddressText.{AddressText}
use Rattle.shop_history.specs.declared.keys.Key.TheVariants as key
use Rattle.shop_book.specs.Said.{alike}
use Rattle.shop_book.specs.declared.versions.Versions.{Versions}
use Rattle.shop_book.specs.Stored.{stored}
use Rattle.shop_book.proofs.Grid.{stored_same, apart_same}
use Rattle.shop_book.proofs.SaidLemmas.{apart_unlike}
use Rattle.shop_book.proofs.versions.Versions.raise_text.Goals as goal

pub returns-in-SameAddress-clause-here : goal.returns-in-SameAddress-clause-here
returns-in-SameAddress-clause-here c =
    let new : Versions = record c.args.self.now { said = c.set_version-in-SameAddress.new.versions } in
    ap (stored new) c.in-SameAddress.is
    ∙ ap (λ (text : AddressText). unwrap_or (get alike new.said text) 0) (sym c.into_inner.ensures)
    ∙ ap (λ (o : Option ℕ). unwrap_or o 0) c.set_version-in-SameAddress.ensures.updates.1

pub returns-in-SameAddress-clause-others : goal.returns-in-SameAddress-clause-others
returns-in-SameAddress-clause-others c = λ other apart.
    let new : Versions = record c.args.self.now { said = c.set_version-in-SameAddress.new.versions } in
    stored_same c.args.self.now new other (λ place is. refl)
    (apart_same c.args.self.now new other refl (λ user is. refl)
    (λ text is. c.set_version-in-SameAddress.ensures.updates.2 text (apart_unlike c.into_inner.result text (λ same. apart (is ∙ sym (ap key.SameAddress (sym c.into_inner.ensures ∙ same)) ∙ sym c.in-SameAddress.is)))))
