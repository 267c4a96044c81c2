use Rattle.std.proofs.Common.{◌≡◌, true, false, Option, Some, None, refl, sym, ap, subst}
use Rattle.std.specs.Prelude.{IsSome}
use Rattle.shop_model.specs.lists.Catalogues.{Naming}
use Rattle.shop_search.specs.Growing.{Growth}
use Rattle.shop_book.specs.Additions.{AddedItems}
use Rattle.shop_book.proofs.additions.Additions.take.Goals as goal

some_item : (room : Option Naming) → IsSome room → (item : Naming) × (room ≡ Some item)
some_item None some = absurd cc
some_item (Some item) some = (item, refl)

-- there is no more room for an item
pub invariant_of-self : goal.invariant_of-self
invariant_of-self c =
    let item = some_item c.self.inside.index.room (subst (λ (o : Option Naming). IsSome o) (sym (ap (λ (a : AddedItems). a.room) c.self.view_is)) c.requires) in
    record {
      place = λ some. absurd (let none : false ≡ true = subst (λ (o : Option Naming). IsSome o) (ap (λ (g : Growth). g.room) (c.take.ensures item.0 item.1)) some in cc);
      none_is = c.self.invariant.none_is;
    }
