-- What details of an item tell of what never changes of it.
use Rattle.std.specs.Prelude.{◌≡◌, Option, Some}
use Rattle.shop_model.specs.declared.item.ItemDetails.{ItemDetails}
use Rattle.shop_model.specs.lists.Catalogues.{Naming}

-- there is an item, and the details have its title and its author
pub record IsNamedBy (found : Option Naming) (details : ItemDetails) : Type 0 where
  pub naming : Naming
  pub there : found ≡ Some naming
  pub title_is : details.title ≡ naming.title
  pub author_is : details.author ≡ naming.author
