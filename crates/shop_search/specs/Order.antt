-- The order of lists.
use Rattle.std.specs.Prelude.{List}
use Rattle.std.specs.Cmp.{IsTotalOrder}
use Rattle.std.specs.List.Sorted.{IsSorted, IsStable}
use Rattle.std.proofs.lemmas.Cmp.{nat_cmp_total, nat_list_cmp_total, on_total, then_total}
use Rattle.shop_model.specs.lists.Catalogues.{Naming, by_title}

-- titles and ids order all namings
pub by_title_total : IsTotalOrder by_title
by_title_total =
    then_total (on_total (λ (i : Naming). i.title) nat_list_cmp_total) (on_total (λ (i : Naming). i.id) nat_cmp_total)

-- the listed namings are those of the items, sorted, and such as tie keep their order
pub record IsListed (items listed : List Naming) : Type 0 where
  pub sorted : IsSorted by_title listed
  pub stable : IsStable by_title items listed
