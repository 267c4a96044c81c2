use Rattle.std.proofs.Common.{map, take}
use Rattle.shop_book.specs.Sales.{RaisesBuyers, has_bought}
use Rattle.shop_book.specs.Stored.{stored, MorePlaces}
use Rattle.shop_book.proofs.buyers.raise_buyers.Given as goal

-- the buyers of the first lines' items are raised
abbrev pub invariant-loop-line : goal.invariant-loop-line
invariant-loop-line l = record {
  places : MorePlaces l.fn.versions l.versions;
  raised : RaisesBuyers (has_bought l.recent.kept l.order.customer) (map (λ r. r.item) (take l.line-index l.line-items)) l.number (stored l.fn.versions) (stored l.versions);
}
