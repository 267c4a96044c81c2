use Rattle.std.proofs.Common.{◌≡◌, ℕ, List, take}
use Rattle.shop_model.specs.lists.Catalogues.{naming}
use Rattle.shop_search.specs.Filings.{AreReadyFor}
use Rattle.shop_search.specs.Growing.{held_at}
use Rattle.shop_search.specs.Titles.{titled}
use Rattle.shop_search.proofs.filing.filings.Given as goal

abbrev pub invariant-loop-place : goal.invariant-loop-place
invariant-loop-place l = record {
  same : (q : List ℕ) → held_at l.lists q ≡ held_at l.fn.lists q;
  ready : AreReadyFor l.lists (titled (naming l.item)) (take l.place l.keys) l.filings.items;
}
