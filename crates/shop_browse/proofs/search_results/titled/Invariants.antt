use Rattle.std.proofs.Common.{◌≡◌, map, take}
use Rattle.shop_browse.specs.SearchResults.{titled_in}
use Rattle.shop_browse.proofs.search_results.titled.Given as goal

-- each of the items so far, by its title
abbrev pub invariant-loop-item : goal.invariant-loop-item
invariant-loop-item l = l.titled.items ≡ map (titled_in l.names) (take l.item-index l.items)
