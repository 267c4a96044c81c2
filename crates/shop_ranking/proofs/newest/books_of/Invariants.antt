use Rattle.std.proofs.Common.{◌≡◌, map, take}
use Rattle.shop_ranking.specs.StandingNewest.{book_of}
use Rattle.shop_ranking.proofs.newest.books_of.Given as goal

abbrev pub invariant-loop-item : goal.invariant-loop-item
invariant-loop-item l = l.books.items ≡ map book_of (take l.item-index l.items)
