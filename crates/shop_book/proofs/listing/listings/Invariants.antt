use Rattle.std.proofs.Common.{◌≡◌, map, take}
use Rattle.shop_book.proofs.listing.listings.Given as goal

-- the lists of the first subjects
abbrev pub invariant-loop-subject : goal.invariant-loop-subject
invariant-loop-subject g l = l.lists.items ≡ map (g.L.Lister.listed l.lister) (take l.subject-index l.subject-items)
