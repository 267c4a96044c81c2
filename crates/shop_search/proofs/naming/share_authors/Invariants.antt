use Rattle.std.proofs.Common.{◌≡◌, take}
use Rattle.shop_search.proofs.naming.share_authors.Given as goal

abbrev pub invariant-loop-author : goal.invariant-loop-author
invariant-loop-author l = l.shared ≡ take l.author-index l.authors
