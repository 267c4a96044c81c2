use Rattle.std.proofs.Common.{take}
use Rattle.shop_search.specs.Lists.{Lists}
use Rattle.shop_search.proofs.lists.lists_of.Given as goal

abbrev pub invariant-loop-ranked : goal.invariant-loop-ranked
invariant-loop-ranked l = Lists l.authors l.kind (take l.ranked-index l.listed) l.lists
