use Rattle.std.proofs.Common.{◌+◌, ◌≤◌, length, take}
use Rattle.std.specs.HashSet.{spare}
use Rattle.shop_book.specs.Auths.{AreAuths}
use Rattle.shop_book.proofs.auths.Auths.of.Given as goal

abbrev pub invariant-loop-order : goal.invariant-loop-order
invariant-loop-order l = record {
  are : AreAuths (take l.order-index l.orders) l.auths;
  room : length l.orders ≤ l.order-index + spare l.auths.there;
}
