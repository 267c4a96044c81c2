use Rattle.std.proofs.Common.{◌≡◌, ◌+◌, ◌≤◌, length, take}
use Rattle.shop_book.proofs.addresses.Addresses.of.Given as goal

abbrev pub invariant-loop-row : goal.invariant-loop-row
invariant-loop-row l = record {
  rows : l.addresses.rows ≡ take l.row-index l.rows;
  room : length l.rows ≤ l.row-index + l.addresses.room;
}
