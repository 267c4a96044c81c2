use Rattle.std.proofs.Common.{◌≡◌, ◌-◌, ◌≤◌, length, take}
use Rattle.shop_window.proofs.Filling.{found}
use Rattle.shop_window.proofs.related.filled.Given as goal

abbrev pub invariant-loop-count : goal.invariant-loop-count
invariant-loop-count l = record {
  size : length l.five ≡ 5;
  few : l.count ≤ 5;
  within : l.others ≤ l.items - 1;
  count : length (found l.most l.item l.items l.others) ≡ l.count;
  front : take l.count l.five ≡ found l.most l.item l.items l.others;
}

abbrev pub decreases-loop-count : goal.decreases-loop-count
decreases-loop-count l = l.items - l.others
