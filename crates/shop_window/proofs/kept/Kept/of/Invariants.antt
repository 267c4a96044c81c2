use Rattle.std.proofs.Common.{◌≡◌, ◌≤◌, length, map, take}
use Rattle.std.specs.List.{All}
use Rattle.shop_model.specs.rows.Limits.{lines_limit, quantity_limit}
use Rattle.shop_window.proofs.kept.Kept.of.Given as goal

abbrev pub invariant-loop-place : goal.invariant-loop-place
invariant-loop-place l = record {
  size : length l.pairs ≡ lines_limit;
  front : take l.place l.pairs ≡ map (λ r. (r.item, r.quantity)) (take l.place l.lines);
  quantities : All (λ p. p.1 ≤ quantity_limit) (take l.place l.pairs);
}
