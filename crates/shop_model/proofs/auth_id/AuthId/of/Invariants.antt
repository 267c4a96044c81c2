use Rattle.std.proofs.Common.{◌≡◌, ◌≤◌, ◌++◌, length, drop}
use Rattle.std.specs.List.{All}
use Rattle.std.specs.Char.{IsAsciiDigit}
use Rattle.shop_model.specs.rows.AuthIds as spec
use Rattle.shop_model.proofs.auth_id.AuthId.of.Given as goal

abbrev pub invariant-loop-place : goal.invariant-loop-place
invariant-loop-place l = record {
  within : l.place ≤ 15;
  size : length l.digits ≡ 15;
  ascii : All IsAsciiDigit l.digits;
  so_far : spec.digits 15 l.number ≡ spec.digits l.place l.rest ++ drop l.place l.digits;
}

abbrev pub decreases-loop-place : goal.decreases-loop-place
decreases-loop-place l = l.place
