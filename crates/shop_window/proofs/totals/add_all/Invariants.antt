use Rattle.std.proofs.Common.{◌≡◌, drop}
use Rattle.shop_window.specs.Totals.{add_all}
use Rattle.shop_window.proofs.totals.add_all.Given as goal

abbrev pub invariant-loop-place : goal.invariant-loop-place
invariant-loop-place l = l.totals.items ≡ add_all (drop l.place l.lines) l.initial.totals.items
