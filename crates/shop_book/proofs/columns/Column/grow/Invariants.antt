use Rattle.std.proofs.Common.{◌≡◌, ℕ, ◌-◌, ◌≤◌, length, vec_len}
use Rattle.shop_book.specs.Columns.{at}
use Rattle.shop_book.proofs.columns.Column.grow.Given as goal

abbrev pub invariant-loop-self : goal.invariant-loop-self
invariant-loop-self l = record {
  same : (id : ℕ) → at l.self-inside.numbers.items id ≡ at l.fn.self id;
  longer : length l.fn.self ≤ length l.self-inside.numbers.items;
}

abbrev pub decreases-loop-self : goal.decreases-loop-self
decreases-loop-self l = l.count - vec_len l.self-inside.numbers
