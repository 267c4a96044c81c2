use Rattle.std.proofs.Common.{◌≡◌, ℕ, ◌*◌, ◌<◌, length, Some}
use mathlib.Core.Option.{some}
use lib.ListN.{get_elem?}
use Rattle.shop_turn.proofs.laid.shares_of.Given as goal

abbrev pub invariant-loop-slot : goal.invariant-loop-slot
invariant-loop-slot l = (length l.slots.items ≡ l.slot) × ((c : ℕ) → 8 * c < l.slot → get_elem? l.slots.items (8 * c) ≡ some (Some l.share))
