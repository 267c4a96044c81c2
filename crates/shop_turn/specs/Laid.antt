-- The words and the slots of a new shop's table.
use Rattle.std.specs.Prelude.{◌≡◌, ℕ, ◌+◌, ◌*◌, ◌≤◌, List, length, slice_index, Option, Some}
use mathlib.Core.Option.{some}
use lib.ListN.{get_elem?}
use Rattle.shop_book.specs.Books.{BookValue}

-- nobody has the turn, the log and the latest stamp are the book's, no caller has a number, and all are outside
pub record AreWords (book : BookValue) (callers : ℕ) (words : List ℕ) : Type 0 where
  pub wide : length words ≡ 16 * callers + 16
  pub turn : slice_index words 0 ≡ 0
  pub count : slice_index words 1 ≡ length book.log
  pub latest : slice_index words 2 ≡ book.latest
  pub named : slice_index words 3 ≡ 0
  pub outside : (c : ℕ) → 1 ≤ c → c ≤ callers → slice_index words (16 * c) ≡ 0

-- so many callers have their shares in their slots, and the turn has its own in the first
pub record AreShares (book : BookValue) (callers : ℕ) (slots : List (Option BookValue)) : Type 0 where
  pub share : (c : ℕ) → c ≤ callers → get_elem? slots (8 * c) ≡ some (Some book)
