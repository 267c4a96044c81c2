-- How an item is named in lists.
use Rattle.std.specs.Prelude.{ℕ, List}

-- its title, and its author's names
pub record LabelRow : Type 0 where
  pub title : List ℕ
  pub first : List ℕ
  pub last : List ℕ
