-- The lists of the subjects before any item stands in one.
use Rattle.std.proofs.Common.{◌≡◌, ℕ, ◌<◌, ◌≤◌, List, [], length, filter, get_or, Some, Vec, vec_capacity}
use Rattle.std.specs.List.{All, slice_get}
use Rattle.shop_model.specs.declared.subject.Subject.{Subject}
use Rattle.shop_model.specs.rows.Subjects.{subjects}
use Rattle.shop_ranking.specs.Standing.{is_under}

-- those of the first subjects
pub record AreNewTo {A Memory : Type 0} (count : ℕ) (owns : List Subject) (lists : List (Vec A Memory)) : Type 0 where
  pub size : length lists ≡ count
  pub none : All (λ list. list.items ≡ []) lists
  pub room : (number : ℕ) (subject : Subject) (list : Vec A Memory) → number < count → slice_get subjects number ≡ Some subject
      → length (filter (is_under subject) owns) ≤ vec_capacity (get_or lists number list)
