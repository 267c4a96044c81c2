-- Lists of the items of each subject, by what stands of each item.
use Rattle.std.specs.Prelude.{◌≡◌, ℕ, ◌≤◌, Bool, true, ◌&&◌, List, [], ◌∷◌, length, filter, get_or, Vec, vec_capacity, All, Some, slice_get, if◌then◌else◌}
use Rattle.std.specs.declared.cmp.Ordering.{Ordering}
use Rattle.std.specs.Str.{bytes_eq}
use Rattle.shop_model.specs.declared.subject.Subject.{Subject}
use Rattle.shop_model.specs.rows.Subjects.{subjects, subject_name}
use Rattle.shop_model.specs.lists.Rankings.{in_order}

-- whether an item of one subject is listed under another
abbrev pub is_under : Subject → Subject → Bool
is_under subject own = bytes_eq (subject_name own) (subject_name subject)

-- every element is shown
abbrev pub always : {A : Type 0} → A → Bool
always x = true

-- what is shown under a subject, where these are the subjects and the elements of the items
unfoldable pub listed : {A : Type 0} → (A → Bool) → Subject → List Subject → List A → List A
listed shown subject [] xs = []
listed shown subject (own ∷ owns) [] = []
listed shown subject (own ∷ owns) (x ∷ xs) =
    if is_under subject own && shown x then x ∷ listed shown subject owns xs else listed shown subject owns xs

-- the lists of all subjects, by their numbers: each has what is shown under its subject, in order
pub record AreRankings {A Memory : Type 0} (shown : A → Bool) (order : A → A → Ordering) (owns : List Subject) (elements : List A) (lists : List (Vec A Memory)) : Type 0 where
  pub size : length lists ≡ length subjects
  pub each : (number : ℕ) (subject : Subject) (list : Vec A Memory) → slice_get subjects number ≡ Some subject
      → (get_or lists number list).items ≡ in_order order (listed shown subject owns elements)

-- each has room for all items of its subject
pub record AreRoomy {A Memory : Type 0} (owns : List Subject) (lists : List (Vec A Memory)) : Type 0 where
  pub each : (number : ℕ) (subject : Subject) (list : Vec A Memory) → slice_get subjects number ≡ Some subject
      → length (filter (is_under subject) owns) ≤ vec_capacity (get_or lists number list)

-- the lists before any item stands in one
pub record AreNew {A Memory : Type 0} (owns : List Subject) (lists : List (Vec A Memory)) : Type 0 where
  pub size : length lists ≡ length subjects
  pub none : All (λ list. list.items ≡ []) lists
  pub room : AreRoomy owns lists

-- the lists as they are kept, with room to move every item
pub record AreKept {A Memory : Type 0} (shown : A → Bool) (order : A → A → Ordering) (owns : List Subject) (elements : List A) (lists : List (Vec A Memory)) : Type 0 where
  pub same : length elements ≡ length owns
  pub rankings : AreRankings shown order owns elements lists
  pub room : AreRoomy owns lists
