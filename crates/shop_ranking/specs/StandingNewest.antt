-- The newest items by the days that stand of each item. The items are numbered from 1.
use Rattle.std.specs.Prelude.{◌≡◌, ℕ, ◌+◌, List, [], ◌∷◌, map, take, Vec}
use Rattle.std.specs.Cmp.Lexicographic.{slice_cmp}
use Rattle.std.specs.Ordering.{ordering_then, nat_cmp}
use Rattle.std.specs.declared.cmp.Ordering.{Ordering}
use Rattle.shop_model.specs.declared.subject.Subject.{Subject}
use Rattle.shop_model.specs.declared.tables.Tables.{Tables}
use Rattle.shop_model.specs.rows.Limits.{list_limit}
use Rattle.shop_model.specs.rows.Rows.{ItemRow}
use Rattle.shop_model.specs.lists.Rankings.{in_order}
use Rattle.shop_ranking.specs.Standing.{always, listed, AreKept}

-- what the order of new items reads of an item
pub record Book : Type 0 where
  pub id : ℕ
  pub title : List ℕ
  pub published : ℕ

-- that of a row
abbrev pub book_of : ItemRow → Book
book_of i = record { id = i.id; title = i.title; published = i.published }

-- later days come first, then titles in the order of their bytes, then smaller ids
abbrev pub later : Book → Book → Ordering
later a b =
    ordering_then (nat_cmp b.published a.published)
    (ordering_then (slice_cmp nat_cmp a.title b.title) (nat_cmp a.id b.id))

-- the subjects and the titles of the items, and the days of publication that stand of each
pub record Days : Type 0 where
  pub subjects : List Subject
  pub titles : List (List ℕ)
  pub days : List ℕ

-- books that are numbered from this id
unfoldable pub books_from : ℕ → List (List ℕ) → List ℕ → List Book
books_from id [] days = []
books_from id (title ∷ titles) [] = []
books_from id (title ∷ titles) (day ∷ days) =
    record { id = id; title = title; published = day } ∷ books_from (id + 1) titles days

-- the items of a subject
abbrev pub standing_books : Days → Subject → List Book
standing_books d subject = listed always subject d.subjects (books_from 1 d.titles d.days)

-- the ids of the newest items of a subject
unfoldable pub standing_newest : Days → Subject → List ℕ
standing_newest d subject = map (λ b. b.id) (take list_limit (in_order later (standing_books d subject)))

-- of each item what its row says
pub record AreAsPublished (t : Tables) (d : Days) : Type 0 where
  pub subjects : d.subjects ≡ map (λ i. i.subject) t.items
  pub titles : d.titles ≡ map (λ i. i.title) t.items
  pub days : d.days ≡ map (λ i. i.published) t.items

-- books that are numbered from 1, and the lists that are kept of them
pub record AreKeptBooks {Memory : Type 0} (owns : List Subject) (books : List Book) (lists : List (Vec Book Memory)) : Type 0 where
  pub ids : books ≡ books_from 1 (map (λ b. b.title) books) (map (λ b. b.published) books)
  pub kept : AreKept always later owns books lists
