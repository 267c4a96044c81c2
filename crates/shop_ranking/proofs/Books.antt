-- Books by the titles and the days of the items.
use Rattle.std.proofs.Common.{◌≡◌, ℕ, zero, suc, ◌+◌, ◌<◌, List, [], ◌∷◌, length, map, get_or, set, refl, ap, arith}
use Rattle.std.specs.List.{range_with_len}
use Rattle.std.proofs.lemmas.List.{map-set}
use Rattle.shop_model.specs.declared.subject.Subject.{Subject}
use Rattle.shop_model.specs.rows.Rows.{ItemRow}
use Rattle.shop_ranking.specs.StandingNewest.{Book, Days, book_of, books_from}

abbrev book : ℕ → List ℕ → ℕ → Book
book id title day = record { id = id; title = title; published = day }

abbrev pub the_days : List Subject → List (List ℕ) → List ℕ → Days
the_days owns titles days = record { subjects = owns; titles = titles; days = days }

abbrev titles_of : List Book → List (List ℕ)
titles_of books = map (λ b. b.title) books

abbrev days_of : List Book → List ℕ
days_of books = map (λ b. b.published) books

-- the books of rows whose ids run
pub books_of_rows : (id : ℕ) (items : List ItemRow) → map (λ i. i.id) items ≡ range_with_len id (length items)
    → map book_of items ≡ books_from id (titles_of (map book_of items)) (days_of (map book_of items))
unfolding books_from
books_of_rows id [] runs = refl
books_of_rows id (i ∷ items) runs =
    let first : i.id ≡ id = cc in
    let rest : map (λ i. i.id) items ≡ range_with_len (id + 1) (length items) = cc in
    rw first (ap (λ (bs : List Book). book id i.title i.published ∷ bs) (books_of_rows (id + 1) items rest))

-- another day of one book
pub books_redated : (id : ℕ) (books : List Book) (k day : ℕ) (d : Book) → k < length books
    → books ≡ books_from id (titles_of books) (days_of books)
    → set books k (record (get_or books k d) { published = day })
    ≡ books_from id (titles_of books) (set (days_of books) k day)
unfolding books_from
books_redated id [] k day d within numbered = absurd (omega arith)
books_redated id (b ∷ books) zero day d within numbered =
    let first : b ≡ book id b.title b.published = cc in
    let rest : books ≡ books_from (id + 1) (titles_of books) (days_of books) = cc in
    let is : b.id ≡ id = ap (λ (b : Book). b.id) first in
    rw (is, ← rest) refl
books_redated id (b ∷ books) (suc k) day d within numbered =
    let first : b ≡ book id b.title b.published = cc in
    let rest : books ≡ books_from (id + 1) (titles_of books) (days_of books) = cc in
    let more = books_redated (id + 1) books k day d (omega arith) rest in cc

-- the titles stay
pub titles_redated : (books : List Book) (k day : ℕ) (d : Book) → k < length books
    → titles_of (set books k (record (get_or books k d) { published = day })) ≡ titles_of books
titles_redated [] k day d within = refl
titles_redated (b ∷ books) zero day d within = refl
titles_redated (b ∷ books) (suc k) day d within = ap (λ (ts : List (List ℕ)). b.title ∷ ts) (titles_redated books k day d (omega arith))

pub days_redated : (books : List Book) (k day : ℕ) (d : Book)
    → days_of (set books k (record (get_or books k d) { published = day })) ≡ set (days_of books) k day
days_redated books k day d = map-set (λ (b : Book). b.published) books k (record (get_or books k d) { published = day })

-- a book with another day, in its place
abbrev pub redated : List Book → ℕ → ℕ → Book → List Book
redated books k day d = set books k (record (get_or books k d) { published = day })

pub ids_redated : (books : List Book) (k day : ℕ) (d : Book) → k < length books
    → books ≡ books_from 1 (titles_of books) (days_of books)
    → redated books k day d ≡ books_from 1 (titles_of (redated books k day d)) (days_of (redated books k day d))
ids_redated books k day d within numbered =
    rw (titles_redated books k day d within, days_redated books k day d) (books_redated 1 books k day d within numbered)

same_days : (owns : List Subject) (titles now_titles : List (List ℕ)) (days now_days : List ℕ)
    → now_titles ≡ titles → now_days ≡ days
    → the_days owns now_titles now_days ≡ the_days owns titles days
same_days owns titles now_titles days now_days titles_are days_are = rw (titles_are, days_are) refl

-- what the contracts see of it
pub view_redated : (owns : List Subject) (books : List Book) (k day : ℕ) (d : Book) → k < length books
    → the_days owns (titles_of (redated books k day d)) (days_of (redated books k day d))
    ≡ the_days owns (titles_of books) (set (days_of books) k day)
view_redated owns books k day d within =
    same_days owns (titles_of books) _ (set (days_of books) k day) _ (titles_redated books k day d within) (days_redated books k day d)
