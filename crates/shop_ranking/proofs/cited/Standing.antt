-- What stands of the items of tables is what their lists are made of.
use Rattle.std.proofs.Common.{◌≡◌, ℕ, ◌+◌, Bool, true, false, cond, ◌&&◌, List, [], ◌∷◌, length, map, filter, take, refl, sym, ap, ◌∙◌, ◌-◌, ◌<◌, get_or, arith}
use Rattle.std.specs.List.{range_with_len}
use Rattle.std.specs.Ordering.{is_gt}
use Rattle.std.specs.declared.cmp.Ordering.{Ordering}
use Rattle.std.proofs.lemmas.List.{length-map, take-map, get_or-map}
use Rattle.std.proofs.lemmas.List.FromFn.{get_or-range_with_len}
use Rattle.std.proofs.lemmas.Simd.{map-map}
use Rattle.shop_model.specs.declared.subject.Subject.{Subject}
use Rattle.shop_model.specs.declared.tables.Tables.{Tables}
use Rattle.shop_model.specs.rows.Limits.{list_limit}
use Rattle.shop_model.specs.rows.Rows.{ItemRow}
use Rattle.shop_model.specs.rows.Sound.{Has, Runs}
use Rattle.shop_model.specs.lists.Rankings.{Sale, put_among, in_order, in_subject, better, sales, best, sold_lately, newer, newest}
use Rattle.shop_ranking.specs.Standing.{always, is_under, listed}
use Rattle.shop_ranking.specs.StandingBest.{Units, AreSoldLately, is_sold, sales_from, standing_sales, standing_best}
use Rattle.shop_ranking.specs.StandingNewest.{Book, Days, AreAsPublished, book_of, books_from, later, standing_books, standing_newest}

-- the sale of an item of which so many units stand
abbrev sale_of : (ItemRow → ℕ) → ItemRow → Sale
sale_of units i = record { id = i.id; units = units i }

sold_by : (b : Bool) (units : ItemRow → ℕ) (id : ℕ) (i : ItemRow) (items : List ItemRow) (others : List Sale)
    → i.id ≡ id → others ≡ filter is_sold (map (sale_of units) items)
    → cond (b && is_sold (record { id = id; units = units i })) (record { id = id; units = units i } ∷ others) others
    ≡ filter is_sold (map (sale_of units) (cond b (i ∷ items) items))
sold_by true units id i items others is rest = rw (rest, is) refl
sold_by false units id i items others is rest = rest

sold_in : (units : ItemRow → ℕ) (subject : Subject) (id : ℕ) (items : List ItemRow)
    → map (λ i. i.id) items ≡ range_with_len id (length items)
    → listed is_sold subject (map (λ i. i.subject) items) (sales_from id (map units items))
    ≡ filter is_sold (map (sale_of units) (in_subject subject items))
unfolding listed sales_from
sold_in units subject id [] runs = refl
sold_in units subject id (i ∷ items) runs =
    let first : i.id ≡ id = cc in
    let rest : map (λ i. i.id) items ≡ range_with_len (id + 1) (length items) = cc in
    sold_by (is_under subject i.subject) units id i (in_subject subject items) _ first (sold_in units subject (id + 1) items rest)

-- the items of a subject of which some units stand are those that were sold
pub standing_sales_are : (t : Tables) (u : Units) (subject : Subject)
    → Runs (map (λ i. i.id) t.items) → AreSoldLately t u → standing_sales u subject ≡ sales t subject
standing_sales_are t u subject runs are =
    let ids : map (λ i. i.id) t.items ≡ range_with_len 1 (length t.items) =
    runs.from_one ∙ ap (range_with_len 1) (length-map t.items (λ (i : ItemRow). i.id)) in
    rw (are.subjects, are.units) (sold_in (λ i. sold_lately t i.id) subject 1 t.items ids)

-- the units that stand of an item are those that were sold of it
pub standing_units_are : (t : Tables) (u : Units) (item : ℕ)
    → Runs (map (λ i. i.id) t.items) → AreSoldLately t u → Has (length t.items) item → get_or u.units (item - 1) 0 ≡ sold_lately t item
standing_units_are t u item runs are has =
    let ids = map (λ (i : ItemRow). i.id) t.items in
    let size : length ids ≡ length t.items = length-map t.items (λ (i : ItemRow). i.id) in
    let within : item - 1 < length ids = omega (arith, size, has.first, has.last) in
    let place : 1 + (item - 1) ≡ item = omega (arith, has.first) in
    ap (λ (units : List ℕ). get_or units (item - 1) 0) (are.units ∙ sym (map-map (sold_lately t) (λ (i : ItemRow). i.id) t.items))
    ∙ get_or-map (sold_lately t) ids (item - 1) 0 0 within
    ∙ ap (λ (all : List ℕ). sold_lately t (get_or all (item - 1) 0)) runs.from_one
    ∙ ap (sold_lately t) (get_or-range_with_len 1 (length ids) (item - 1) 0 within ∙ place)

-- the best sold ones
pub standing_best_is : (t : Tables) (u : Units) (subject : Subject)
    → Runs (map (λ i. i.id) t.items) → AreSoldLately t u → standing_best u subject ≡ best t subject
unfolding standing_best best
standing_best_is t u subject runs are =
    ap (λ xs. map (λ s. s.id) (take list_limit (in_order better xs))) (standing_sales_are t u subject runs are)

put_by : {A B : Type 0} (f : A → B) (b : Bool) (x y : A) (put ys : List A) (puts : List B) → map f put ≡ puts
    → map f (cond b (y ∷ put) (x ∷ y ∷ ys)) ≡ cond b (f y ∷ puts) (f x ∷ f y ∷ map f ys)
put_by f true x y put ys puts is = ap (λ zs. f y ∷ zs) is
put_by f false x y put ys puts is = refl

-- elements are in order by what the order reads of them
map_put : {A B : Type 0} (f : A → B) (order : B → B → Ordering) (x : A) (xs : List A)
    → map f (put_among (λ a b. order (f a) (f b)) x xs) ≡ put_among order (f x) (map f xs)
unfolding put_among
map_put f order x [] = refl
map_put f order x (y ∷ ys) =
    put_by f (is_gt (order (f x) (f y))) x y (put_among (λ a b. order (f a) (f b)) x ys) ys (put_among order (f x) (map f ys)) (map_put f order x ys)

pub map_in_order : {A B : Type 0} (f : A → B) (order : B → B → Ordering) (xs : List A)
    → map f (in_order (λ a b. order (f a) (f b)) xs) ≡ in_order order (map f xs)
unfolding in_order
map_in_order f order [] = refl
map_in_order f order (x ∷ xs) =
    map_put f order x (in_order (λ a b. order (f a) (f b)) xs) ∙ ap (put_among order (f x)) (map_in_order f order xs)

book_by : (b : Bool) (id : ℕ) (i : ItemRow) (items : List ItemRow) (others : List Book)
    → i.id ≡ id → others ≡ map book_of items
    → cond (b && true) (record { id = id; title = i.title; published = i.published } ∷ others) others
    ≡ map book_of (cond b (i ∷ items) items)
book_by true id i items others is rest = rw (rest, is) refl
book_by false id i items others is rest = rest

books_in : (subject : Subject) (id : ℕ) (items : List ItemRow)
    → map (λ i. i.id) items ≡ range_with_len id (length items)
    → listed always subject (map (λ i. i.subject) items) (books_from id (map (λ i. i.title) items) (map (λ i. i.published) items))
    ≡ map book_of (in_subject subject items)
unfolding listed books_from
books_in subject id [] runs = refl
books_in subject id (i ∷ items) runs =
    let first : i.id ≡ id = cc in
    let rest : map (λ i. i.id) items ≡ range_with_len (id + 1) (length items) = cc in
    book_by (is_under subject i.subject) id i (in_subject subject items) _ first (books_in subject (id + 1) items rest)

-- the books of a subject are those of its items
pub standing_books_are : (t : Tables) (d : Days) (subject : Subject)
    → Runs (map (λ i. i.id) t.items) → AreAsPublished t d → standing_books d subject ≡ map book_of (in_subject subject t.items)
standing_books_are t d subject runs are =
    let ids : map (λ i. i.id) t.items ≡ range_with_len 1 (length t.items) =
    runs.from_one ∙ ap (range_with_len 1) (length-map t.items (λ (i : ItemRow). i.id)) in
    rw (are.subjects, are.titles, are.days) (books_in subject 1 t.items ids)

-- the newest ones
pub standing_newest_is : (t : Tables) (d : Days) (subject : Subject)
    → Runs (map (λ i. i.id) t.items) → AreAsPublished t d → standing_newest d subject ≡ newest t subject
unfolding standing_newest newest
standing_newest_is t d subject runs are =
    let rows = in_subject subject t.items in
    let ordered : in_order later (standing_books d subject) ≡ map book_of (in_order newer rows) =
    ap (in_order later) (standing_books_are t d subject runs are) ∙ sym (map_in_order book_of later rows) in
    rw (ordered, take-map) (map-map (λ b. b.id) book_of (take list_limit (in_order newer rows)))
