-- Lists of rows whose ids run from 1.
use Rattle.std.proofs.Common.{◌≡◌, ℕ, zero, suc, ◌+◌, ◌-◌, ◌<◌, ◌≤◌, List, [], ◌∷◌, ◌++◌, length, map, filter, get_or, arith, refl, ◌∙◌, sym, ap, Bool, false}
use Rattle.std.specs.List.{range_with_len, All}
use Rattle.std.proofs.lemmas.List.{get_or-map, length-map}
use Rattle.std.proofs.lemmas.List.FromFn.{map-range_with_len_more, length-map-range_with_len, length-range_with_len, get_or-range_with_len, get_or-map-range_with_len}
use Rattle.std.proofs.lemmas.List.Elements.{All-map}
use Rattle.shop_model.specs.rows.Sound.{Runs}

pub all_head : {X : Type 0} (P : X → Type 0) (x : X) (xs : List X) → All P (x ∷ xs) → P x
all_head P x xs all = all 0 x (omega arith)

pub all_tail : {X : Type 0} (P : X → Type 0) (x : X) (xs : List X) → All P (x ∷ xs) → All P xs
all_tail P x xs all = λ k d within. all (suc k) d (omega arith)

-- what holds of each row holds of all rows
pub all_rows : {X : Type 0} (P : X → Type 0) (f : ℕ → X) (n : ℕ)
    → ((r : ℕ) → 1 ≤ r → r ≤ n → P (f r)) → All P (map f (range_with_len 1 n))
all_rows P f n each =
    All-map P f (range_with_len 1 n) (λ k d h.
    let lt : k < n = rw length-range_with_len at h in
    rw get_or-range_with_len (each (1 + k) (omega arith) (omega arith)))

-- the ids of rows that keep their numbers as ids
pub ids_of : {X : Type 0} (id : X → ℕ) (f : ℕ → X) (a n : ℕ)
    → ((r : ℕ) → id (f r) ≡ r) → map id (map f (range_with_len a n)) ≡ range_with_len a n
ids_of id f a zero same = refl
ids_of id f a (suc n) same = rw (same a, ids_of id f (a + 1) n same)

-- a map over rows
pub map_rows : {X Y : Type 0} (g : X → Y) (f : ℕ → X) (h : ℕ → Y) (a n : ℕ)
    → ((r : ℕ) → g (f r) ≡ h r) → map g (map f (range_with_len a n)) ≡ map h (range_with_len a n)
map_rows g f h a zero same = refl
map_rows g f h a (suc n) same = rw (same a, map_rows g f h (a + 1) n same)

-- no row passes a test that none passes
pub none_passes : {X : Type 0} (p : X → Bool) (f : ℕ → X) (a n : ℕ)
    → ((r : ℕ) → r < a + n → p (f r) ≡ false) → filter p (map f (range_with_len a n)) ≡ []
none_passes p f a zero fails = refl
none_passes p f a (suc n) fails =
    rw (fails a (omega arith)) (none_passes p f (a + 1) n (λ r h. fails r (omega arith)))

-- one row more
pub rows_push : {X : Type 0} (f : ℕ → X) (n : ℕ) {table now : List X} {row : X}
    → table ≡ map f (range_with_len 1 n) → row ≡ f (n + 1) → now ≡ table ++ row ∷ []
    → now ≡ map f (range_with_len 1 (n + 1))
rows_push f n before new all =
    rw (all, before, new) (sym (map-range_with_len_more f 1 n (n + 1) (omega arith)))

-- the row with an id stands at the place before it
pub id_within : {X : Type 0} (f : ℕ → X) (n id : ℕ) (table : List X)
    → table ≡ map f (range_with_len 1 n) → 1 ≤ id → id ≤ n → id - 1 < length table
id_within f n id table all low high = rw (all, length-map-range_with_len) (omega arith)

pub row_at : {X : Type 0} (f : ℕ → X) (n id : ℕ) (table : List X) (row : X)
    → table ≡ map f (range_with_len 1 n) → 1 ≤ id → id ≤ n → row ≡ get_or table (id - 1) row → row ≡ f id
row_at f n id table row all low high is =
    is ∙ ap (λ rows. get_or rows (id - 1) row) all ∙ get_or-map-range_with_len f 1 n (id - 1) id row (omega arith) (omega arith)

-- where ids run from 1, the row at a place has the id after it
pub id_of_place : {X : Type 0} (id : X → ℕ) (rows : List X) (k : ℕ) (d : X)
    → Runs (map id rows) → k < length rows → id (get_or rows k d) ≡ 1 + k
id_of_place id rows k d runs lt =
    let within : k < length (map id rows) = rw length-map lt in
    sym (get_or-map id rows k d 0 lt) ∙ ap (λ (xs : List ℕ). get_or xs k 0) runs.from_one
    ∙ get_or-range_with_len 1 (length (map id rows)) k 0 within
