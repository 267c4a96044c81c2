-- The last order of each customer, as orders come one by one.
use Rattle.std.proofs.Common.{◌≡◌, ◌≢◌, ℕ, zero, suc, ◌+◌, ◌-◌, ◌<◌, ◌≤◌, ◌==◌, List, [], ◌∷◌, ◌++◌, length, map, filter, get_or, take, set, rules, max, true, false, Option, None, Some, arith, refl, ap, ◌∙◌, sym, append-nil, add-zero, replicate}
use Rattle.std.specs.List.{All, range_with_len, reduce, fold}
use Rattle.std.proofs.lemmas.Bool.{ne_eqb}
use Rattle.std.proofs.lemmas.List.{map-append, take_more, length-take, get_or-take}
use Rattle.std.proofs.lemmas.List.FromFn.{length-map-range_with_len}
use Rattle.std.proofs.lemmas.List.Elements.{filter-append, All-map, All-filter}
use Rattle.shop_model.specs.rows.Rows.{OrderRow}
use Rattle.shop_model.specs.rows.Sound.{Has, Runs, last_of}
use Rattle.shop_model.proofs.cited.Lists.{all_head, all_tail, id_of_place}

fold_last : (a n : ℕ) (ids : List ℕ) → a ≤ n → All (λ i. i ≤ n) ids → fold max a (ids ++ n ∷ []) ≡ n
fold_last a n [] le all = omega arith
fold_last a n (b ∷ ids) le all =
    fold_last (max a b) n ids (omega (arith, all_head (λ i. i ≤ n) b ids all)) (all_tail (λ i. i ≤ n) b ids all)

greatest_last : (n : ℕ) (ids : List ℕ) → All (λ i. i ≤ n) ids → reduce max (ids ++ n ∷ []) ≡ Some n
greatest_last n [] all = refl
greatest_last n (a ∷ ids) all = ap Some (fold_last a n ids (all_head (λ i. i ≤ n) a ids all) (all_tail (λ i. i ≤ n) a ids all))

-- one order more of a customer, whose id is no less than those before it, is its last one
pub last_same : (orders : List OrderRow) (o : OrderRow) (c : ℕ)
    → (o.customer == c) ≡ true → All (λ p. p.id ≤ o.id) orders → last_of (orders ++ o ∷ []) c ≡ Some o.id
unfolding last_of
last_same orders o c is all =
    let kept : List OrderRow = filter (λ o. o.customer == c) orders in
    let low : All (λ p. p.id ≤ o.id) kept = All-filter (λ o. o.customer == c) (λ p. p.id ≤ o.id) orders all in
    let below : All (λ i. i ≤ o.id) (map (λ o. o.id) kept) = All-map (λ i. i ≤ o.id) (λ o. o.id) kept low in
    rw (filter-append, is, map-append) (greatest_last o.id (map (λ o. o.id) kept) below)

-- the others keep theirs
pub last_other : (orders : List OrderRow) (o : OrderRow) (c : ℕ)
    → (o.customer == c) ≡ false → last_of (orders ++ o ∷ []) c ≡ last_of orders c
unfolding last_of
last_other orders o c is = rw (filter-append, is, append-nil)

map_same : {X : Type 0} (f g : ℕ → X) (a n : ℕ)
    → ((r : ℕ) → a ≤ r → g r ≡ f r) → map f (range_with_len a n) ≡ map g (range_with_len a n)
map_same f g a zero same = refl
map_same f g a (suc n) same = rw (same a (omega arith), map_same f g (a + 1) n (λ r h. same r (omega arith)))

-- a value set in a map is another map
pub set_rows : {X : Type 0} (f g : ℕ → X) (a n i : ℕ) (v : X)
    → i < n → g (a + i) ≡ v → ((r : ℕ) → r ≢ a + i → g r ≡ f r)
    → set (map f (range_with_len a n)) i v ≡ map g (range_with_len a n)
set_rows f g a zero i v lt here there = absurd (omega arith)
set_rows f g a (suc n) zero v lt here there =
    let h : g a ≡ v = rw add-zero at here in
    rw (h, map_same f g (a + 1) n (λ r le. there r (λ (e : r ≡ a + 0). omega arith)))
set_rows f g a (suc n) (suc i) v lt here there =
    let e : a + suc i ≡ a + 1 + i = omega arith in
    let h : g (a + 1 + i) ≡ v = rw e at here in
    let others : (r : ℕ) → r ≢ a + 1 + i → g r ≡ f r = λ r ne. there r (λ (x : r ≡ a + suc i). ne (omega (arith, x))) in
    rw (there a (λ (x : a ≡ a + suc i). omega arith), set_rows f g (a + 1) n i v (omega arith) h others)

-- orders before a place have no greater ids
pub ids_before : (orders : List OrderRow) (i : ℕ) (d : OrderRow)
    → Runs (map (λ o. o.id) orders) → i < length orders → All (λ p. p.id ≤ (get_or orders i d).id) (take i orders)
ids_before orders i d runs lt = λ k e within.
    let before : k < i = omega (arith, length-take i orders) in
    let at_k = id_of_place (λ (o : OrderRow). o.id) orders k e runs (omega arith) in
    let at_i = id_of_place (λ (o : OrderRow). o.id) orders i d runs lt in
    rw (get_or-take i orders k e before) (omega (arith, at_k, at_i))

-- without orders no customer has a last one
pub none_yet : (a n : ℕ) → replicate n None ≡ map (last_of []) (range_with_len a n)
unfolding last_of
none_yet a zero = refl
none_yet a (suc n) = ap (λ (xs : List (Option ℕ)). None ∷ xs) (none_yet (a + 1) n)

same_id : (n : ℕ) → (n == n) ≡ true
same_id n = search rules

-- the list of last orders after one order more
pub lasts_step : (orders : List OrderRow) (o : OrderRow) (customers : ℕ)
    → Has customers o.customer → All (λ p. p.id ≤ o.id) orders
    → set (map (last_of orders) (range_with_len 1 customers)) (o.customer - 1) (Some o.id)
    ≡ map (last_of (orders ++ o ∷ [])) (range_with_len 1 customers)
lasts_step orders o customers has all =
    let place : 1 + (o.customer - 1) ≡ o.customer = omega (arith, has.first) in
    set_rows (last_of orders) (last_of (orders ++ o ∷ [])) 1 customers (o.customer - 1) (Some o.id)
    (omega (arith, has.first, has.last))
    (rw place (last_same orders o o.customer (same_id o.customer) all))
    (λ r ne. last_other orders o r (ne_eqb o.customer r (λ (e : o.customer ≡ r). ne (omega (arith, e, place)))))

-- the same along a list of orders, for the one at a place
pub customer_known : (orders : List OrderRow) (i : ℕ) (o : OrderRow) (customers : ℕ)
    → All (λ o. Has customers o.customer) orders → i < length orders → o ≡ get_or orders i o → Has customers o.customer
customer_known orders i o customers known lt is =
    let has : Has customers (get_or orders i o).customer = known i o lt in
    rw is has

pub place_within : (orders : List OrderRow) (i : ℕ) (o : OrderRow) (customers : ℕ) (lasts : List (Option ℕ))
    → All (λ o. Has customers o.customer) orders → i < length orders → o ≡ get_or orders i o
    → lasts ≡ map (last_of (take i orders)) (range_with_len 1 customers) → o.customer - 1 < length lasts
place_within orders i o customers lasts known lt is before =
    let has : Has customers o.customer = customer_known orders i o customers known lt is in
    rw (before, length-map-range_with_len) (omega (arith, has.first, has.last))

pub lasts_more : (orders : List OrderRow) (i : ℕ) (o : OrderRow) (customers : ℕ) (lasts : List (Option ℕ))
    → Runs (map (λ o. o.id) orders) → All (λ o. Has customers o.customer) orders
    → i < length orders → o ≡ get_or orders i o
    → lasts ≡ map (last_of (take i orders)) (range_with_len 1 customers)
    → set lasts (o.customer - 1) (Some o.id) ≡ map (last_of (take (i + 1) orders)) (range_with_len 1 customers)
lasts_more orders i o customers lasts runs known lt is before =
    let has : Has customers o.customer = customer_known orders i o customers known lt is in
    let more : take (i + 1) orders ≡ take i orders ++ o ∷ [] =
    take_more orders i o lt ∙ ap (λ (x : OrderRow). take i orders ++ x ∷ []) (sym is) in
    let all : All (λ p. p.id ≤ o.id) (take i orders) = rw (← is) at (ids_before orders i o runs lt) in
    rw (before, more) (lasts_step (take i orders) o customers has all)
