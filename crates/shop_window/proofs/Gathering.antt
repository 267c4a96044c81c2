-- The pairs of lists that were gathered: their units, their items, and the items that have units.
use Rattle.std.proofs.Common.{◌≡◌, ℕ, zero, suc, ◌+◌, ◌-◌, ◌==◌, List, [], ◌∷◌, ◌++◌, Bor, map, filter, flat_map, refl, ap, ◌∙◌, arith, if◌then◌else◌}
use Rattle.std.specs.List.{All, range_with_len, sum_by}
use Rattle.std.proofs.lemmas.List.Elements.{All-append}
use Rattle.std.proofs.lemmas.List.Sorted.{All-permutation, sum_by-IsPermutation}
use Rattle.std.proofs.lemmas.List.Sums.{sum_by-append, sum_by-cons}
use Rattle.shop_model.specs.rows.Sound.{Has}
use Rattle.shop_model.specs.lists.Rankings.{Sale}
use Rattle.shop_model.specs.lists.Related.{units_in_lines, sale_among, besides}
use Rattle.shop_window.specs.Gathered.{AreGathered, sale_in, is_beside, besides_from}
use Rattle.shop_window.specs.Totals.{units_of}
use Rattle.shop_window.proofs.Adding.{units_cons}

abbrev joined : List (List (ℕ × ℕ)) → List (ℕ × ℕ)
joined lists = flat_map (λ ps. ps) lists

-- lists that are lent, joined
pub lent_joined : (lists : List (Bor (List (ℕ × ℕ)))) → flat_map (λ l. l.now) lists ≡ joined (map (λ l. l.now) lists)
lent_joined [] = refl
lent_joined (l ∷ lists) = ap (λ ps. l.now ++ ps) (lent_joined lists)

-- the units of an item are a sum over all pairs

abbrev part : ℕ → ℕ × ℕ → ℕ
part item pair = if pair.0 == item then pair.1 else 0

units_are : (item : ℕ) (pairs : List (ℕ × ℕ)) → units_in_lines item pairs ≡ sum_by (part item) pairs
units_are item [] = refl
units_are item (pair ∷ pairs) =
    omega (arith, units_cons item pair pairs, sum_by-cons (part item) pair pairs, units_are item pairs)

units_joined : (item : ℕ) (lists : List (List (ℕ × ℕ))) → sum_by (part item) (joined lists) ≡ sum_by (units_in_lines item) lists
units_joined item [] = refl
units_joined item (pairs ∷ lists) =
    omega (arith, sum_by-append (part item) pairs (joined lists), sum_by-cons (units_in_lines item) pairs lists, units_are item pairs, units_joined item lists)

-- an item has the units that it has in the lists
pub units_gathered : (item : ℕ) (lists : List (List (ℕ × ℕ))) (pairs : List (ℕ × ℕ)) → AreGathered lists pairs
    → units_in_lines item pairs ≡ sum_by (units_in_lines item) lists
units_gathered item lists pairs are =
    units_are item pairs ∙ sum_by-IsPermutation (part item) (joined lists) pairs are.same ∙ units_joined item lists

all_joined : (lists : List (List (ℕ × ℕ))) → units_of (joined lists) ≡ sum_by units_of lists
all_joined [] = refl
all_joined (pairs ∷ lists) =
    omega (arith, sum_by-append (λ (p : ℕ × ℕ). p.1) pairs (joined lists), sum_by-cons units_of pairs lists, all_joined lists)

-- all units are those of the lists
pub all_gathered : (lists : List (List (ℕ × ℕ))) (pairs : List (ℕ × ℕ)) → AreGathered lists pairs → units_of pairs ≡ sum_by units_of lists
all_gathered lists pairs are = sum_by-IsPermutation (λ (p : ℕ × ℕ). p.1) (joined lists) pairs are.same ∙ all_joined lists

names_joined : (items : ℕ) (lists : List (List (ℕ × ℕ))) → All (λ ps. All (λ p. Has items p.0) ps) lists → All (λ p. Has items p.0) (joined lists)
names_joined items [] names = λ i d within. absurd (omega arith)
names_joined items (pairs ∷ lists) names =
    All-append (λ (p : ℕ × ℕ). Has items p.0) pairs (joined lists) (names 0 [] (omega arith))
    (names_joined items lists (λ i d within. names (suc i) d (omega arith)))

-- all items are there
pub names_gathered : (items : ℕ) (lists : List (List (ℕ × ℕ))) (pairs : List (ℕ × ℕ)) → All (λ ps. All (λ p. Has items p.0) ps) lists
    → AreGathered lists pairs → All (λ p. Has items p.0) pairs
names_gathered items lists pairs names are =
    All-permutation (λ (p : ℕ × ℕ). Has items p.0) (joined lists) pairs are.same (names_joined items lists names)

abbrev sale_of : ℕ → ℕ → Sale
sale_of id units = record { id = id; units = units }

same_sales : (lists : List (List (ℕ × ℕ))) (pairs : List (ℕ × ℕ)) → AreGathered lists pairs → (id n : ℕ)
    → map (sale_in pairs) (range_with_len id n) ≡ map (sale_among lists) (range_with_len id n)
same_sales lists pairs are id zero = refl
same_sales lists pairs are id (suc n) =
    ap (λ k. sale_of id k ∷ map (sale_in pairs) (range_with_len (id + 1) n)) (units_gathered id lists pairs are)
    ∙ ap (λ ss. sale_among lists id ∷ ss) (same_sales lists pairs are (id + 1) n)

-- the items that have units are those that the lists have
pub besides_are : (lists : List (List (ℕ × ℕ))) (pairs : List (ℕ × ℕ)) (item items : ℕ) → AreGathered lists pairs
    → besides_from 1 pairs item items ≡ besides lists item items
besides_are lists pairs item items are =
    let size : items + 1 - 1 ≡ items = omega arith in
    rw size (ap (filter (is_beside item)) (same_sales lists pairs are 1 items))
