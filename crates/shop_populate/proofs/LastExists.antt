-- A customer's last order is among the orders that there are.
use Rattle.std.proofs.Common.{ℕ, ◌==◌, List, [], ◌∷◌, map, filter, arith, max, IfSome}
use Rattle.std.specs.List.{All, reduce, fold}
use Rattle.std.proofs.lemmas.List.Elements.{All-head, All-tail, All-map, All-filter}
use Rattle.shop_model.specs.rows.Rows.{OrderRow}
use Rattle.shop_model.specs.rows.Sound.{Has, last_of}

-- the larger of two ids that exist exists
max_exists : (n a b : ℕ) → Has n a → Has n b → Has n (max a b)
max_exists n a b ha hb = record { first = omega arith; last = omega arith }

fold_exists : (n a : ℕ) (ids : List ℕ) → Has n a → All (Has n) ids → Has n (fold max a ids)
fold_exists n a [] has all = has
fold_exists n a (b ∷ ids) has all =
    fold_exists n (max a b) ids (max_exists n a b has (All-head (Has n) b ids all)) (All-tail (Has n) b ids all)

greatest_exists : (n : ℕ) (ids : List ℕ) → All (Has n) ids → IfSome (reduce max ids) (Has n)
greatest_exists n [] all = tt
greatest_exists n (a ∷ ids) all =
    fold_exists n a ids (All-head (Has n) a ids all) (All-tail (Has n) a ids all)

pub last_exists : (n customer : ℕ) (orders : List OrderRow)
    → All (λ o. Has n o.id) orders → IfSome (last_of orders customer) (Has n)
unfolding last_of
last_exists n customer orders all =
    let kept : List OrderRow = filter (λ o. o.customer == customer) orders in
    let these : All (λ o. Has n o.id) kept = All-filter (λ o. o.customer == customer) (λ o. Has n o.id) orders all in
    greatest_exists n (map (λ o. o.id) kept) (All-map (Has n) (λ o. o.id) kept these)
