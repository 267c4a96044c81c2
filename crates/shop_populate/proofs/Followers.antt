-- The five items that follow an item exist, are distinct, and none is the item.
use Rattle.std.proofs.Common.{◌≡◌, ℕ, ◌+◌, ◌-◌, ◌%◌, ◌<◌, ◌≤◌, ◌≢◌, length, ◌⊎◌, inl, inr, arith, map, add-zero}
use Rattle.std.specs.List.{All, AllPairs, range_with_len}
use Rattle.std.proofs.lemmas.List.FromFn.{length-map-range_with_len, get_or-map-range_with_len}
use Rattle.std.proofs.Math.Nat.{mod-eq_of_lt, mod-eq-sub-mod}
use Rattle.std.proofs.lemmas.Bool.{cases_lt}
use Rattle.shop_model.specs.rows.Sound.{Has}
use Rattle.shop_model.specs.population.Population.{followers}

-- below twice n, a number wraps at most once
wraps : (n x : ℕ) → x < n + n → (x % n ≡ x) ⊎ (x % n + n ≡ x)
wraps n x lt = elim (cases_lt x n) [
  | inl low ↦ inl (mod-eq_of_lt low)
  | inr high ↦
      let once : (x - n) % n ≡ x - n = mod-eq_of_lt (omega arith) in
      inr (omega (arith, mod-eq-sub-mod high, once))
]

-- two numbers that are less than n apart
apart : (n x y : ℕ) → x < y → y < x + n → y < n + n → x % n ≢ y % n
apart n x y less near low = λ same. omega (arith, wraps n x (omega arith), wraps n y low)

-- the follower at a place
follower : ℕ → ℕ → ℕ → ℕ
follower n r k = 1 + (r + k) % n

followers_are : (n r : ℕ) → followers n r ≡ map (follower n r) (range_with_len 0 5)
unfolding followers follower
followers_are n r = rw add-zero

-- what holds of the follower at each place holds of all five
all_followers : (P : ℕ → Type 0) (n r : ℕ)
    → ((k : ℕ) → k < 5 → P (follower n r k)) → All P (followers n r)
all_followers P n r each = rw followers_are (λ k d within.
    let few : k < 5 = rw length-map-range_with_len at within in
    rw (get_or-map-range_with_len (follower n r) 0 5 k k d few (omega arith)) (each k few))

pub followers_exist : (n r : ℕ) → 1 ≤ n → All (Has n) (followers n r)
unfolding follower
followers_exist n r some =
    all_followers (Has n) n r (λ k few. record { first = omega arith; last = omega arith })

pub followers_are_others : (n r : ℕ) → 6 ≤ n → 1 ≤ r → r ≤ n → All (λ id. id ≢ r) (followers n r)
unfolding follower
followers_are_others n r six low high = all_followers (λ id. id ≢ r) n r (λ k few same.
    let itself : (r - 1) % n ≡ r - 1 = mod-eq_of_lt (omega arith) in
    apart n (r - 1) (r + k) (omega arith) (omega arith) (omega arith) (omega (arith, itself, same)))

pub followers_differ : (n r : ℕ) → 6 ≤ n → r ≤ n → AllPairs (λ a b. a ≢ b) (followers n r)
unfolding follower
followers_differ n r six high = rw followers_are (λ i j d less within same.
    let few : j < 5 = rw length-map-range_with_len at within in
    let a = get_or-map-range_with_len (follower n r) 0 5 i i d (omega arith) (omega arith) in
    let b = get_or-map-range_with_len (follower n r) 0 5 j j d few (omega arith) in
    apart n (r + i) (r + j) (omega arith) (omega arith) (omega arith) (omega (arith, a, b, same)))

pub five_follow : (n r : ℕ) → length (followers n r) ≡ 5
five_follow n r = rw (followers_are, length-map-range_with_len)
