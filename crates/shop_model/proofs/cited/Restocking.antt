-- The least number of restocks, as a quotient, and what it leaves.
use Rattle.std.proofs.Common.{◌≡◌, ℕ, zero, suc, ◌+◌, ◌-◌, ◌*◌, ◌/◌, ◌<◌, ◌≤◌, Bool, true, false, Some, ◌∙◌, ap, arith, unwrap_or, ⊎_elim}
use Rattle.std.specs.List.{range_with_len, find}
use Rattle.std.proofs.lemmas.Bool.{cond-true, cond-false, le-leb, cases_eq}
use Rattle.std.proofs.Math.Dec.{leb}
use Rattle.shop_model.specs.trade.Stocks.{times_restocked, stock_after}

-- the first number of a range that passes a test
find_first : (p : ℕ → Bool) (from n k : ℕ) → from ≤ k → k < from + n → p k ≡ true → ((j : ℕ) → from ≤ j → j < k → p j ≡ false) → find p (range_with_len from n) ≡ Some k
find_first p from zero k low high is before = absurd (omega (arith, low, high))
find_first p from (suc n) k low high is before =
    ⊎_elim
    (λ (same : from ≡ k). cond-true (p from) _ _ (ap p same ∙ is) ∙ ap Some same)
    (λ (apart : from ≡ k → ⊥).
    let less : from < k = below from k low apart in
    cond-false (p from) _ _ (before from (omega arith) less) ∙ find_first p (from + 1) n k (omega (arith, less)) (omega (arith, high)) is (λ j above under. before j (omega (arith, above)) under))
    (cases_eq from k)
  where
    below : (a b : ℕ) → a ≤ b → (a ≡ b → ⊥) → a < b
    below a b le ne = omega arith

leb_not : (a b : ℕ) → b < a → leb a b ≡ false
leb_not a b lt = grind (arith, lt)

-- it is a quotient
pub times_is : (stock units : ℕ) → 10 ≤ stock → times_restocked stock units ≡ (units + 10 - stock + 20) / 21
unfolding times_restocked
times_is stock units low =
    let k : ℕ = (units + 10 - stock + 20) / 21 in
    ap (λ o. unwrap_or o 0)
    (find_first (λ times. leb (units + 10) (stock + 21 * times)) 0 (units + 1) k (omega arith) (omega (arith, low))
    (le-leb (units + 10) (stock + 21 * k) (omega (arith, low)))
    (λ j above under. leb_not (units + 10) (stock + 21 * j) (omega (arith, under, low))))

-- what a sale leaves of a stock
pub record IsRestocked (stock units : ℕ) : Type 0 where
  pub level : stock_after stock units + units ≡ stock + 21 * times_restocked stock units
  pub low : 10 ≤ stock_after stock units
  pub high : stock_after stock units ≤ stock + 30
  pub most : stock ≤ 1_000_000 → stock_after stock units ≤ 1_000_000
  pub few : units ≤ 999 → times_restocked stock units ≤ 49
  pub none : units ≡ 0 → (stock_after stock units ≡ stock) × (times_restocked stock units ≡ 0)

pub restocked : (stock units : ℕ) → 10 ≤ stock → IsRestocked stock units
unfolding stock_after
restocked stock units low =
    let is = times_is stock units low in
    record {
      level = omega (arith, is, low);
      low = omega (arith, is, low);
      high = omega (arith, is, low);
      most = λ bound. omega (arith, is, low, bound);
      few = λ units_few. omega (arith, is, low, units_few);
      none = λ nothing. (omega (arith, is, low, nothing), omega (arith, is, low, nothing));
    }
