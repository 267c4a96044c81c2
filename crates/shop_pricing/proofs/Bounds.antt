-- How much priced lines come to at most.
use Rattle.std.proofs.Common.{ℕ, ◌*◌, ◌≤◌, List, length, All, arith}
use Rattle.std.proofs.Math.Nat.{mul-le-mul}
use Rattle.std.proofs.lemmas.List.Sums.{sum_by-le}
use Rattle.shop_pricing.specs.Totals.{ArePriced, sum_of, units_of}

pub sum_bound : (lines : List (ℕ × ℕ × ℕ)) → ArePriced lines → sum_of lines ≤ 100 * (999_999 * 999)
sum_bound lines are =
    let each : All (λ (l : ℕ × ℕ × ℕ). l.2 * l.1 ≤ 999_999 * 999) lines = λ k d within. mul-le-mul (are.each k d within).cost (are.each k d within).quantity in
    let whole = sum_by-le (λ (l : ℕ × ℕ × ℕ). l.2 * l.1) (999_999 * 999) lines each in
    let few : length lines ≤ 100 = are.few in
    omega (arith, whole, few)

pub units_bound : (lines : List (ℕ × ℕ × ℕ)) → ArePriced lines → units_of lines ≤ 100 * 999
units_bound lines are =
    let whole = sum_by-le (λ (l : ℕ × ℕ × ℕ). l.1) 999 lines (λ k d within. (are.each k d within).quantity) in
    let few : length lines ≤ 100 = are.few in
    omega (arith, whole, few)

-- a part of it, in hundredths
pub part_bound : (sum part : ℕ) → sum ≤ 100 * (999_999 * 999) → part ≤ 100 → sum * part ≤ 100 * (999_999 * 999) * 100
part_bound sum part low few = mul-le-mul low few

-- a tax on it, in hundredths of a per cent
pub tax_bound : (sub rate : ℕ) → sub ≤ 100 * (999_999 * 999) → rate ≤ 10_000 → sub * rate ≤ 100 * (999_999 * 999) * 10_000
tax_bound sub rate low few = mul-le-mul low few

pub ruleset bounds = (sum_bound, units_bound, part_bound, tax_bound)
