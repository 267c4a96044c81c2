-- The table of the digits of numbers below 100.
use Rattle.std.proofs.Common.{◌≡◌, ℕ, zero, suc, ◌+◌, ◌-◌, ◌*◌, ◌/◌, ◌%◌, ◌<◌, Bool, true, ◌&&◌, T, eqb, get_or, inl, inr, arith, eq-zero-or-pos, eqb→eq}
use lib.Ieee.Fits.{and_l, and_r}
use Rattle.shop_draft.specs.declared.digits.TheConstants.{PAIRS}

-- the table is right below a number
abbrev are_right : ℕ → Bool
are_right zero = true
are_right (suc n) = (eqb (get_or PAIRS (n * 2) 0) (48 + n / 10) && eqb (get_or PAIRS (n * 2 + 1) 0) (48 + n % 10)) && are_right n

right : (most n : ℕ) → T (are_right most) → n < most → (get_or PAIRS (n * 2) 0 ≡ 48 + n / 10) × (get_or PAIRS (n * 2 + 1) 0 ≡ 48 + n % 10)
right zero n all lt = absurd (omega arith)
right (suc most) n all lt =
    elim (eq-zero-or-pos (most - n)) [
      | inl none ↦
          let last : n ≡ most = omega arith in
          let both = and_l _ (are_right most) all in
          rw last (eqb→eq _ _ (and_l _ _ both), eqb→eq _ _ (and_r _ _ both))
      | inr more ↦ right most n (and_r _ (are_right most) all) (omega arith)
    ]

pub digits_at : (n : ℕ) → n < 100 → (get_or PAIRS (n * 2) 0 ≡ 48 + n / 10) × (get_or PAIRS (n * 2 + 1) 0 ≡ 48 + n % 10)
digits_at n lt = right 100 n tt lt
