-- Fifteen digits are those of the number that they write.
use Rattle.std.proofs.Common.{◌≡◌, ℕ, zero, suc, ◌+◌, ◌-◌, ◌*◌, ◌/◌, ◌%◌, ◌^◌, ◌<◌, ◌≤◌, true, List, [], ◌∷◌, ◌++◌, length, take, get_or, All, refl, ap, ◌∙◌, subst, arith, add-one}
use Rattle.std.specs.Char.{IsAsciiDigit, is_ascii_digit, digit_value}
use Rattle.std.specs.List.{list_all}
use Rattle.std.specs.Str.Parse.{digits_value}
use Rattle.std.proofs.Math.Nat.{pow-suc}
use Rattle.std.proofs.lemmas.Int.Digits.{digits_value_more}
use Rattle.std.proofs.lemmas.List.{take_all, take_more}
use Rattle.std.proofs.lemmas.List.Sums.{AllPass-from_list_all}
use Rattle.std.proofs.lemmas.Str.{digit_value_digit}
use Rattle.shop_text.proofs.cited.Digits.{digit_range}
use Rattle.shop_model.specs.rows.AuthIds.{digits}
use native.Mathlib.Nat.{pow-le-pow_right}

-- the first digits
digits_back : (k : ℕ) (ds : List ℕ) → k ≤ length ds → list_all is_ascii_digit ds ≡ true → (digits k (digits_value 10 (take k ds)) ≡ take k ds) × (digits_value 10 (take k ds) < 10 ^ k)
unfolding digits
digits_back zero ds within are = (refl, omega arith)
digits_back (suc k) ds within are =
    let front = digits_back k ds (omega (arith, within)) are in
    let v : ℕ = digits_value 10 (take k ds) in
    let c : ℕ = get_or ds k 0 in
    let range = digit_range c (AllPass-from_list_all is_ascii_digit ds are k 0 (omega (arith, within))) in
    let value = digit_value_digit c range in
    let more : digits_value 10 (take (suc k) ds) ≡ v * 10 + (c - 48) =
    (rw add-one at (digits_value_more 10 ds k (omega (arith, within)))) ∙ ap (λ d. v * 10 + d) (let e : digit_value c ≡ c - 48 = omega (arith, value) in e) in
    let taken : take (suc k) ds ≡ take k ds ++ c ∷ [] = rw add-one at (take_more ds k 0 (omega (arith, within))) in
    let tens : (v * 10 + (c - 48)) / 10 ≡ v = omega (arith, range) in
    let ones : 48 + (v * 10 + (c - 48)) % 10 ≡ c = omega (arith, range) in (
      rw (more, taken, tens, ones) (ap (λ xs. xs ++ c ∷ []) front.0),
      omega (arith, more, range, front.1, pow-suc 10 k),
    )

pub fifteen_back : (ds : List ℕ) → length ds ≡ 15 → list_all is_ascii_digit ds ≡ true → (digits 15 (digits_value 10 ds) ≡ ds) × (digits_value 10 ds < 10 ^ 15)
fifteen_back ds size are =
    let all : take 15 ds ≡ ds = take_all 15 ds (omega (arith, size)) in
    subst (λ xs. (digits 15 (digits_value 10 xs) ≡ xs) × (digits_value 10 xs < 10 ^ 15)) all (digits_back 15 ds (omega (arith, size)) are)

-- what at most 14 digits write has room for one more
pub roomy : (number places : ℕ) → number < 10 ^ places → places ≤ 14 → number < 100_000_000_000_000
roomy number places below few =
    let most : 10 ^ places ≤ 10 ^ 14 = pow-le-pow_right {n = 10} (omega arith) few in omega (arith, below, most)

digit_passes : (c : ℕ) → IsAsciiDigit c → is_ascii_digit c ≡ true
digit_passes c is = grind arith

pub digits_pass : (ds : List ℕ) → All IsAsciiDigit ds → list_all is_ascii_digit ds ≡ true
digits_pass [] all = refl
digits_pass (d ∷ ds) all = rw (digit_passes d (all 0 d (omega arith))) (digits_pass ds (λ k e within. all (suc k) e (omega (arith, within))))
