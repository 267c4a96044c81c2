-- Numbers of a few digits.
use Rattle.std.proofs.Common.{◌≡◌, ℕ, ◌+◌, ◌/◌, ◌%◌, ◌<◌, ◌≤◌, [], ◌∷◌, ◌++◌, decimal, arith, ap, ◌∙◌}
use Rattle.std.proofs.lemmas.Fmt.{decimal_step, decimal_digit}

pub decimal_one : (n : ℕ) → n < 10 → decimal n ≡ (48 + n % 10) ∷ []
decimal_one n most = decimal_digit n most ∙ ap (λ k. (48 + k) ∷ []) (omega (arith, most))

pub decimal_two : (n : ℕ) → 10 ≤ n → n < 100 → decimal n ≡ (48 + n / 10) ∷ (48 + n % 10) ∷ []
decimal_two n least most =
    decimal_step n least (omega arith) ∙ ap (λ front. front ++ (48 + n % 10) ∷ []) (decimal_digit (n / 10) (omega arith))

pub decimal_three : (n : ℕ) → 100 ≤ n → n < 1000 → decimal n ≡ (48 + n / 100 % 10) ∷ (48 + n % 100 / 10) ∷ (48 + n % 100 % 10) ∷ []
decimal_three n least most =
    let first : n / 10 / 10 ≡ n / 100 % 10 = omega arith in
    let second : n / 10 % 10 ≡ n % 100 / 10 = omega arith in
    let third : n % 10 ≡ n % 100 % 10 = omega arith in
    decimal_step n (omega arith) (omega arith) ∙ ap (λ front. front ++ (48 + n % 10) ∷ []) (decimal_two (n / 10) (omega arith) (omega arith))
    ∙ ap (λ k. (48 + k) ∷ (48 + n / 10 % 10) ∷ (48 + n % 10) ∷ []) first
    ∙ ap (λ k. (48 + n / 100 % 10) ∷ (48 + k) ∷ (48 + n % 10) ∷ []) second
    ∙ ap (λ k. (48 + n / 100 % 10) ∷ (48 + n % 100 / 10) ∷ (48 + k) ∷ []) third

pub decimal_four : (n : ℕ) → 1000 ≤ n → n < 10000 → decimal n ≡ (48 + n / 100 / 10) ∷ (48 + n / 100 % 10) ∷ (48 + n % 100 / 10) ∷ (48 + n % 100 % 10) ∷ []
decimal_four n least most =
    let first : n / 10 / 100 % 10 ≡ n / 100 / 10 = omega arith in
    let second : n / 10 % 100 / 10 ≡ n / 100 % 10 = omega arith in
    let third : n / 10 % 100 % 10 ≡ n % 100 / 10 = omega arith in
    let fourth : n % 10 ≡ n % 100 % 10 = omega arith in
    decimal_step n (omega arith) (omega arith) ∙ ap (λ front. front ++ (48 + n % 10) ∷ []) (decimal_three (n / 10) (omega arith) (omega arith))
    ∙ ap (λ k. (48 + k) ∷ (48 + n / 10 % 100 / 10) ∷ (48 + n / 10 % 100 % 10) ∷ (48 + n % 10) ∷ []) first
    ∙ ap (λ k. (48 + n / 100 / 10) ∷ (48 + k) ∷ (48 + n / 10 % 100 % 10) ∷ (48 + n % 10) ∷ []) second
    ∙ ap (λ k. (48 + n / 100 / 10) ∷ (48 + n / 100 % 10) ∷ (48 + k) ∷ (48 + n % 10) ∷ []) third
    ∙ ap (λ k. (48 + n / 100 / 10) ∷ (48 + n / 100 % 10) ∷ (48 + n % 100 / 10) ∷ (48 + k) ∷ []) fourth
