-- The words that are to come from a generator, at its start and after a step.
use Rattle.std.proofs.Common.{◌≡◌, ℕ, ◌+◌, ◌*◌, ◌%◌, ◌^◌, ◌<◌, refl, ap, add-one, ◌∙◌, arith, true, false, ◌⊎◌, inl, inr}
use Rattle.rand_pcg.specs.Lcg.{Lcg, state_after, started, increment_of}
use Rattle.rand_pcg.specs.Pcg.{multiplier_64, pcg32}
use Rattle.shop_model.specs.population.Scales.{ScaleRow, is_desk}
use Rattle.shop_model.specs.population.Words.{desk_word, pcg_word, word, Drawing, to_come}

-- the words to come of a new generator are those of its row
pub first_words : (seed : ℕ) (scale : ScaleRow) (table row : ℕ) (rng : Lcg)
    → rng ≡ started 64 multiplier_64 seed (increment_of 64 (table * 2 ^ 40 + row)) → (j : ℕ)
    → to_come (record { desk = is_desk scale; coming = (seed + 1009 * table + 101 * row) % 2 ^ 32; rng = rng }) j
    ≡ word seed scale table row j
unfolding to_come word desk_word pcg_word
first_words seed scale table row rng is j =
    let sum = seed + 1009 * table + 101 * row in
    let e : (sum % 2 ^ 32 + 13 * j) % 2 ^ 32 ≡ (sum + 13 * j) % 2 ^ 32 = omega arith in
    rw (is, e) refl

-- the result of a step
pub coming_word : (d : Drawing) (drawn result : ℕ) (rng : Lcg) → d.coming < 2 ^ 32 → (drawn, rng) ≡ pcg32 d.rng
    → ((d.desk ≡ true) × (result ≡ d.coming)) ⊎ ((d.desk ≡ false) × (result ≡ drawn)) → result ≡ to_come d 0
unfolding to_come state_after
coming_word d drawn result rng fits step (inl (on, is)) =
    let e : d.coming ≡ (d.coming + 13 * 0) % 2 ^ 32 = omega arith in
    rw on (is ∙ e)
coming_word d drawn result rng fits step (inr (off, is)) = rw off (is ∙ ap (λ (p : ℕ × Lcg). p.0) step)

-- what is left after a step
pub words_after : (d : Drawing) (drawn : ℕ) (rng : Lcg) → (drawn, rng) ≡ pcg32 d.rng → (j : ℕ)
    → to_come (record { desk = d.desk; coming = (d.coming + 13) % 2 ^ 32; rng = rng }) j ≡ to_come d (j + 1)
unfolding to_come state_after
words_after d drawn rng step j =
    let e : ((d.coming + 13) % 2 ^ 32 + 13 * j) % 2 ^ 32 ≡ (d.coming + 13 * (j + 1)) % 2 ^ 32 = omega arith in
    let after : rng ≡ (pcg32 d.rng).1 = ap (λ (p : ℕ × Lcg). p.1) step in
    rw (after, e) (rw add-one refl)
