-- The reason phrases are short, and a number that is no status has none.
use Rattle.std.proofs.Common.{◌≡◌, ◌==◌, ◌&&◌, ℕ, nat_le, nat_lt, ◌≤◌, true, List, [], length, Option, Some, None, unwrap_or, if◌then◌else◌, arith, refl, sym, subst}
use Rattle.std.proofs.lemmas.Bool.{cond_both, eqb-true, leb-true, ltb-true, and_parts}
use Rattle.http.specs.StatusCode.{IsStatusCode, reason_phrase}

-- the phrase of a status, within the room for one
abbrev IsPhrase : ℕ → Option (List ℕ) → Type 0
IsPhrase n None = Unit {0}
IsPhrase n (Some phrase) = IsStatusCode n × (length phrase ≤ 31)

-- one phrase more
named : (n k : ℕ) (phrase : List ℕ) (other : Option (List ℕ)) → ((nat_le 100 k && nat_lt k 1000) && nat_le (length phrase) 31) ≡ true → IsPhrase n other
    → IsPhrase n (if n == k then Some phrase else other)
named n k phrase other within rest =
    let split = and_parts (nat_le 100 k && nat_lt k 1000) (nat_le (length phrase) 31) within in
    let numbers = and_parts (nat_le 100 k) (nat_lt k 1000) split.0 in
    let low = leb-true 100 k numbers.0 in
    let high = ltb-true k 1000 numbers.1 in
    cond_both (n == k) (Some phrase) other (IsPhrase n)
    (λ e. let same : n ≡ k = eqb-true n k e in ((omega (arith, low), omega (arith, high)), leb-true _ _ split.1)) (λ e. rest)

all_named : (n : ℕ) → IsPhrase n (reason_phrase n)
all_named n = search named depth 140 fits 100000

-- the phrase of a status is short
pub short_phrase : (n : ℕ) (phrase : List ℕ) → Some phrase ≡ reason_phrase n → length phrase ≤ 31
short_phrase n phrase is = let named : IsPhrase n (Some phrase) = subst (IsPhrase n) (sym is) (all_named n) in named.1

unnamed : (n : ℕ) (phrase : Option (List ℕ)) → IsPhrase n phrase → (IsStatusCode n → ⊥) → unwrap_or phrase [] ≡ []
unnamed n None is other = refl
unnamed n (Some phrase) is other = absurd (other is.0)

-- what is no status has no phrase
pub no_phrase : (n : ℕ) → (IsStatusCode n → ⊥) → unwrap_or (reason_phrase n) [] ≡ []
no_phrase n other = unnamed n (reason_phrase n) (all_named n) other
