-- What words may choose: numbers within their bounds.
use Rattle.std.proofs.Common.{◌≡◌, ⊎_elim, ◌⊎◌, ℕ, ◌≤◌, true, false, Bool, List, Option, Some, None, inl, inr, refl, arith}
use Rattle.std.specs.Prelude.{nat_le, ◌&&◌, if◌then◌else◌}
use Rattle.std.proofs.lemmas.Bool.{leb-true}
use Rattle.shop_text.specs.Numbers.{number_of}
use Rattle.shop_words.specs.declared.command.Session.{Session}
use Rattle.shop_words.specs.Commands.{Chooses}
use Rattle.shop_words.specs.Options.{IsChosen}
use Rattle.shop_words.specs.Values.{connections_of, limit_of, within, workers_of}

pub within_is : (low high : ℕ) (o : Option ℕ) (n : ℕ) → within low high o ≡ Some n → (low ≤ n) × (n ≤ high)
within_is low high None n is = absurd cc
within_is low high (Some m) n is = by (nat_le low m) (nat_le m high) refl refl is
  where
    by : (least most : Bool) → nat_le low m ≡ least → nat_le m high ≡ most → (if least && most then Some m else None) ≡ Some n → (low ≤ n) × (n ≤ high)
    by true true one few is = let same : m ≡ n = cc in (omega (arith, leb-true low m one, same), omega (arith, leb-true m high few, same))
    by true false one few is = absurd cc
    by false most one few is = absurd cc

pub chosen_is : (form : List ℕ → Option ℕ) (fallback : ℕ) (o : Option (List ℕ)) (n : ℕ) → IsChosen form fallback o n → (n ≡ fallback) ⊎ ((text : List ℕ) × (form text ≡ Some n))
chosen_is form fallback None n is = inl is
chosen_is form fallback (Some text) n is = inr (text, is)

-- how many workers or lanes
pub workers_chosen : (fallback : ℕ) (o : Option (List ℕ)) (n : ℕ) → 1 ≤ fallback → fallback ≤ 16 → IsChosen workers_of fallback o n → (1 ≤ n) × (n ≤ 16)
workers_chosen fallback o n least most is = ⊎_elim
    (λ (same : n ≡ fallback). (omega (arith, same, least), omega (arith, same, most)))
    (λ (given : (text : List ℕ) × (workers_of text ≡ Some n)). within_is 1 16 (number_of given.0) n given.1)
    (chosen_is workers_of fallback o n is)

pub connections_chosen : (o : Option (List ℕ)) (n : ℕ) → IsChosen connections_of 1 o n → n ≤ 1_000_000
connections_chosen o n is = ⊎_elim
    (λ (one : n ≡ 1). omega (arith, one))
    (λ (given : (text : List ℕ) × (connections_of text ≡ Some n)). (within_is 1 1_000_000 (number_of given.0) n given.1).1)
    (chosen_is connections_of 1 o n is)

-- how many changes a log may hold
pub limit_chosen : (values : List ℕ → Option (List ℕ)) (session : Session) → Chooses values session → session.limit ≤ 1_000_000
limit_chosen values session chooses = ⊎_elim
    (λ (most : session.limit ≡ 1_000_000). omega (arith, most))
    (λ (given : (text : List ℕ) × (limit_of text ≡ Some session.limit)). (within_is 1 1_000_000 (number_of given.0) session.limit given.1).1)
    (chosen_is limit_of 1_000_000 _ session.limit chooses.limit)
