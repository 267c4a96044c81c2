-- The next link lies where the opening of one first stands.
use Rattle.std.proofs.Common.{◌≡◌, ℕ, zero, suc, ◌+◌, ◌==◌, ◌<◌, false, List, [], ◌∷◌, ◌++◌, length, drop, codes, nat_eq, arith, refl, ap, ◌∙◌}
use Rattle.std.specs.List.{starts_with, before_first}
use Rattle.std.proofs.lemmas.Bool.{false_from_ne_true}
use Rattle.std.proofs.lemmas.Bool.Decides.{Decides-eqb}
use Rattle.std.proofs.lemmas.Slice.Eq.{starts_is}
use Rattle.memchr.specs.Find.{OccursAt, Nowhere}
use Rattle.memchr.proofs.lemmas.MatchLemmas.{OccursAt-split}
use Rattle.shop_browsers.specs.Scanned.{links_in}
use Rattle.shop_browsers.proofs.Needles.{occurs_behind, occurs_later, occurs_sooner}

abbrev opening : List ℕ
opening = codes "<a href=\""

-- a byte where no opening stands
no_link : (byte : ℕ) (bytes : List ℕ) → ¬ OccursAt (byte ∷ bytes) opening 0 → links_in (byte ∷ bytes) ≡ links_in bytes
unfolding links_in
no_link byte bytes nowhere = rw other refl
  where
    other : starts_with nat_eq (byte ∷ bytes) opening ≡ false
    other = false_from_ne_true _ (λ starts. nowhere (occurs_behind (byte ∷ bytes) opening [] _
        ((starts_is Decides-eqb (byte ∷ bytes) opening (starts_with nat_eq (byte ∷ bytes) opening) refl).0 starts)))

pub links_none : (bytes : List ℕ) → Nowhere (OccursAt bytes opening) 0 (length bytes + 1) → links_in bytes ≡ []
unfolding links_in
links_none [] nowhere = refl
links_none (byte ∷ bytes) nowhere =
    no_link byte bytes (nowhere 0 (omega arith) (omega arith))
    ∙ links_none bytes (λ at low high occurs. nowhere (suc at) (omega arith) (omega (arith, high)) (occurs_later byte bytes opening at occurs))

opened : (rest : List ℕ) → links_in (opening ++ rest) ≡ before_first (λ b. b == 34) rest ∷ links_in rest
unfolding links_in
opened rest = refl

pub link_found : (bytes : List ℕ) (at : ℕ) → OccursAt bytes opening at → ((k : ℕ) → k < at → ¬ OccursAt bytes opening k)
    → links_in bytes ≡ before_first (λ b. b == 34) (drop (at + 9) bytes) ∷ links_in (drop (at + 9) bytes)
link_found bytes zero occurs nowhere = ap links_in (OccursAt-split bytes opening 0 occurs) ∙ opened (drop 9 bytes)
link_found [] (suc at) occurs nowhere = absurd (omega (arith, occurs.fits))
link_found (byte ∷ bytes) (suc at) occurs nowhere =
    let behind : suc at + 9 ≡ suc (at + 9) = omega arith in
    rw behind
    (no_link byte bytes (nowhere 0 (omega arith))
    ∙ link_found bytes at (occurs_sooner byte bytes opening at occurs)
    (λ k below stands. nowhere (suc k) (omega (arith, below)) (occurs_later byte bytes opening k stands)))
