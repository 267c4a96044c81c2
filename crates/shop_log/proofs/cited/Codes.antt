-- Values that have codes of numbers and pairs, one each, are equal or not.
use Rattle.std.proofs.Common.{◌≡◌, refl, ap}
use Rattle.std.proofs.Math.Decide.{ℕ_discrete}
use base.Stored.{Gv, gnil, gnum, gcons, Coded}

same_pair : (a b c d : Gv) → Dec (a ≡ c) → Dec (b ≡ d) → Dec (gcons a b ≡ gcons c d)
same_pair a b c d (yes p) (yes q) = yes (cc)
same_pair a b c d (no apart) q = no (λ e. apart (cc))
same_pair a b c d p (no apart) = no (λ e. apart (cc))

same_code : (one other : Gv) → Dec (one ≡ other)
same_code gnil gnil = yes refl
same_code (gnum m) (gnum n) = elim (ℕ_discrete m n) as (λ _. Dec (gnum m ≡ gnum n)) [ yes p ↦ yes (ap gnum p) | no apart ↦ no (λ e. apart (cc)) ]
same_code (gcons a b) (gcons c d) = same_pair a b c d (same_code a c) (same_code b d)
same_code gnil (gnum n) = no (λ e. cc)
same_code gnil (gcons c d) = no (λ e. cc)
same_code (gnum m) gnil = no (λ e. cc)
same_code (gnum m) (gcons c d) = no (λ e. cc)
same_code (gcons a b) gnil = no (λ e. cc)
same_code (gcons a b) (gnum n) = no (λ e. cc)

pub decided_by : {A B : Type 0} → Coded B → (into : A → B) → ((x y : A) → into x ≡ into y → x ≡ y) → (x y : A) → Dec (x ≡ y)
decided_by coded into one x y =
    elim (same_code (coded.code (into x)) (coded.code (into y))) as (λ _. Dec (x ≡ y)) [
      | yes p ↦ yes (one x y (coded.inj (into x) (into y) p))
      | no apart ↦ no (λ e. apart (ap (λ z. coded.code (into z)) e))
    ]
