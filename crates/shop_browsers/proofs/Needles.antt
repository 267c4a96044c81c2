-- Where some bytes stand in others, and that they stand nowhere in these.
use Rattle.std.proofs.Common.{◌≡◌, ℕ, suc, ◌+◌, List, ◌∷◌, ◌++◌, length, take, drop, arith, refl, sym, ap, subst, ◌∙◌, append_assoc, length-append, take-append-drop}
use Rattle.std.proofs.lemmas.List.{take_at, drop_at}
use Rattle.memchr.specs.Find.{OccursAt, Nowhere}
use Rattle.memchr.proofs.lemmas.MatchLemmas.{OccursAt-part, OccursAt-from_part}

pub occurs_behind : (bytes needle front rest : List ℕ) → bytes ≡ front ++ (needle ++ rest) → OccursAt bytes needle (length front)
occurs_behind bytes needle front rest is =
    OccursAt-from_part bytes needle (length front)
    (omega (arith, ap length is, length-append front (needle ++ rest), length-append needle rest))
    (ap (λ all. take (length needle) (drop (length front) all)) is ∙ ap (take (length needle)) (drop_at front (needle ++ rest) (length front) refl)
    ∙ take_at needle rest (length needle) refl)

-- behind one byte more
pub occurs_later : (byte : ℕ) (bytes needle : List ℕ) (at : ℕ) → OccursAt bytes needle at → OccursAt (byte ∷ bytes) needle (suc at)
occurs_later byte bytes needle at occurs =
    OccursAt-from_part (byte ∷ bytes) needle (suc at) (omega (arith, occurs.fits)) (OccursAt-part bytes needle at occurs)

-- behind one byte less
pub occurs_sooner : (byte : ℕ) (bytes needle : List ℕ) (at : ℕ) → OccursAt (byte ∷ bytes) needle (suc at) → OccursAt bytes needle at
occurs_sooner byte bytes needle at occurs =
    OccursAt-from_part bytes needle at (omega (arith, occurs.fits)) (OccursAt-part (byte ∷ bytes) needle (suc at) occurs)

-- the needle stands nowhere in these bytes
abbrev pub Lacks : List ℕ → List ℕ → Type 0
Lacks needle bytes = (front rest : List ℕ) → bytes ≡ front ++ (needle ++ rest) → ⊥

pub lacks_sought : (needle bytes : List ℕ) → Nowhere (OccursAt bytes needle) 0 (length bytes + 1) → Lacks needle bytes
lacks_sought needle bytes nowhere front rest is =
    nowhere (length front) (omega arith) (omega (arith, ap length is, length-append front (needle ++ rest))) (occurs_behind bytes needle front rest is)

-- nor does it stand in a part of these
pub lacks_before : (needle a b : List ℕ) → Lacks needle (a ++ b) → Lacks needle a
lacks_before needle a b lacks front rest is =
    lacks front (rest ++ b) (ap (λ xs. xs ++ b) is ∙ append_assoc front (needle ++ rest) b ∙ ap (λ xs. front ++ xs) (append_assoc needle rest b))

pub lacks_behind : (needle a b : List ℕ) → Lacks needle (a ++ b) → Lacks needle b
lacks_behind needle a b lacks front rest is =
    lacks (a ++ front) rest (ap (λ xs. a ++ xs) is ∙ sym (append_assoc a front (needle ++ rest)))

pub lacks_take : (needle bytes : List ℕ) (n : ℕ) → Lacks needle bytes → Lacks needle (take n bytes)
lacks_take needle bytes n lacks = lacks_before needle (take n bytes) (drop n bytes) (subst (Lacks needle) (sym (take-append-drop n bytes)) lacks)

pub lacks_drop : (needle bytes : List ℕ) (n : ℕ) → Lacks needle bytes → Lacks needle (drop n bytes)
lacks_drop needle bytes n lacks = lacks_behind needle (take n bytes) (drop n bytes) (subst (Lacks needle) (sym (take-append-drop n bytes)) lacks)
