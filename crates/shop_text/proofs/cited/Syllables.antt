-- A number can be read off its syllables, so two numbers have two names.
use Rattle.std.proofs.Common.{◌≡◌, ℕ, zero, suc, ◌+◌, ◌-◌, ◌/◌, ◌%◌, ◌<◌, ◌≤◌, ◌^◌, ◌==◌, List, [], ◌∷◌, ◌++◌, decimal, if◌then◌else◌, arith, refl, ap, ◌∙◌, sym, append_assoc, append-nil}
use Rattle.std.specs.List.{flat_map}
use Rattle.std.proofs.lemmas.Grind.{flat_map-append}
use Rattle.std.proofs.lemmas.Fmt.{decimal_by_steps, decimal_injective}
use Rattle.shop_text.specs.Syllables.{syllable, digsyl}

-- the digit of two letters
abbrev digit_of : ℕ → ℕ → ℕ
digit_of a b =
    if a == 66 then 48 else
    (if a == 79 then 49 else
    (if a == 65 then (if b == 76 then 50 else 54) else
    (if a == 82 then (if b == 73 then 51 else 52) else
    (if a == 83 then 53 else
    (if a == 85 then 55 else
    (if a == 73 then 56 else 57))))))

abbrev digits_of : List ℕ → List ℕ
digits_of (a ∷ (b ∷ rest)) = digit_of a b ∷ digits_of rest
digits_of _ = []

-- the syllable of a digit's code
abbrev sound_of : ℕ → List ℕ
sound_of code = syllable (code - 48)

back : (n : ℕ) (rest : List ℕ) → n < 10 → digits_of (sound_of (48 + n) ++ rest) ≡ (48 + n) ∷ digits_of rest
back zero rest lt = refl
back (suc zero) rest lt = refl
back (suc (suc zero)) rest lt = refl
back (suc (suc (suc zero))) rest lt = refl
back (suc (suc (suc (suc zero)))) rest lt = refl
back (suc (suc (suc (suc (suc zero))))) rest lt = refl
back (suc (suc (suc (suc (suc (suc zero)))))) rest lt = refl
back (suc (suc (suc (suc (suc (suc (suc zero))))))) rest lt = refl
back (suc (suc (suc (suc (suc (suc (suc (suc zero)))))))) rest lt = refl
back (suc (suc (suc (suc (suc (suc (suc (suc (suc zero))))))))) rest lt = refl
back (suc (suc (suc (suc (suc (suc (suc (suc (suc (suc n)))))))))) rest lt = absurd (omega arith)

-- reading back what was written, whatever comes behind
ReadsBack : ℕ → List ℕ → Type 0
ReadsBack n ds = (rest : List ℕ) → digits_of (flat_map sound_of ds ++ rest) ≡ ds ++ digits_of rest

reads_one : (n : ℕ) → n < 10 → ReadsBack n ((48 + n) ∷ [])
unfolding ReadsBack
reads_one n lt rest = rw append-nil (back n rest lt)

reads_more : (n : ℕ) (ds : List ℕ) → 10 ≤ n → ReadsBack (n / 10) ds → ReadsBack n (ds ++ ((48 + n % 10) ∷ []))
unfolding ReadsBack
reads_more n ds le before rest =
    let one : List ℕ = (48 + n % 10) ∷ [] in
    let last : digits_of (flat_map sound_of one ++ rest) ≡ one ++ digits_of rest = reads_one (n % 10) (omega arith) rest in
    rw (flat_map-append sound_of ds one, append_assoc (flat_map sound_of ds) (flat_map sound_of one) rest, append_assoc ds one (digits_of rest))
    (before (flat_map sound_of one ++ rest) ∙ ap (λ (xs : List ℕ). ds ++ xs) last)

reads_back : (n : ℕ) → n < 2 ^ 64 → digits_of (digsyl n) ≡ decimal n
unfolding ReadsBack
reads_back n lt =
    let all : ReadsBack n (decimal n) = decimal_by_steps ReadsBack reads_one reads_more n lt in
    let e : digits_of (digsyl n ++ []) ≡ decimal n ++ [] = all [] in
    sym (ap digits_of (append-nil (digsyl n))) ∙ e ∙ append-nil (decimal n)

pub digsyl_injective : (m n : ℕ) → m < 2 ^ 64 → n < 2 ^ 64 → digsyl m ≡ digsyl n → m ≡ n
digsyl_injective m n hm hn same = decimal_injective m n hm hn (sym (reads_back m hm) ∙ ap digits_of same ∙ reads_back n hn)
