-- The parts of a line, and the digits of an authorisation.
use Rattle.std.proofs.Common.{◌≡◌, ℕ, zero, suc, ◌+◌, ◌-◌, ◌*◌, ◌/◌, ◌%◌, ◌^◌, ◌<◌, ◌≤◌, ◌==◌, ◌||◌, nat_lt, true, false, List, [], ◌∷◌, ◌++◌, length, take, drop, get_or, refl, sym, ap, ◌∙◌, arith, add-one}
use Rattle.std.specs.Char.{is_ascii_digit, digit_value}
use Rattle.std.specs.List.{list_all}
use Rattle.std.specs.Str.Parse.{digits_value}
use Rattle.std.proofs.Math.Nat.{pow-suc}
use Rattle.std.proofs.lemmas.Bool.{and_parts, false_from_ne_true}
use Rattle.std.proofs.lemmas.Int.Digits.{digits_value_more}
use Rattle.std.proofs.lemmas.List.{length-take-le, take_more, drop_all}
use Rattle.std.proofs.lemmas.List.Sums.{AllPass-from_list_all}
use Rattle.std.proofs.lemmas.Str.{digit_value_digit}
use Rattle.memchr.specs.Find.{Nowhere, NoneBefore, Passes, is_byte}
use Rattle.shop_text.proofs.cited.Digits.{digit_range}
use Rattle.shop_model.specs.rows.AuthIds.{digits}
use Rattle.shop_gateway.specs.Protocol.{before, after, is_plain}

tail : (byte x : ℕ) (xs : List ℕ) (n : ℕ) → Nowhere (Passes (is_byte byte) (x ∷ xs)) 0 (suc n) → Nowhere (Passes (is_byte byte) xs) 0 n
tail byte x xs n none k low high = none (suc k) (omega arith) (omega (arith, high))

pub before-first : (byte : ℕ) (bytes : List ℕ) (at : ℕ) → at < length bytes → Nowhere (Passes (is_byte byte) bytes) 0 at → Passes (is_byte byte) bytes at → before byte bytes ≡ take at bytes
unfolding before
before-first byte [] at lt none here = absurd (omega (arith, lt))
before-first byte (x ∷ xs) zero lt none here = let yes : (x == byte) ≡ true = here in rw yes refl
before-first byte (x ∷ xs) (suc at) lt none here =
    let no : (x == byte) ≡ false = false_from_ne_true (x == byte) (none 0 (omega arith) (omega arith)) in
    rw no (ap (λ ys. x ∷ ys) (before-first byte xs at (omega (arith, lt)) (tail byte x xs at none) here))

pub before-none : (byte : ℕ) (bytes : List ℕ) → Nowhere (Passes (is_byte byte) bytes) 0 (length bytes) → before byte bytes ≡ bytes
unfolding before
before-none byte [] none = refl
before-none byte (x ∷ xs) none =
    let no : (x == byte) ≡ false = false_from_ne_true (x == byte) (none 0 (omega arith) (omega arith)) in
    rw no (ap (λ ys. x ∷ ys) (before-none byte xs (tail byte x xs (length xs) none)))

pub after-first : (byte : ℕ) (bytes : List ℕ) (at : ℕ) → NoneBefore (Passes (is_byte byte) bytes) 0 (length bytes) at × Passes (is_byte byte) bytes at → drop (at + 1) bytes ≡ after byte bytes
after-first byte bytes at (first, here) =
    ap (λ n. drop (n + 1) bytes) (sym (ap length (before-first byte bytes at first.high first.before here) ∙ length-take-le at bytes (omega (arith, first.high))))

pub after-none : (byte : ℕ) (bytes : List ℕ) → Nowhere (Passes (is_byte byte) bytes) 0 (length bytes) → drop (length bytes) bytes ≡ after byte bytes
after-none byte bytes none =
    drop_all (length bytes) bytes (omega arith) ∙ sym (drop_all (length (before byte bytes) + 1) bytes (omega (arith, ap length (before-none byte bytes none))))

pub plain-digits : (digits : List ℕ) → is_plain digits ≡ true → list_all is_ascii_digit digits ≡ true
unfolding is_plain
plain-digits digits is = (and_parts (length digits == 1 || nat_lt 48 (get_or digits 0 0)) (list_all is_ascii_digit digits) is).1

-- the first digits are those of the number that they write
pub digits-back : (k : ℕ) (ds : List ℕ) → k ≤ length ds → list_all is_ascii_digit ds ≡ true → (digits k (digits_value 10 (take k ds)) ≡ take k ds) × (digits_value 10 (take k ds) < 10 ^ k)
unfolding digits
digits-back zero ds within are = (refl, omega arith)
digits-back (suc k) ds within are =
    let front = digits-back k ds (omega (arith, within)) are in
    let v : ℕ = digits_value 10 (take k ds) in
    let c : ℕ = get_or ds k 0 in
    let range = digit_range c (AllPass-from_list_all is_ascii_digit ds are k 0 (omega (arith, within))) in
    let value = digit_value_digit c range in
    let more : digits_value 10 (take (suc k) ds) ≡ v * 10 + (c - 48) =
    (rw add-one at (digits_value_more 10 ds k (omega (arith, within)))) ∙ ap (λ d. v * 10 + d) (let e : digit_value c ≡ c - 48 = omega (arith, value) in e) in
    let taken : take (suc k) ds ≡ take k ds ++ c ∷ [] = rw add-one at (take_more ds k 0 (omega (arith, within))) in
    let tens : (v * 10 + (c - 48)) / 10 ≡ v = omega (arith, range) in
    let ones : 48 + (v * 10 + (c - 48)) % 10 ≡ c = omega (arith, range) in (
      rw (more, taken, tens, ones) (ap (λ xs. xs ++ c ∷ []) front.0),
      omega (arith, more, range, front.1, pow-suc 10 k),
    )
