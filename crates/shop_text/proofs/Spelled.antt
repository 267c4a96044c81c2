-- A text of syllables that is read from its front, a digit at a time.
use Rattle.std.proofs.Common.{◌↔◌, ◌==◌, IsTrue, ◌≡◌, ◌≢◌, ℕ, ◌+◌, ◌-◌, ◌*◌, ◌<◌, ◌≤◌, ◌^◌, List, [], ◌∷◌, ◌++◌, length, map, get_or, take, drop, decimal, arith, refl, ◌∙◌, sym, ap, append_assoc, append-nil}
use Rattle.std.specs.Char.{digit_value}
use Rattle.std.specs.List.{flat_map}
use Rattle.std.specs.Str.Parse.{AllDigits, digits_value_after}
use Rattle.std.proofs.Math.Seq.{take-append_seam}
use Rattle.std.proofs.lemmas.Bool.{eqb-true}
use Rattle.std.proofs.lemmas.Fmt.{decimal_is_IsNumeral}
use Rattle.std.proofs.lemmas.Grind.{flat_map-append}
use Rattle.std.proofs.lemmas.List.{append_cancel_left, length-append, map-append, take_all, take_more, take-append-drop}
use Rattle.std.proofs.lemmas.Str.{digit_value_digit}
use Rattle.std.proofs.lemmas.Str.Parse.{digit_from_value}
use Rattle.shop_text.specs.Fold.{lower}
use Rattle.shop_text.specs.Syllables.{syllable, spelled, digsyl}
use Rattle.shop_text.proofs.cited.Plain.{syllable_cases}

pub length-syllable : (digit : ℕ) → length (syllable digit) ≡ 2
length-syllable digit = syllable_cases (λ text. length text ≡ 2) refl refl refl refl refl refl refl refl refl refl digit

-- two fronts of a text that are as long are the same
fronts_same : (a b x y : List ℕ) → length a ≡ length b → a ++ x ≡ b ++ y → a ≡ b
fronts_same a b x y long same = cc (take-append_seam a x, take-append_seam b y)

rests_same : (a b x y : List ℕ) → length a ≡ length b → a ++ x ≡ b ++ y → x ≡ y
rests_same a b x y long same =
    append_cancel_left a x y (rw (← fronts_same a b x y long same) at same)

value_grows : (digits : List ℕ) (n : ℕ) → n ≤ digits_value_after 10 n digits
value_grows [] n = omega arith
value_grows (code ∷ digits) n = omega (arith, value_grows digits (n * 10 + digit_value code))

-- the rest of a text spells digits that make n of the number that was read before it
pub record IsLeft (n number : ℕ) (rest : List ℕ) : Type 0 where
  pub digits : List ℕ
  pub are_digits : AllDigits 10 digits
  pub spells : rest ≡ spelled digits
  pub makes : digits_value_after 10 number digits ≡ n

-- first all of it is left
pub left_all : (n : ℕ) → n < 2 ^ 64 → IsLeft n 0 (digsyl n)
left_all n lt =
    let numeral = decimal_is_IsNumeral n lt in
    record { digits = decimal n; are_digits = numeral.0.1; spells = refl; makes = numeral.1 }

more_of : (digits : List ℕ) (n number digit now : ℕ) (pair after : List ℕ) → n < 2 ^ 32 → length pair ≡ 2
    → ((d : ℕ) → d < 10 → pair ≡ syllable d → digit ≡ d) → (number * 10 + digit < 2 ^ 32 → now ≡ number * 10 + digit)
    → AllDigits 10 digits → pair ++ after ≡ spelled digits → digits_value_after 10 number digits ≡ n → IsLeft n now after
more_of [] n number digit now pair after lt two reads takes are spells makes =
    absurd (omega (arith, ap length spells, length-append pair after))
more_of (code ∷ digits) n number digit now pair after lt two reads takes are spells makes =
    let range = digit_from_value code are.0 in
    let value = digit_value_digit code range in
    let long : length pair ≡ length (syllable (code - 48)) = two ∙ sym (length-syllable (code - 48)) in
    let first = fronts_same pair (syllable (code - 48)) after (spelled digits) long spells in
    let read : digit ≡ code - 48 = reads (code - 48) (omega (arith, range)) first in
    let new : now ≡ number * 10 + digit_value code =
    omega (arith, range, value, value_grows digits (number * 10 + digit_value code)) in
    record {
      digits = digits;
      are_digits = are.1;
      spells = rests_same pair (syllable (code - 48)) after (spelled digits) long spells;
      makes = rw new makes;
    }

-- a syllable is read, and its digit is put behind the number
pub left_more : (n number digit now : ℕ) (pair after : List ℕ) → n < 2 ^ 32 → length pair ≡ 2
    → ((d : ℕ) → d < 10 → pair ≡ syllable d → digit ≡ d) → (number * 10 + digit < 2 ^ 32 → now ≡ number * 10 + digit)
    → IsLeft n number (pair ++ after) → IsLeft n now after
left_more n number digit now pair after lt two reads takes left =
    more_of left.digits n number digit now pair after lt two reads takes left.are_digits left.spells left.makes

none_of : (digits : List ℕ) (n number : ℕ) (rest : List ℕ) → length rest < 2
    → rest ≡ spelled digits → digits_value_after 10 number digits ≡ n → number ≡ n
none_of [] n number rest short spells makes = makes
none_of (code ∷ digits) n number rest short spells makes =
    absurd (omega (arith, ap length spells, length-append (syllable (code - 48)) (spelled digits), length-syllable (code - 48)))

-- nothing more is left
pub left_none : (n number : ℕ) (rest : List ℕ) → length rest < 2 → IsLeft n number rest → number ≡ n
left_none n number rest short left = none_of left.digits n number rest short left.spells left.makes

nothing_behind : (text front rest : List ℕ) → text ≡ front ++ rest → IsTrue (length rest == 0) ↔ (text ≡ front)
nothing_behind text front [] is = (λ empty. is ∙ append-nil front, λ same. refl)
nothing_behind text front (code ∷ rest) is =
    (λ empty. absurd (omega (arith, eqb-true (length (code ∷ rest)) 0 empty)), λ same. absurd (omega (arith, ap length is, ap length same, length-append front (code ∷ rest))))

-- the text of digits by the syllable of each
module _ (syllable_of : ℕ → List ℕ) where
  abbrev spells_of : List ℕ → List ℕ
  spells_of digits = flat_map (λ code. syllable_of (code - 48)) digits

  spelled_at : (digits : List ℕ) (i : ℕ) → i < length digits
      → spells_of (take (i + 1) digits) ≡ spells_of (take i digits) ++ syllable_of (get_or digits i 0 - 48)
  spelled_at digits i lt =
      let code = get_or digits i 0 in
      rw (take_more digits i 0 lt, flat_map-append (λ (c : ℕ). syllable_of (c - 48)) (take i digits) (code ∷ []), append-nil (syllable_of (code - 48)))

  -- the next syllable comes off
  pub spelled_more : (digits text rest piece after : List ℕ) (i : ℕ) → i < length digits
      → text ≡ spells_of (take i digits) ++ rest → piece ≡ syllable_of (get_or digits i 0 - 48) → rest ≡ piece ++ after
      → text ≡ spells_of (take (i + 1) digits) ++ after
  spelled_more digits text rest piece after i lt so_far next is =
      rw (so_far, is, next, spelled_at digits i lt)
      (sym (append_assoc (spells_of (take i digits)) (syllable_of (get_or digits i 0 - 48)) after))

  -- where another text stands in its place, the whole is another text
  pub spelled_differs : (digits text rest piece : List ℕ) (i : ℕ) → i < length digits
      → text ≡ spells_of (take i digits) ++ rest → piece ≡ syllable_of (get_or digits i 0 - 48)
      → ((after : List ℕ) → rest ≢ piece ++ after) → text ≢ spells_of digits
  spelled_differs digits text rest piece i lt so_far next other same =
      let front = spells_of (take i digits) in
      let after = spells_of (drop (i + 1) digits) in
      let whole : spells_of digits ≡ spells_of (take (i + 1) digits) ++ after =
      rw (← flat_map-append (λ (c : ℕ). syllable_of (c - 48)) (take (i + 1) digits) (drop (i + 1) digits), take-append-drop (i + 1) digits) refl in
      let split : front ++ rest ≡ front ++ (piece ++ after) =
      sym so_far ∙ same ∙ whole ∙ (rw (spelled_at digits i lt, next) (append_assoc front (syllable_of (get_or digits i 0 - 48)) after)) in
      other after (append_cancel_left front rest (piece ++ after) split)

  -- with each syllable taken off, the text is spelled where nothing stands behind them
  pub spelled_all : (digits text rest : List ℕ) (i : ℕ) → length digits ≤ i → text ≡ spells_of (take i digits) ++ rest
      → IsTrue (length rest == 0) ↔ (text ≡ spells_of digits)
  spelled_all digits text rest i le is =
      nothing_behind text (spells_of digits) rest (rw take_all at is)

-- the text in lower case is that of the syllables in lower case
pub lower_spelled : (digits : List ℕ) → map lower (spelled digits) ≡ flat_map (λ code. map lower (syllable (code - 48))) digits
lower_spelled [] = refl
lower_spelled (code ∷ digits) =
    map-append lower (syllable (code - 48)) (spelled digits) ∙ ap (λ (l : List ℕ). map lower (syllable (code - 48)) ++ l) (lower_spelled digits)
