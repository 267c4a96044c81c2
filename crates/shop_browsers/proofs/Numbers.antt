-- The number of a first pair, as it stands in a page.
use Rattle.std.proofs.Common.{◌≡◌, ◌≢◌, ℕ, ◌+◌, ◌-◌, ◌*◌, ◌^◌, ◌≤◌, ◌==◌, ◌&&◌, ⊎_elim, Bool, true, false, List, [], ◌∷◌, ◌++◌, length, take, drop, get_or, take_all, add-one, Option, Some, None, codes, nat_eq, arith, refl, sym, ap, subst, ◌∙◌, append_assoc, append-nil, length-append}
use Rattle.std.specs.Prelude.{if◌then◌else◌, nat_le}
use Rattle.std.specs.List.{list_all, starts_with}
use Rattle.std.specs.Char.{is_ascii_digit}
use Rattle.std.specs.Str.Parse.{digits_value}
use Rattle.std.proofs.lemmas.Bool.{ne_eqb, eq-eqb, false≢true, and_parts}
use Rattle.std.proofs.lemmas.Bool.Decides.{Decides-eqb, nat_tests}
use Rattle.std.proofs.lemmas.Grind.{flat_map-append}
use Rattle.std.proofs.lemmas.Int.Digits.{digits_value_push}
use Rattle.std.proofs.lemmas.Str.{digit_value_digit}
use Rattle.std.proofs.lemmas.Slice.Eq.{starts_is}
use Rattle.std.proofs.Math.Nat.{pow-suc}
use Rattle.shop_text.proofs.cited.Digits.{digit_range}
use Rattle.shop_text.specs.Escape.{escape, escape_byte}
use Rattle.shop_text.specs.Numbers.{number_of}
use Rattle.shop_text.proofs.cited.Escaped.{IsPlain, escape_plain, byte_cases}
use Rattle.shop_browsers.specs.Scanned.{AreDigits, Begins, IsLeft, Stops, TakesNumber, ends, first_pair, pair_over}
use Rattle.shop_browsers.specs.Shown.{number_behind}
use Rattle.shop_browsers.proofs.Reading.{all_left}

refused : (a b d : Bool) (x : Option ℕ) → (if a && b && false && d then x else None) ≡ None
refused true true d x = refl
refused true false d x = refl
refused false b d x = refl

no_number : (text : List ℕ) → list_all is_ascii_digit text ≡ false → number_of text ≡ None
unfolding number_of
no_number text other =
    rw other (refused (nat_le 1 (length text)) (nat_le (length text) 10) (nat_le (digits_value 10 text) 4_294_967_295) (Some (digits_value 10 text)))

-- bytes that all stand for themselves
abbrev pub ArePlain : List ℕ → Type 0
ArePlain [] = Unit {0}
ArePlain (byte ∷ bytes) = IsPlain byte × ArePlain bytes

-- a digit stands for itself
digit_plain : (byte : ℕ) → is_ascii_digit byte ≡ true → IsPlain byte
digit_plain byte digit = record {
  amp = λ e. false≢true (sym (ap is_ascii_digit e) ∙ digit);
  less = λ e. false≢true (sym (ap is_ascii_digit e) ∙ digit);
  more = λ e. false≢true (sym (ap is_ascii_digit e) ∙ digit);
  quote = λ e. false≢true (sym (ap is_ascii_digit e) ∙ digit);
}

pub digits_plain : (digits : List ℕ) → list_all is_ascii_digit digits ≡ true → ArePlain digits
digits_plain [] all = tt
digits_plain (byte ∷ digits) all =
    let parts = and_parts (is_ascii_digit byte) (list_all is_ascii_digit digits) all in
    (digit_plain byte parts.0, digits_plain digits parts.1)

all_more : (digits : List ℕ) (byte : ℕ) → list_all is_ascii_digit digits ≡ true → is_ascii_digit byte ≡ true → list_all is_ascii_digit (digits ++ byte ∷ []) ≡ true
all_more [] byte all digit = rw digit refl
all_more (first ∷ digits) byte all digit =
    let parts = and_parts (is_ascii_digit first) (list_all is_ascii_digit digits) all in
    rw parts.0 (all_more digits byte parts.1 digit)

-- one more digit was read
pub digit_more : (text rest : List ℕ) (value more : ℕ) → AreDigits text value rest → is_ascii_digit (get_or rest 0 0) ≡ true → 1 ≤ length rest
    → (length text - length rest ≡ 10 → ⊥) → more ≡ get_or rest 0 0 - 48
    → AreDigits text (value * 10 + more) (take (length rest - 1) (drop 1 rest))
digit_more text [] value more read digit some few more_is = absurd (omega (arith, some))
digit_more text (byte ∷ rest) value more read digit some few more_is =
    let digits = read.digits in
    let sizes : length text ≡ length digits + (length rest + 1) = ap length read.is ∙ length-append digits (byte ∷ rest) ∙ omega arith in
    let after : take (length (byte ∷ rest) - 1) rest ≡ rest = take_all (length (byte ∷ rest) - 1) rest (omega arith) in
    let longer : length (digits ++ byte ∷ []) ≡ length digits + 1 = length-append digits (byte ∷ []) ∙ omega arith in
    let range = digit_range byte digit in
    let power : 10 ^ (length digits + 1) ≡ 10 ^ length digits * 10 = rw add-one (pow-suc 10 (length digits)) in
    record {
      digits = digits ++ byte ∷ [];
      is = read.is ∙ sym (append_assoc digits (byte ∷ []) rest) ∙ ap (λ bytes. (digits ++ byte ∷ []) ++ bytes) (sym after);
      all = all_more digits byte read.all digit;
      few = omega (arith, longer, not_ten (length digits) (length text - length (byte ∷ rest)) read.few few (omega (arith, sizes)));
      value_is = omega (arith, digits_value_push 10 digits byte, digit_value_digit byte range, range, more_is, read.value_is);
      below = rw longer (omega (arith, power, range, more_is, read.below));
    }
  where
    not_ten : (n m : ℕ) → n ≤ 10 → (m ≡ 10 → ⊥) → m ≡ n → n ≤ 9
    not_ten n m few other same = grind (arith, few, other, same)

-- what a query has behind such bytes in front
abbrev pub Follows : List ℕ → List ℕ → List ℕ → List ℕ → Type 0
Follows front query tail left = (others : List ℕ) × (query ≡ front ++ others) × Begins left others tail

ended_not : (byte : ℕ) (bytes tail : List ℕ) → IsPlain byte → ends tail ≡ true → tail ≡ byte ∷ bytes → ⊥
ended_not byte bytes tail plain ended is = false≢true (sym (ne_eqb byte 34 plain.quote) ∙ sym (ap ends is) ∙ ended)

head_in : List ℕ → ℕ
head_in [] = 0
head_in (byte ∷ bytes) = byte

tail_in : List ℕ → List ℕ
tail_in [] = []
tail_in (byte ∷ bytes) = bytes

same_head : (a b : ℕ) (xs ys : List ℕ) → ◌≡◌ {A = List ℕ} (a ∷ xs) (b ∷ ys) → (a ≡ b) × (xs ≡ ys)
unfolding head_in tail_in
same_head a b xs ys e = (ap head_in e, ap tail_in e)

-- plain bytes stand for themselves
pub behind_front : (front left query tail : List ℕ) → ArePlain front → escape query ++ tail ≡ front ++ left → ends tail ≡ true → Follows front query tail left
behind_front [] left query tail plain is ended = (query, refl, record { is = sym is; ended = ended })
behind_front (byte ∷ front) left [] tail plain is ended = absurd (ended_not byte (front ++ left) tail plain.0 ended is)
behind_front (byte ∷ front) left (x ∷ query) tail plain is ended =
    byte_cases (λ b. (escape_byte b ++ escape query) ++ tail ≡ byte ∷ (front ++ left) → Follows (byte ∷ front) (b ∷ query) tail left)
    (λ e. absurd (plain.0.amp (sym (same_head _ _ _ _ e).0))) (λ e. absurd (plain.0.amp (sym (same_head _ _ _ _ e).0)))
    (λ e. absurd (plain.0.amp (sym (same_head _ _ _ _ e).0))) (λ e. absurd (plain.0.amp (sym (same_head _ _ _ _ e).0)))
    (λ b stands e.
    let both = same_head b byte (escape query ++ tail) (front ++ left) (ap (λ these. (these ++ escape query) ++ tail) (sym (escape_plain b stands)) ∙ e) in
    let follows = behind_front front left query tail plain.1 both.1 ended in
    (follows.0, ap (λ c. c ∷ query) both.0 ∙ ap (λ rest. byte ∷ rest) follows.1, follows.2)) x is

pub front_pair : (front others : List ℕ) → ArePlain front → first_pair (front ++ others) ≡ front ++ first_pair others
front_pair [] others plain = refl
front_pair (byte ∷ front) others plain = rw (ne_eqb byte 38 plain.0.amp) (ap (λ rest. byte ∷ rest) (front_pair front others plain.1))

-- what was read behind plain bytes was read behind these
pub left_behind : (front query others tail left : List ℕ) → ArePlain front → query ≡ front ++ others → IsLeft others tail left → IsLeft query tail left
left_behind front query others tail left plain is read = record {
  passed = front ++ read.passed;
  others = read.others;
  pair = ap first_pair is ∙ front_pair front others plain ∙ ap (λ rest. front ++ rest) read.pair ∙ sym (append_assoc front read.passed (first_pair read.others));
  all = is ∙ ap (λ rest. front ++ rest) read.all ∙ sym (append_assoc front read.passed read.others);
  begins = read.begins;
}

not_all : (digits more : List ℕ) (byte : ℕ) → is_ascii_digit byte ≡ false → list_all is_ascii_digit (digits ++ byte ∷ more) ≡ false
not_all [] more byte other = rw other refl
not_all (digit ∷ digits) more byte other = by (is_ascii_digit digit) (not_all digits more byte other)
  where
    by : (b : Bool) → list_all is_ascii_digit (digits ++ byte ∷ more) ≡ false → (b && list_all is_ascii_digit (digits ++ byte ∷ more)) ≡ false
    by true behind = behind
    by false behind = refl

too_many : (a : Bool) (c d : Bool) (x : Option ℕ) → (if a && false && c && d then x else None) ≡ None
too_many true c d x = refl
too_many false c d x = refl

long_number : (text : List ℕ) → nat_le (length text) 10 ≡ false → number_of text ≡ None
unfolding number_of
long_number text long =
    rw long (too_many (nat_le 1 (length text)) (list_all is_ascii_digit text) (nat_le (digits_value 10 text) 4_294_967_295) (Some (digits_value 10 text)))

ten_long : (digits more : List ℕ) (byte : ℕ) → length digits ≡ 10 → nat_le (length (digits ++ byte ∷ more)) 10 ≡ false
ten_long digits more byte ten = grind (arith, nat_tests, ten, length-append digits (byte ∷ more))

-- digits before a byte that is no `&`, where no digit follows or there are ten
number_cut : (digits left others tail more : List ℕ) (byte : ℕ) → left ≡ escape (byte ∷ others) ++ tail → Stops (digits ++ left) left
    → number_of (digits ++ byte ∷ more) ≡ None
number_cut digits left others tail more byte is stops = by (is_ascii_digit byte) refl
  where
    by : (b : Bool) → is_ascii_digit byte ≡ b → number_of (digits ++ byte ∷ more) ≡ None
    by false other = no_number (digits ++ byte ∷ more) (not_all digits more byte other)
    by true digit =
        let stands = is ∙ ap (λ these. (these ++ escape others) ++ tail) (escape_plain byte (digit_plain byte digit)) in
        let sizes = length-append digits left in
        ⊎_elim (λ other. absurd (false≢true (sym other ∙ digit)))
        (λ ten. long_number (digits ++ byte ∷ more) (ten_long digits more byte (omega (arith, ten, ap length stands, sizes))))
        (subst (λ bytes. Stops (digits ++ left) bytes) stands stops)

-- the digits that end a pair are its number
pub number_over : (digits query others : List ℕ) → ArePlain digits → query ≡ digits ++ others → pair_over others ≡ true → first_pair query ≡ digits
number_over digits query others plain is over = ap first_pair is ∙ front_pair digits others plain ∙ ap (λ rest. digits ++ rest) (none others over) ∙ append-nil digits
  where
    none : (rest : List ℕ) → pair_over rest ≡ true → first_pair rest ≡ []
    none [] over = refl
    none (byte ∷ rest) over = rw over refl

-- digits that don't end a pair are no number
pub number_not : (digits left query others tail : List ℕ) → ArePlain digits → query ≡ digits ++ others → left ≡ escape others ++ tail → Stops (digits ++ left) left
    → pair_over others ≡ false → number_of (first_pair query) ≡ None
number_not digits left query [] tail plain is left_is stops goes = absurd (false≢true (sym goes))
number_not digits left query (byte ∷ others) tail plain is left_is stops goes =
    ap number_of (ap first_pair is ∙ front_pair digits (byte ∷ others) plain ∙ ap (λ rest. digits ++ rest) (longer goes))
    ∙ number_cut digits left others tail (first_pair others) byte left_is stops
  where
    longer : (byte == 38) ≡ false → first_pair (byte ∷ others) ≡ byte ∷ first_pair others
    longer other = rw other refl

-- what digits in front leave
follow : (text left t tail : List ℕ) (value : ℕ) (read : AreDigits text value left) → Begins text t tail → Follows read.digits t tail left
follow text left t tail value read begins =
    behind_front read.digits left t tail (digits_plain read.digits read.all) (sym begins.is ∙ read.is) begins.ended

digits_left : (text left t tail : List ℕ) (value : ℕ) → AreDigits text value left → Begins text t tail → IsLeft t tail left
digits_left text left t tail value read begins =
    let follows = follow text left t tail value read begins in
    left_behind read.digits t follows.0 tail left (digits_plain read.digits read.all) follows.1 (all_left follows.0 tail left follows.2)

-- whether the pair ends behind them
abbrev EndsAs : Bool → List ℕ → Type 0
EndsAs over left = (t tail : List ℕ) → Begins left t tail → over ≡ pair_over t

-- digits that end the pair
pub takes_digits : (text left : List ℕ) (value : ℕ) (number : Option ℕ) → (read : AreDigits text value left) → EndsAs true left → number ≡ number_of read.digits
    → (t tail : List ℕ) → Begins text t tail → TakesNumber t tail number left
takes_digits text left value number read over is t tail begins =
    let follows = follow text left t tail value read begins in (
      is ∙ ap number_of (sym (number_over read.digits t follows.0 (digits_plain read.digits read.all) follows.1 (sym (over follows.0 tail follows.2)))),
      digits_left text left t tail value read begins,
    )

-- digits that don't end it
pub takes_none : (text left : List ℕ) (value : ℕ) → AreDigits text value left → Stops text left → EndsAs false left
    → (t tail : List ℕ) → Begins text t tail → TakesNumber t tail None left
takes_none text left value read stops goes t tail begins =
    let follows = follow text left t tail value read begins in (
      sym (number_not read.digits left t follows.0 tail (digits_plain read.digits read.all) follows.1 follows.2.is (subst (λ bytes. Stops bytes left) read.is stops)
          (sym (goes follows.0 tail follows.2))),
      digits_left text left t tail value read begins,
    )

no_digits : (digits : List ℕ) → length digits ≡ 0 → number_of digits ≡ None
unfolding number_of
no_digits [] none = refl
no_digits (byte ∷ digits) none = absurd (omega (arith, none))

-- no digits
pub takes_nothing : (text left : List ℕ) (value : ℕ) → AreDigits text value left → Stops text left → length left ≡ length text
    → (t tail : List ℕ) → Begins text t tail → TakesNumber t tail None left
takes_nothing text left value read stops same t tail begins = (by (pair_over follows.0) refl, digits_left text left t tail value read begins)
  where
    follows : Follows read.digits t tail left
    follows = follow text left t tail value read begins

    sizes : length text ≡ length read.digits + length left
    sizes = ap length read.is ∙ length-append read.digits left

    by : (b : Bool) → pair_over follows.0 ≡ b → None ≡ number_of (first_pair t)
    by true over =
        sym (ap number_of (number_over read.digits t follows.0 (digits_plain read.digits read.all) follows.1 over) ∙ no_digits read.digits (omega (arith, sizes, same)))
    by false goes =
        sym (number_not read.digits left t follows.0 tail (digits_plain read.digits read.all) follows.1 follows.2.is (subst (λ bytes. Stops bytes left) read.is stops) goes)

-- the number that these digits write
pub number_is : (text left : List ℕ) (value : ℕ) (read : AreDigits text value left) → (length left ≡ length text → ⊥)
    → number_of read.digits ≡ (if nat_le value 4_294_967_295 then Some value else None)
unfolding number_of
number_is text left value read some =
    let sizes : length text ≡ length read.digits + length left = ap length read.is ∙ length-append read.digits left in
    let least : nat_le 1 (length read.digits) ≡ true = grind (arith, nat_tests, sizes, some) in
    let most : nat_le (length read.digits) 10 ≡ true = grind (arith, nat_tests, read.few) in
    rw (least, most, read.all, read.value_is) refl

first_rest : (query : List ℕ) → (rest : List ℕ) × (query ≡ first_pair query ++ rest)
first_rest [] = ([], refl)
first_rest (byte ∷ query) = let behind = first_rest query in by (byte == 38) behind.0 behind.1
  where
    by : (b : Bool) (behind : List ℕ) → query ≡ first_pair query ++ behind → (rest : List ℕ) × (byte ∷ query ≡ (if b then [] else byte ∷ first_pair query) ++ rest)
    by true behind is = (byte ∷ query, refl)
    by false behind is = (behind, ap (λ bytes. byte ∷ bytes) is)

-- a pair that doesn't begin so
pub no_front : (front bytes query tail : List ℕ) → escape front ≡ front → Begins bytes query tail → ((after : List ℕ) → bytes ≢ front ++ after)
    → number_behind front (first_pair query) ≡ None
no_front front bytes query tail plain begins other = by (starts_with nat_eq (first_pair query) front) refl
  where
    by : (b : Bool) → starts_with nat_eq (first_pair query) front ≡ b → (if b then number_of (drop (length front) (first_pair query)) else None) ≡ None
    by false differs = refl
    by true starts =
        let is = (starts_is Decides-eqb (first_pair query) front (starts_with nat_eq (first_pair query) front) refl).0 starts in
        let rest = first_rest query in
        let more = drop (length front) (first_pair query) ++ rest.0 in
        let whole : query ≡ front ++ more = rest.1 ∙ ap (λ bytes. bytes ++ rest.0) is ∙ append_assoc front (drop (length front) (first_pair query)) rest.0 in
        absurd (other (escape more ++ tail)
        (begins.is ∙ ap (λ text. escape text ++ tail) whole ∙ ap (λ bytes. bytes ++ tail) (flat_map-append escape_byte front more ∙ ap (λ these. these ++ escape more) plain)
        ∙ append_assoc front (escape more) tail))

plain_byte : (byte : ℕ) → (byte == 38) ≡ false → (byte == 60) ≡ false → (byte == 62) ≡ false → (byte == 34) ≡ false → IsPlain byte
plain_byte byte amp less more quote = record { amp = differs 38 amp; less = differs 60 less; more = differs 62 more; quote = differs 34 quote }
  where
    differs : (n : ℕ) → (byte == n) ≡ false → byte ≡ n → ⊥
    differs n other e = false≢true (sym other ∙ eq-eqb byte n e)

pub plain_customer : ArePlain (codes "c=")
plain_customer = (plain_byte 99 refl refl refl refl, (plain_byte 61 refl refl refl refl, tt))

pub plain_cart : ArePlain (codes "cart=")
plain_cart =
    (plain_byte 99 refl refl refl refl, (plain_byte 97 refl refl refl refl, (plain_byte 114 refl refl refl refl, (plain_byte 116 refl refl refl refl, (plain_byte 61 refl refl refl refl, tt)))))
