-- A text that is written is read again, and no sign between pairs stands in it.
use Rattle.std.proofs.Common.{◌≡◌, ℕ, ◌<◌, true, List, [], ◌∷◌, ◌++◌, ◌∙◌, ap, subst, arith, IsUtf8}
use Rattle.std.proofs.lemmas.Str.{utf8_lossy-IsUtf8}
use Rattle.std.proofs.lemmas.Bool.{and_parts}
use Rattle.std.specs.List.{AllByRecursion}
use Rattle.std.specs.Str.Lossy.{utf8_lossy}
use Rattle.std.proofs.Math.Utf8.{encode, encodes, scalar, scalars, scalar_fits}
use Rattle.form_urlencoded.specs.Form.{decode, byte_serialize, serialize_byte}
use Rattle.percent_encoding.proofs.PercentLemmas.{percent_decode-nil}
use Rattle.shop_journal.proofs.Bytes.{IsInside, first_byte, bytes_inside}

abbrev pub AreBytes : List ℕ → Type 0
AreBytes text = AllByRecursion (λ b. b < 256) text

pub joined : (P : ℕ → Type 0) (xs ys : List ℕ) → AllByRecursion P xs → AllByRecursion P ys → AllByRecursion P (xs ++ ys)
joined P [] ys each others = others
joined P (x ∷ xs) ys each others = (each.0, joined P xs ys each.1 others)

char_bytes : (c : ℕ) → scalar c ≡ true → AreBytes (encode c)
unfolding encode
char_bytes c is = grind (arith, scalar_fits c is)

chars_bytes : (cs : List ℕ) → scalars cs ≡ true → AreBytes (encodes cs)
chars_bytes [] is = tt
chars_bytes (c ∷ cs) is = let parts = and_parts (scalar c) (scalars cs) is in joined (λ b. b < 256) (encode c) (encodes cs) (char_bytes c parts.0) (chars_bytes cs parts.1)

pub utf8_bytes : (text : List ℕ) → IsUtf8 text → AreBytes text
utf8_bytes text is = subst AreBytes is.1.1 (chars_bytes is.0 is.1.0)

-- bytes that are a text
abbrev pub IsText : List ℕ → Type 0
IsText text = IsUtf8 text

bytes_again : (text : List ℕ) → AreBytes text → decode (byte_serialize text) ≡ text
unfolding byte_serialize
bytes_again [] each = percent_decode-nil
bytes_again (b ∷ text) each = first_byte b (byte_serialize text) each.0 ∙ ap (λ (l : List ℕ). b ∷ l) (bytes_again text each.1)

pub text_again : (text : List ℕ) → IsText text → utf8_lossy (decode (byte_serialize text)) ≡ text
text_again text is = ap utf8_lossy (bytes_again text (utf8_bytes text is)) ∙ utf8_lossy-IsUtf8 text is

pub text_inside : (text : List ℕ) → AllByRecursion IsInside (byte_serialize text)
unfolding byte_serialize
text_inside [] = tt
text_inside (b ∷ text) = joined IsInside (serialize_byte b) (byte_serialize text) (bytes_inside b) (text_inside text)
