-- A text of plain bytes stands for itself.
use Rattle.std.proofs.Common.{◌≡◌, ◌≢◌, ℕ, ◌<◌, Bool, true, Some, List, IsUtf8, All, ap, ◌∙◌, arith}
use Rattle.std.specs.List.{list_all}
use Rattle.std.specs.Char.{is_ascii_digit}
use Rattle.std.specs.Str.Lossy.{utf8_lossy}
use Rattle.std.proofs.lemmas.List.Sums.{AllPass-from_list_all}
use Rattle.std.proofs.lemmas.Str.{IsUtf8-from_ascii, utf8_lossy-IsUtf8}
use Rattle.std.proofs.lemmas.Str.Ascii.{IsAscii-from_all}
use Rattle.shop_text.specs.Numbers.{number_of}
use Rattle.form_urlencoded.specs.Form.{IsPlain}
use Rattle.form_urlencoded.proofs.FormLemmas.{decode_plain}
use Rattle.shop_http.specs.Forms.{decoded_text, is_plain}

plain_byte : (byte : ℕ) → is_plain byte ≡ true → (byte < 128) × (byte ≢ 43) × (byte ≢ 37)
plain_byte byte is = grind arith

digit_byte : (byte : ℕ) → is_ascii_digit byte ≡ true → (byte < 128) × (byte ≢ 43) × (byte ≢ 37)
digit_byte byte is = grind arith

-- bytes of which each passes a test that only plain ones pass

is_text : (test : ℕ → Bool) (bytes : List ℕ) → ((byte : ℕ) → test byte ≡ true → (byte < 128) × (byte ≢ 43) × (byte ≢ 37))
    → list_all test bytes ≡ true → IsUtf8 bytes
is_text test bytes plain_byte all =
    let each = AllPass-from_list_all test bytes all in
    IsUtf8-from_ascii bytes (IsAscii-from_all bytes (λ k d within. (plain_byte _ (each k d within)).0))

stands : (test : ℕ → Bool) (bytes : List ℕ) → ((byte : ℕ) → test byte ≡ true → (byte < 128) × (byte ≢ 43) × (byte ≢ 37))
    → list_all test bytes ≡ true → decoded_text bytes ≡ bytes
stands test bytes plain_byte all =
    let each = AllPass-from_list_all test bytes all in
    let plain : All IsPlain bytes = λ k d within. let byte = plain_byte _ (each k d within) in (byte.1, byte.2) in
    ap utf8_lossy (decode_plain bytes plain) ∙ utf8_lossy-IsUtf8 bytes (is_text test bytes plain_byte all)

pub utf8-plain : (bytes : List ℕ) → list_all is_plain bytes ≡ true → IsUtf8 bytes
utf8-plain bytes all = is_text is_plain bytes plain_byte all

pub decoded_text-plain : (bytes : List ℕ) → list_all is_plain bytes ≡ true → decoded_text bytes ≡ bytes
decoded_text-plain bytes all = stands is_plain bytes plain_byte all

digits_in : (bytes : List ℕ) (number : ℕ) → number_of bytes ≡ Some number → list_all is_ascii_digit bytes ≡ true
unfolding number_of
digits_in bytes number is = grind arith

-- the digits of a number
pub decoded_text-number : (bytes : List ℕ) (number : ℕ) → number_of bytes ≡ Some number → decoded_text bytes ≡ bytes
decoded_text-number bytes number is = stands is_ascii_digit bytes digit_byte (digits_in bytes number is)
