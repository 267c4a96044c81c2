-- What stands for a byte, and that it is read back as this byte.
use Rattle.std.proofs.Common.{◌≡◌, ℕ, ◌==◌, ⊎_elim, false, List, [], ◌∷◌, ◌++◌, Some, refl, sym, ap, subst, ◌∙◌}
use Rattle.std.proofs.lemmas.Bool.{cases_eq, ne_eqb}
use Rattle.shop_text.specs.Escape.{escape_byte, entity_read, first_read}

-- a byte that stands for itself
pub record IsPlain (byte : ℕ) : Type 0 where
  pub amp : byte ≡ 38 → ⊥
  pub less : byte ≡ 60 → ⊥
  pub more : byte ≡ 62 → ⊥
  pub quote : byte ≡ 34 → ⊥

pub escape_plain : (byte : ℕ) → IsPlain byte → escape_byte byte ≡ byte ∷ []
escape_plain byte plain =
    let amp : (byte == 38) ≡ false = ne_eqb byte 38 plain.amp in
    let less : (byte == 60) ≡ false = ne_eqb byte 60 plain.less in
    let more : (byte == 62) ≡ false = ne_eqb byte 62 plain.more in
    let quote : (byte == 34) ≡ false = ne_eqb byte 34 plain.quote in
    rw (amp, less, more, quote) refl

-- the bytes that don't stand for themselves, and the others
pub byte_cases : (P : ℕ → Type 0) → P 38 → P 60 → P 62 → P 34 → ((byte : ℕ) → IsPlain byte → P byte) → (byte : ℕ) → P byte
byte_cases P amp less more quote plain byte =
    ⊎_elim (λ e. subst P (sym e) amp) (λ no_amp.
    ⊎_elim (λ e. subst P (sym e) less) (λ no_less.
    ⊎_elim (λ e. subst P (sym e) more) (λ no_more.
    ⊎_elim (λ e. subst P (sym e) quote) (λ no_quote.
    plain byte (record { amp = no_amp; less = no_less; more = no_more; quote = no_quote }))
    (cases_eq byte 34)) (cases_eq byte 62)) (cases_eq byte 60)) (cases_eq byte 38)

plain_read : (byte : ℕ) (rest : List ℕ) → (byte == 38) ≡ false → first_read (byte ∷ rest) ≡ Some (byte, rest)
unfolding first_read
plain_read byte rest other = rw other refl

pub escaped_read : (byte : ℕ) (rest : List ℕ) → first_read (escape_byte byte ++ rest) ≡ Some (byte, rest)
unfolding first_read entity_read
escaped_read byte rest =
    byte_cases (λ b. first_read (escape_byte b ++ rest) ≡ Some (b, rest)) refl refl refl refl
    (λ b plain. ap (λ front. first_read (front ++ rest)) (escape_plain b plain) ∙ plain_read b rest (ne_eqb b 38 plain.amp)) byte
