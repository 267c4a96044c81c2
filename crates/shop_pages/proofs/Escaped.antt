-- An escaped text is read back byte by byte.
use Rattle.std.proofs.Common.{◌≡◌, ℕ, ◌==◌, ◌||◌, ◌⊎◌, ⊎_elim, inl, inr, true, false, List, [], ◌∷◌, ◌++◌, refl, sym, ap, ◌∙◌, subst, append_assoc, append-nil, Some, None}
use Rattle.std.proofs.lemmas.Bool.{cases_eq, ne_eqb}
use Rattle.std.specs.declared.option.Option.{Option}
use Rattle.shop_text.specs.Escape.{escape_byte, first_read, entity_read}
use Rattle.shop_text.specs.Texts.{escape}
use Rattle.shop_text.proofs.cited.Escaped.{escape_plain, byte_cases}
use Rattle.shop_pages.specs.Parts.{Ends, text_read}

plain_read : (byte : ℕ) (rest : List ℕ) → (byte == 38) ≡ false → (byte == 60) ≡ false → (byte == 34) ≡ false → text_read (byte ∷ rest) ≡ Some (byte, rest)
unfolding text_read first_read
plain_read byte rest and less quote = rw (less, quote, and) refl

pub escaped_read : (byte : ℕ) (rest : List ℕ) → text_read (escape_byte byte ++ rest) ≡ Some (byte, rest)
unfolding text_read first_read entity_read
escaped_read byte rest =
    byte_cases (λ b. text_read (escape_byte b ++ rest) ≡ Some (b, rest)) refl refl refl refl
    (λ b plain. ap (λ front. text_read (front ++ rest)) (escape_plain b plain) ∙ plain_read b rest (ne_eqb b 38 plain.amp) (ne_eqb b 60 plain.less) (ne_eqb b 34 plain.quote)) byte

-- equal, or told apart
eq_or : (a b : ℕ) → (a ≡ b) ⊎ ((a == b) ≡ false)
eq_or a b = ⊎_elim inl (λ apart. inr (ne_eqb a b apart)) (cases_eq a b)

ends_read : (byte : ℕ) (rest : List ℕ) → (byte ≡ 60) ⊎ (byte ≡ 34) → text_read (byte ∷ rest) ≡ None
unfolding text_read
ends_read byte rest is =
    ⊎_elim (λ e. subst (λ b. text_read (b ∷ rest) ≡ None) (sym e) refl)
    (λ e. subst (λ b. text_read (b ∷ rest) ≡ None) (sym e) refl) is

either : (byte : ℕ) → ((byte == 60) || (byte == 34)) ≡ true → (byte ≡ 60) ⊎ (byte ≡ 34)
either byte is = ⊎_elim inl (λ less. ⊎_elim inr (λ quote. absurd (no_less less quote)) (eq_or byte 34)) (eq_or byte 60)
  where
    no_less : (byte == 60) ≡ false → (byte == 34) ≡ false → ⊥
    no_less less quote = let bad : false ≡ true = sym (rw (less, quote) refl) ∙ is in cc

-- where a text ends no byte of it is read
pub ended_read : (rest : List ℕ) → Ends rest → text_read rest ≡ None
ended_read [] ends = absurd ends
ended_read (byte ∷ rest) ends = ends_read byte rest (either byte ends)

-- the parts of what was read
abbrev byte_in : Option (ℕ × List ℕ) → ℕ
byte_in None = 0
byte_in (Some both) = both.0

abbrev rest_in : Option (ℕ × List ℕ) → List ℕ
rest_in None = []
rest_in (Some both) = both.1

-- so much of a text was read; here the rest of it stands
pub record IsAmid (bytes read here : List ℕ) : Type 0 where
  pub left : (text rest : List ℕ) → Ends rest → bytes ≡ escape text ++ rest → (more : List ℕ) × (text ≡ read ++ more) × (here ≡ escape more ++ rest)

pub text_begun : (bytes read : List ℕ) → read ≡ [] → IsAmid bytes read bytes
text_begun bytes read none = record { left = λ text rest ends is. (text, ap (λ (l : List ℕ). l ++ text) (sym none), is) }

-- one more byte was read
taken : (read read' more rest here after text : List ℕ) (byte : ℕ) → read' ≡ read ++ byte ∷ [] → Ends rest → here ≡ escape more ++ rest → text ≡ read ++ more
    → text_read here ≡ Some (byte, after) → (others : List ℕ) × (text ≡ read' ++ others) × (after ≡ escape others ++ rest)
taken read read' [] rest here after text byte added ends is so_far found =
    absurd (none_some (sym (ended_read rest ends) ∙ ap text_read (sym is) ∙ found))
  where
    none_some : ◌≡◌ {A = Option (ℕ × List ℕ)} None (Some (byte, after)) → ⊥
    none_some e = cc
taken read read' (first ∷ more) rest here after text byte added ends is so_far found =
    let both : ◌≡◌ {A = Option (ℕ × List ℕ)} (Some (first, escape more ++ rest)) (Some (byte, after)) = sym (escaped_read first (escape more ++ rest)) ∙ ap text_read (sym (is ∙ append_assoc (escape_byte first) (escape more) rest)) ∙ found in
    (more, so_far ∙ ap (λ b. read ++ b ∷ more) (ap byte_in both) ∙ sym (append_assoc read (byte ∷ []) more) ∙ ap (λ xs. xs ++ more) (sym added), sym (ap rest_in both))

pub byte_taken : (bytes read read' here after : List ℕ) (byte : ℕ) → IsAmid bytes read here → read' ≡ read ++ byte ∷ [] → text_read here ≡ Some (byte, after) → IsAmid bytes read' after
byte_taken bytes read read' here after byte amid added found = record {
  left = λ text rest ends is. let left = amid.left text rest ends is in taken read read' left.0 rest here after text byte added ends left.2 left.1 found;
}

-- nothing was read of what is left, so nothing is left
ended : (read more rest here text : List ℕ) → here ≡ escape more ++ rest → text ≡ read ++ more → text_read here ≡ None → (read ≡ text) × (here ≡ rest)
ended read [] rest here text is so_far found = (sym (append-nil read) ∙ sym so_far, is)
ended read (first ∷ more) rest here text is so_far found =
    absurd (some_none (sym (escaped_read first (escape more ++ rest)) ∙ ap text_read (sym (is ∙ append_assoc (escape_byte first) (escape more) rest)) ∙ found))
  where
    some_none : ◌≡◌ {A = Option (ℕ × List ℕ)} (Some (first, escape more ++ rest)) None → ⊥
    some_none e = cc

pub text_ended : (bytes read here : List ℕ) → IsAmid bytes read here → text_read here ≡ None → (text rest : List ℕ) → Ends rest → bytes ≡ escape text ++ rest → (read ≡ text) × (here ≡ rest)
text_ended bytes read here amid found text rest ends is =
    let left = amid.left text rest ends is in ended read left.0 rest here text left.2 left.1 found
