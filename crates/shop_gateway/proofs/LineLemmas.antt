-- Lines at the front of bytes, as more bytes come.
use Rattle.std.proofs.Common.{◌≡◌, ◌≢◌, ℕ, ◌+◌, ◌<◌, ◌≤◌, List, [], ◌∷◌, ◌++◌, length, take, drop, get_or, Option, append_assoc, refl, sym, ap, ◌∙◌, subst, arith}
use Rattle.std.specs.Io.KnownBytes.{Consumes}
use Rattle.std.proofs.lemmas.Bool.{eqb-true, eq-eqb}
use Rattle.std.proofs.lemmas.List.{append-nil, length-take-le, get_or-take, take-append-drop, drop_more, take_all}
use Rattle.std.proofs.lemmas.List.Elements.{All-from_get_or}
use Rattle.memchr.specs.Find.{Nowhere, NoneBefore, Passes, is_byte}
use Rattle.shop_edges.proofs.cited.Known.{Consumes-more}
use Rattle.shop_gateway.specs.Lines.{HasNoFeed, IsLine, IsOpen, IsLong, HasLine, Lines, Gathers}

-- no line feed is among the first bytes
no_feed : (bytes : List ℕ) (n : ℕ) → n ≤ length bytes → Nowhere (Passes (is_byte 10) bytes) 0 n → HasNoFeed (take n bytes)
no_feed bytes n within none =
    All-from_get_or (λ byte. byte ≢ 10) (take n bytes) 0 (λ i lt is. none i (omega arith) (omega (arith, lt, length-take-le n bytes within)) (eq-eqb (get_or bytes i 0) 10 (sym (get_or-take n bytes i 0 (omega (arith, lt, length-take-le n bytes within))) ∙ is)))

-- the first LF stands at this place
abbrev pub FirstFeed : List ℕ → ℕ → Type 0
FirstFeed bytes at = NoneBefore (Passes (is_byte 10) bytes) 0 (length bytes) at × Passes (is_byte 10) bytes at

pub line-at : (bytes : List ℕ) (len : ℕ) → FirstFeed bytes len → len ≤ 200 → HasLine bytes len
line-at bytes len first few = record {
  line = record {
    is = sym (take-append-drop len bytes) ∙ ap (λ xs. take len bytes ++ xs) (drop_more bytes len 0 first.0.high ∙ ap (λ b. b ∷ drop (len + 1) bytes) (eqb-true (get_or bytes len 0) 10 first.1));
    whole = no_feed bytes len (omega (arith, first.0.high)) first.0.before;
    short = omega (arith, few, length-take-le len bytes (omega (arith, first.0.high)));
  };
  within = first.0.high;
}

pub long-at : (bytes : List ℕ) (len : ℕ) → FirstFeed bytes len → 200 < len → IsLong bytes
long-at bytes len first many = record {
  long = omega (arith, many, first.0.high);
  none = no_feed bytes 201 (omega (arith, many, first.0.high)) (λ k low high. first.0.before k low (omega (arith, high, many)));
}

pub long-none : (bytes : List ℕ) → Nowhere (Passes (is_byte 10) bytes) 0 (length bytes) → 200 < length bytes → IsLong bytes
long-none bytes none many = record {
  long = many;
  none = no_feed bytes 201 (omega (arith, many)) (λ k low high. none k low (omega (arith, high, many)));
}

pub open-none : (bytes : List ℕ) → Nowhere (Passes (is_byte 10) bytes) 0 (length bytes) → length bytes ≤ 200 → IsOpen bytes
open-none bytes none few = record {
  open_end = subst HasNoFeed (take_all (length bytes) bytes (omega arith)) (no_feed bytes (length bytes) (omega arith) none);
  short = few;
}

-- ---- what was gathered

pub gathers-nothing : (left : Option (List ℕ)) (held : List ℕ) → Consumes left left [] → Gathers left left held held
gathers-nothing left held taken = record { piece = []; taken = taken; is = sym (append-nil held) }

pub gathers-more : (left left' left'' : Option (List ℕ)) (before part after : List ℕ) → Gathers left left' before part → Gathers left' left'' part after → Gathers left left'' before after
gathers-more left left' left'' before part after one other = record {
  piece = one.piece ++ other.piece;
  taken = Consumes-more left left' left'' one.piece other.piece one.taken other.taken;
  is = other.is ∙ ap (λ xs. xs ++ other.piece) one.is ∙ append_assoc before one.piece other.piece;
}

-- nothing came where the source has ended
pub gathers-ended : (left left' left'' : Option (List ℕ)) (before part after : List ℕ) → Gathers left left' before part → Consumes left' left'' [] → after ≡ part → Gathers left left'' before after
gathers-ended left left' left'' before part after one none same =
    gathers-more left left' left'' before part after one (record { piece = []; taken = none; is = same ∙ sym (append-nil part) })

-- ---- lines of more bytes

-- a line stays one, whatever comes behind
line-behind : (bytes line rest piece : List ℕ) → IsLine bytes line rest → IsLine (bytes ++ piece) line (rest ++ piece)
line-behind bytes line rest piece is = record {
  is = ap (λ xs. xs ++ piece) is.is ∙ append_assoc line (10 ∷ rest) piece;
  whole = is.whole;
  short = is.short;
}

pub lines-behind : (bytes : List ℕ) (lines : List (List ℕ)) (rest piece : List ℕ) → Lines bytes lines rest → Lines (bytes ++ piece) lines (rest ++ piece)
lines-behind bytes [] rest piece are = ap (λ xs. xs ++ piece) are
lines-behind bytes (line ∷ lines) rest piece (after, first, others) = (after ++ piece, line-behind bytes line after piece first, lines-behind after lines rest piece others)

pub lines-push : (bytes : List ℕ) (lines : List (List ℕ)) (rest line after : List ℕ) → Lines bytes lines rest → IsLine rest line after → Lines bytes (lines ++ line ∷ []) after
lines-push bytes [] rest line after are next = (after, subst (λ xs. IsLine xs line after) are next, refl)
lines-push bytes (first ∷ lines) rest line after (middle, is, others) next = (middle, is, lines-push middle lines rest line after others next)

-- a line that stands at the front, and what follows it, by other names
pub line-is : (bytes line after : List ℕ) (len : ℕ) → HasLine bytes len → line ≡ take len bytes → after ≡ drop (len + 1) bytes → IsLine bytes line after
line-is bytes line after len has is follows = rw (is, follows) has.line
