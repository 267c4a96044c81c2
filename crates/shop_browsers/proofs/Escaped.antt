-- Texts as they stand in a page: what stands for each byte, and what is not among it.
use Rattle.std.proofs.Common.{◌≡◌, ℕ, zero, suc, ◌+◌, ◌<◌, ◌==◌, ◌||◌, ⊎_elim, Bool, true, false, List, [], ◌∷◌, ◌++◌, length, take, drop, get_or, take-append-drop, arith, refl, sym, ap, subst, ◌∙◌, append-nil}
use Rattle.std.specs.Prelude.{if◌then◌else◌}
use Rattle.std.specs.List.{All, before_first, after_first, position_or_len}
use Rattle.std.proofs.lemmas.Bool.{cases_eq, ne_eqb, false≢true, true≢false, or_parts}
use Rattle.std.proofs.lemmas.List.Elements.{All-cons}
use Rattle.shop_text.specs.Escape.{escape, escape_byte}
use Rattle.shop_text.proofs.cited.Escaped.{escape_plain, byte_cases}
use Rattle.shop_browsers.specs.Scanned.{Begins, ends}

-- no byte passes the test
abbrev pub none_of : (ℕ → Bool) → List ℕ → Bool
none_of p [] = true
none_of p (x ∷ xs) = if p x then false else none_of p xs

pub none_tail : (b c : Bool) → (if b then false else c) ≡ true → (b ≡ false) × (c ≡ true)
none_tail true c e = absurd (false≢true e)
none_tail false c e = (refl, e)

pub none_append : (p : ℕ → Bool) (xs ys : List ℕ) → none_of p xs ≡ true → none_of p ys ≡ true → none_of p (xs ++ ys) ≡ true
none_append p [] ys first second = second
none_append p (x ∷ xs) ys first second =
    let parts = none_tail (p x) (none_of p xs) first in
    rw parts.0 (none_append p xs ys parts.1 second)

pub none_one : (p : ℕ → Bool) (byte : ℕ) → p byte ≡ false → none_of p (byte ∷ []) ≡ true
none_one p byte fails = rw fails refl

-- no byte passes, at any place
pub none_all : (p : ℕ → Bool) (xs : List ℕ) → none_of p xs ≡ true → All (λ x. p x ≡ false) xs
none_all p [] none = λ k d below. absurd (omega (arith, below))
none_all p (x ∷ xs) none =
    let parts = none_tail (p x) (none_of p xs) none in
    All-cons (λ y. p y ≡ false) x xs parts.0 (none_all p xs parts.1)

pub none_less : (text : List ℕ) → none_of (λ b. b == 60) (escape text) ≡ true
none_less [] = refl
none_less (byte ∷ text) =
    none_append (λ b. b == 60) (escape_byte byte) (escape text)
    (byte_cases (λ b. none_of (λ x. x == 60) (escape_byte b) ≡ true) refl refl refl refl
    (λ b plain. ap (none_of (λ x. x == 60)) (escape_plain b plain) ∙ none_one (λ x. x == 60) b (ne_eqb b 60 plain.less)) byte)
    (none_less text)

pub none_quote : (text : List ℕ) → none_of (λ b. b == 34) (escape text) ≡ true
none_quote [] = refl
none_quote (byte ∷ text) =
    none_append (λ b. b == 34) (escape_byte byte) (escape text)
    (byte_cases (λ b. none_of (λ x. x == 34) (escape_byte b) ≡ true) refl refl refl refl
    (λ b plain. ap (none_of (λ x. x == 34)) (escape_plain b plain) ∙ none_one (λ x. x == 34) b (ne_eqb b 34 plain.quote)) byte)
    (none_quote text)

none_mark : (byte : ℕ) → (byte ≡ 63 → ⊥) → none_of (λ b. b == 63) (escape_byte byte) ≡ true
none_mark byte other =
    byte_cases (λ b. (b ≡ 63 → ⊥) → none_of (λ x. x == 63) (escape_byte b) ≡ true) (λ _. refl) (λ _. refl) (λ _. refl) (λ _. refl)
    (λ b plain apart. ap (none_of (λ x. x == 63)) (escape_plain b plain) ∙ none_one (λ x. x == 63) b (ne_eqb b 63 apart)) byte other

-- the first that passes stands behind one that doesn't
before_no : (p : ℕ → Bool) (x : ℕ) (xs : List ℕ) → p x ≡ false → before_first p (x ∷ xs) ≡ x ∷ before_first p xs
before_no p x xs fails = rw fails (one (position_or_len p xs))
  where
    one : (n : ℕ) → take (1 + n) (x ∷ xs) ≡ x ∷ take n xs
    one n = let e : 1 + n ≡ suc n = omega arith in rw e refl

after_no : (p : ℕ → Bool) (x : ℕ) (xs : List ℕ) → p x ≡ false → after_first p (x ∷ xs) ≡ after_first p xs
after_no p x xs fails = rw fails (one (position_or_len p xs))
  where
    one : (n : ℕ) → drop (1 + n + 1) (x ∷ xs) ≡ drop (n + 1) xs
    one n = let e : 1 + n + 1 ≡ suc (n + 1) = omega arith in rw e refl

before_all : (p : ℕ → Bool) (xs more : List ℕ) → none_of p xs ≡ true → before_first p (xs ++ more) ≡ xs ++ before_first p more
before_all p [] more none = refl
before_all p (x ∷ xs) more none =
    let parts = none_tail (p x) (none_of p xs) none in
    before_no p x (xs ++ more) parts.0 ∙ ap (λ ys. x ∷ ys) (before_all p xs more parts.1)

after_all : (p : ℕ → Bool) (xs more : List ℕ) → none_of p xs ≡ true → after_first p (xs ++ more) ≡ after_first p more
after_all p [] more none = refl
after_all p (x ∷ xs) more none =
    let parts = none_tail (p x) (none_of p xs) none in
    after_no p x (xs ++ more) parts.0 ∙ after_all p xs more parts.1

-- an escaped text ends where a quote stands
pub before_quote : (text rest : List ℕ) → before_first (λ b. b == 34) (escape text ++ 34 ∷ rest) ≡ escape text
before_quote text rest = before_all (λ b. b == 34) (escape text) (34 ∷ rest) (none_quote text) ∙ append-nil (escape text)

-- the query stands escaped where the text does
pub query_escaped : (text : List ℕ) → after_first (λ b. b == 63) (escape text) ≡ escape (after_first (λ b. b == 63) text)
query_escaped [] = refl
query_escaped (byte ∷ text) = ⊎_elim at_mark (other (query_escaped text)) (cases_eq byte 63)
  where
    at_mark : byte ≡ 63 → after_first (λ b. b == 63) (escape (byte ∷ text)) ≡ escape (after_first (λ b. b == 63) (byte ∷ text))
    at_mark e = subst (λ b. after_first (λ x. x == 63) (escape (b ∷ text)) ≡ escape (after_first (λ x. x == 63) (b ∷ text))) (sym e) refl

    other : after_first (λ b. b == 63) (escape text) ≡ escape (after_first (λ b. b == 63) text) → (byte ≡ 63 → ⊥) → after_first (λ b. b == 63) (escape (byte ∷ text)) ≡ escape (after_first (λ b. b == 63) (byte ∷ text))
    other behind apart =
        after_all (λ b. b == 63) (escape_byte byte) (escape text) (none_mark byte apart) ∙ behind
        ∙ ap escape (sym (after_no (λ b. b == 63) byte text (ne_eqb byte 63 apart)))

-- a mark or a quote that is no mark
pub other_byte : (byte : ℕ) → (byte == 63 || byte == 34) ≡ true → (byte ≡ 63 → ⊥) → byte ≡ 34
other_byte byte either other =
    ⊎_elim (λ is. is) (λ no. absurd (true≢false (sym either ∙ ap (λ b. b || byte == 34) (ne_eqb byte 63 other) ∙ ne_eqb byte 34 no))) (cases_eq byte 34)

-- the query of what stands before a quote
abbrev query_of : List ℕ → List ℕ
query_of text = after_first (λ b. b == 63) (before_first (λ b. b == 34) text)

query_step : (x : ℕ) (xs : List ℕ) → (x == 63 || x == 34) ≡ false → query_of (x ∷ xs) ≡ query_of xs
query_step x xs other =
    let both = or_parts (x == 63) (x == 34) other in
    ap (after_first (λ b. b == 63)) (before_no (λ b. b == 34) x xs both.1) ∙ after_no (λ b. b == 63) x (before_first (λ b. b == 34) xs) both.0

at_mark : (x : ℕ) (xs : List ℕ) → x ≡ 63 → before_first (λ b. b == 34) xs ≡ query_of (x ∷ xs)
at_mark x xs is = subst (λ b. before_first (λ y. y == 34) xs ≡ query_of (b ∷ xs)) (sym is) (ap (after_first (λ b. b == 63)) (sym (before_no (λ b. b == 34) 63 xs refl)))

at_quote : (x : ℕ) (xs : List ℕ) → x ≡ 34 → query_of (x ∷ xs) ≡ []
at_quote x xs is = subst (λ b. query_of (b ∷ xs) ≡ []) (sym is) refl

-- the first mark or quote is a mark
pub query_found : (text : List ℕ) (at : ℕ) → at < length text → ((k : ℕ) → k < at → (get_or text k 0 == 63 || get_or text k 0 == 34) ≡ false) → get_or text at 0 ≡ 63
    → before_first (λ b. b == 34) (drop (at + 1) text) ≡ query_of text
query_found [] at low before is = absurd (omega (arith, low))
query_found (x ∷ xs) zero low before is = at_mark x xs is
query_found (x ∷ xs) (suc at) low before is =
    let e : suc at + 1 ≡ suc (at + 1) = omega arith in
    rw e (query_found xs at (omega (arith, low)) (λ k below. before (suc k) (omega (arith, below))) is ∙ sym (query_step x xs (before 0 (omega arith))))

-- it is a quote
pub query_quoted : (text : List ℕ) (at : ℕ) → at < length text → ((k : ℕ) → k < at → (get_or text k 0 == 63 || get_or text k 0 == 34) ≡ false) → get_or text at 0 ≡ 34
    → query_of text ≡ []
query_quoted [] at low before is = absurd (omega (arith, low))
query_quoted (x ∷ xs) zero low before is = at_quote x xs is
query_quoted (x ∷ xs) (suc at) low before is =
    query_step x xs (before 0 (omega arith)) ∙ query_quoted xs at (omega (arith, low)) (λ k below. before (suc k) (omega (arith, below))) is

-- there is neither
pub query_none : (text : List ℕ) → ((k : ℕ) → k < length text → (get_or text k 0 == 63 || get_or text k 0 == 34) ≡ false) → query_of text ≡ []
query_none [] none = refl
query_none (x ∷ xs) none = query_step x xs (none 0 (omega arith)) ∙ query_none xs (λ k below. none (suc k) (omega (arith, below)))

ended_there : (text : List ℕ) → ends (drop (position_or_len (λ b. b == 34) text) text) ≡ true
ended_there [] = refl
ended_there (x ∷ xs) = by (x == 34) refl (ended_there xs)
  where
    one : (n : ℕ) → drop (1 + n) (x ∷ xs) ≡ drop n xs
    one n = let e : 1 + n ≡ suc n = omega arith in rw e refl

    by : (b : Bool) → (x == 34) ≡ b → ends (drop (position_or_len (λ y. y == 34) xs) xs) ≡ true → ends (drop (position_or_len (λ y. y == 34) (x ∷ xs)) (x ∷ xs)) ≡ true
    by true same behind = rw same same
    by false other behind = rw other (ap ends (one (position_or_len (λ y. y == 34) xs)) ∙ behind)

-- a target that ends at a quote
pub target_begins : (text target : List ℕ) → before_first (λ b. b == 34) text ≡ escape target → (tail : List ℕ) × Begins text target tail
target_begins text target is =
    let at = position_or_len (λ b. b == 34) text in (
      drop at text,
      record { is = sym (take-append-drop at text) ∙ ap (λ bytes. bytes ++ drop at text) is; ended = ended_there text },
    )
