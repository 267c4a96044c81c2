-- How options are spelled, and that clap reads them so.
use Rattle.std.proofs.Common.{◌≡◌, ◌∙◌, ◌<◌, ◌+◌, ◌==◌, ℕ, Bool, true, false, refl, sym, ap, ap₂, List, [], ◌∷◌, ◌++◌, length, take, drop, Option, Some, None, codes, true≢false, arith, eqb-true, ne_eqb, get_or, append_assoc, drop_at, length-append}
use Rattle.std.specs.List.{position_or_len, before_first, after_first}
use Rattle.std.specs.Str.{bytes_eq}
use Rattle.std.proofs.Math.Bool.{or-true}
use Rattle.std.proofs.lemmas.List.Folds.{list_any-append, list_any_none}
use Rattle.std.proofs.lemmas.List.Sums.{split_at_first, passes_at_first}
use Rattle.std.proofs.lemmas.Grind.{common_steps}
use Rattle.std.proofs.lemmas.Bool.{or_parts}
use Rattle.clap.specs.Lexer.{has_byte, long_of, short_of, name_and_value}
use Rattle.shop_words.specs.Options.{IsOptionName, IsPlain}

abbrev is_equals : ℕ → Bool
is_equals byte = byte == 61

-- an option's word, with its value or without
abbrev pub spelled : List ℕ → Option (List ℕ) → List ℕ
spelled name None = codes "--" ++ name
spelled name (Some value) = codes "--" ++ (name ++ (codes "=" ++ value))

-- ---- the first equals sign

place-behind : (name rest : List ℕ) → has_byte 61 name ≡ false → position_or_len is_equals (name ++ 61 ∷ rest) ≡ length name
place-behind [] rest none = refl
place-behind (x ∷ name) rest none =
    let parts = or_parts (x == 61) (has_byte 61 name) none in
    rw (parts.0, place-behind name rest parts.1) (omega arith)

place-none : (text : List ℕ) → has_byte 61 text ≡ false → position_or_len is_equals text ≡ length text
place-none [] none = refl
place-none (x ∷ text) none =
    let parts = or_parts (x == 61) (has_byte 61 text) none in
    rw (parts.0, place-none text parts.1) (omega arith)

place-some : (text : List ℕ) → has_byte 61 text ≡ true → position_or_len is_equals text < length text
place-some [] some = absurd (true≢false (sym some))
place-some (x ∷ text) some = go (place-some text) (x == 61) refl
  where
    go : (has_byte 61 text ≡ true → position_or_len is_equals text < length text) → (b : Bool) → (x == 61) ≡ b → position_or_len is_equals (x ∷ text) < length (x ∷ text)
    go rest true e = rw e (omega arith)
    go rest false e = let below = rest (rw e at some) in rw e (omega (arith, below))

apart-read : (text : List ℕ) → has_byte 61 text ≡ false → name_and_value text ≡ (text, None)
apart-read text none =
    let whole : take (length text) text ≡ text = grind (arith, common_steps) in
    rw (none, place-none text none, whole) refl

joined-read : (name value : List ℕ) → has_byte 61 name ≡ false → name_and_value (name ++ 61 ∷ value) ≡ (name, Some value)
joined-read name value none =
    let some : has_byte 61 (name ++ 61 ∷ value) ≡ true = list_any-append is_equals name (61 ∷ value) ∙ or-true (has_byte 61 name) in
    let front : take (length name) (name ++ 61 ∷ value) ≡ name = grind (arith, common_steps) in
    let back = ap (drop (length name + 1)) (sym (append_assoc name (61 ∷ []) value)) ∙ drop_at (name ++ 61 ∷ []) value (length name + 1) (length-append name (61 ∷ [])) in
    rw (some, place-behind name value none, front, back) refl

-- ---- words

no-equals : (name : List ℕ) → IsOptionName name → has_byte 61 name ≡ false
no-equals name is = list_any_none is_equals name (λ k d lt. ne_eqb _ _ (is.no_equals k d lt))

-- the word of an option is read as its name and its value
pub spelled-read : (name : List ℕ) (value : Option (List ℕ)) → IsOptionName name → long_of (spelled name value) ≡ Some (name, value)
spelled-read [] value is = absurd (omega (arith, is.some))
spelled-read (x ∷ name) None is = ap (λ p. Some p) (apart-read (x ∷ name) (no-equals (x ∷ name) is))
spelled-read (x ∷ name) (Some value) is = ap (λ p. Some p) (joined-read (x ∷ name) value (no-equals (x ∷ name) is))

-- it is not two hyphens alone
pub spelled-more : (name : List ℕ) (value : Option (List ℕ)) → IsOptionName name → bytes_eq (spelled name value) (45 ∷ 45 ∷ []) ≡ false
spelled-more [] value is = absurd (omega (arith, is.some))
spelled-more (x ∷ name) None is = refl
spelled-more (x ∷ name) (Some value) is = refl

read-text : (text name : List ℕ) (value : Option (List ℕ)) → name_and_value text ≡ (name, value) → codes "--" ++ text ≡ spelled name value
read-text text name value e = go (has_byte 61 text) refl
  where
    go : (b : Bool) → has_byte 61 text ≡ b → codes "--" ++ text ≡ spelled name value
    go false none = ap (λ (p : List ℕ × Option (List ℕ)). spelled p.0 p.1) (sym (apart-read text none) ∙ e)
    go true some =
        let place = place-some text some in
        let cut = split_at_first is_equals text 0 place in
        let equals : get_or text (position_or_len is_equals text) 0 ≡ 61 = eqb-true _ _ (passes_at_first is_equals text 0 place) in
        let read : name_and_value text ≡ (before_first is_equals text, Some (after_first is_equals text)) = rw some refl in
        ap (λ (rest : List ℕ). 45 ∷ 45 ∷ rest) (cut ∙ ap (λ c. before_first is_equals text ++ c ∷ after_first is_equals text) equals)
        ∙ ap (λ (p : List ℕ × Option (List ℕ)). spelled p.0 p.1) (sym read ∙ e)

nothing : {A : Type 0} (a : A) → None ≡ Some a → ⊥
nothing a e = cc

-- and a word that is read so is spelled so
pub read-spelled : (word name : List ℕ) (value : Option (List ℕ)) → long_of word ≡ Some (name, value) → word ≡ spelled name value
read-spelled [] name value e = cc
read-spelled (x ∷ rest) name value e = second rest first.0 first.1
  where
    first : ((x == 45) ≡ true) × (long_of (45 ∷ rest) ≡ Some (name, value))
    first = go (x == 45) refl
      where
        go : (b : Bool) → (x == 45) ≡ b → ((x == 45) ≡ true) × (long_of (45 ∷ rest) ≡ Some (name, value))
        go true h = (h, rw h at e)
        go false h = absurd (nothing (name, value) (rw h at e))

    second : (rest : List ℕ) → (x == 45) ≡ true → long_of (45 ∷ rest) ≡ Some (name, value) → x ∷ rest ≡ spelled name value
    second [] is e = cc
    second (y ∷ rest) is e = third rest (y == 45) refl e
      where
        third : (rest : List ℕ) (b : Bool) → (y == 45) ≡ b → long_of (45 ∷ y ∷ rest) ≡ Some (name, value) → x ∷ y ∷ rest ≡ spelled name value
        third rest false h e = absurd (nothing (name, value) (rw h at e))
        third [] true h e = absurd (nothing (name, value) (rw h at e))
        third (z ∷ rest) true h e =
            let read : Some (name_and_value (z ∷ rest)) ≡ Some (name, value) = rw h at e in
            ap₂ (λ a b. a ∷ b ∷ z ∷ rest) (eqb-true x 45 is) (eqb-true y 45 h) ∙ read-text (z ∷ rest) name value cc

-- a plain value is no option
pub plain-long : (value : List ℕ) → IsPlain value → long_of value ≡ None
plain-long [] plain = refl
plain-long (x ∷ value) plain = let no : (x == 45) ≡ false = ne_eqb x 45 plain.no_hyphen in rw no refl

pub plain-short : (value : List ℕ) → IsPlain value → short_of value ≡ None
plain-short [] plain = refl
plain-short (x ∷ value) plain = let no : (x == 45) ≡ false = ne_eqb x 45 plain.no_hyphen in rw no refl

pub plain-more : (value : List ℕ) → IsPlain value → bytes_eq value (45 ∷ 45 ∷ []) ≡ false
plain-more [] plain = refl
plain-more (x ∷ value) plain = let no : (x == 45) ≡ false = ne_eqb x 45 plain.no_hyphen in rw no refl
