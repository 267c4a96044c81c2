-- The names of scales, and that they are plain.
use Rattle.std.proofs.Common.{◌≡◌, ◌∙◌, ◌<◌, ◌≤◌, ◌⊎◌, ◌↔◌, ◌||◌, ◌==◌, ℕ, Bool, true, false, refl, sym, ap, subst, inl, inr, List, [], ◌∷◌, ◌++◌, ◌+◌, length, Option, Some, None, IsSome, IfSome, codes, true≢false, arith, le-leb, leb-true, eqb-true, eq-eqb, ltb-true, get_or, drop_of_length-le, length-drop}
use Rattle.std.specs.Prelude.{nat_le, nat_lt, slice_index}
use Rattle.std.specs.List.{before_first, after_first, position_or_len}
use Rattle.std.specs.Str.{bytes_eq, IsAscii, IsUtf8}
use Rattle.std.proofs.Math.Bool.{or-true}
use Rattle.std.proofs.lemmas.List.Sums.{AllPass-from_list_all, split_at_first, passes_at_first}
use Rattle.std.proofs.lemmas.Str.{IsUtf8-append, IsUtf8-from_ascii}
use Rattle.std.proofs.lemmas.Str.Ascii.{IsAscii-from_all}
use Rattle.shop_model.specs.population.Scales.{ScaleRow, desk, larger}
use Rattle.shop_words.specs.Options.{IsPlain}
use Rattle.shop_words.proofs.Numbers.{number-digits, number-plain}
use Rattle.shop_words.proofs.Readings.{utf8-more}
use Rattle.shop_words.proofs.Rules.{same-text}
use Rattle.shop_text.specs.Numbers.{number_of}
use Rattle.shop_words.specs.Values.{is_x, larger_of, larger_of_both, scale_of}

-- one of the larger scales
abbrev IsSize : ℕ → ℕ → Type 0
IsSize items ebs = ((items ≡ 1000) ⊎ (items ≡ 10_000)) × (1 ≤ ebs) × (ebs ≤ 10)

known-size : (items : ℕ) → (items ≡ 1000) ⊎ (items ≡ 10_000) → (items == 1000 || items == 10_000) ≡ true
known-size items (inl e) = rw (eq-eqb items 1000 e) refl
known-size items (inr e) = rw (eq-eqb items 10_000 e) (or-true (items == 1000))

size-known : (items : ℕ) → (items == 1000 || items == 10_000) ≡ true → (items ≡ 1000) ⊎ (items ≡ 10_000)
size-known items e = go (items == 1000) refl
  where
    go : (b : Bool) → (items == 1000) ≡ b → (items ≡ 1000) ⊎ (items ≡ 10_000)
    go true h = inl (eqb-true items 1000 h)
    go false h = inr (eqb-true items 10_000 (rw h at e))

pub larger-is : (items ebs : ℕ) (r : Option ScaleRow) → (IsSome r ↔ IsSize items ebs) → IfSome r (λ scale. scale ≡ larger items ebs) → r ≡ larger_of items ebs
unfolding larger_of
larger-is items ebs (Some scale) some is =
    let size = some.0 refl in
    let known = known-size items size.0 in
    let low = le-leb 1 ebs size.1 in
    let high = le-leb ebs 10 size.2 in
    rw (known, low, high) (ap (λ s. Some s) is)
larger-is items ebs None some is = go (items == 1000 || items == 10_000) (nat_le 1 ebs) (nat_le ebs 10) refl refl refl
  where
    go : (size low high : Bool) → (items == 1000 || items == 10_000) ≡ size → nat_le 1 ebs ≡ low → nat_le ebs 10 ≡ high → None ≡ larger_of items ebs
    go true true true s l h = absurd (true≢false (sym (some.1 (size-known items s, leb-true 1 ebs l, leb-true ebs 10 h))))
    go true true false s l h = rw (s, l, h) refl
    go true false high s l h = rw (s, l) refl
    go false low high s l h = rw s refl

pub desk-named : (text : List ℕ) (scale : ScaleRow) → bytes_eq text (codes "desk") ≡ true → scale ≡ desk → Some scale ≡ scale_of text
unfolding scale_of
desk-named text scale same is = rw same (ap (λ s. Some s) is)

pub larger-named : (text : List ℕ) (r : Option ScaleRow) → bytes_eq text (codes "desk") ≡ false
    → r ≡ larger_of_both (number_of (before_first is_x text)) (number_of (after_first is_x text)) → r ≡ scale_of text
unfolding scale_of
larger-named text r other is = rw other is

-- ---- what is no scale

no-number : number_of [] ≡ None
unfolding number_of
no-number = refl

no-second : (first : Option ℕ) → larger_of_both first None ≡ None
no-second (Some items) = refl
no-second None = refl

-- a text without an `x` has nothing behind it
none-behind : (text : List ℕ) → length text ≤ position_or_len is_x text → after_first is_x text ≡ []
none-behind text none = drop_of_length-le text (omega (arith, none))

pub one-named : (text : List ℕ) → bytes_eq text (codes "desk") ≡ false → position_or_len is_x text ≡ length text → None ≡ scale_of text
one-named text other none =
    let empty = none-behind text (omega (arith, none)) in
    larger-named text None other (sym (ap (λ (behind : List ℕ). larger_of_both (number_of (before_first is_x text)) (number_of behind)) empty
    ∙ ap (larger_of_both (number_of (before_first is_x text))) no-number ∙ no-second (number_of (before_first is_x text))))

-- ---- plain

front-kept : (front back : List ℕ) → 0 < length front → slice_index (front ++ back) 0 ≡ slice_index front 0
front-kept [] back some = absurd (omega (arith, some))
front-kept (c ∷ front) back some = refl

both-some : (first second : Option ℕ) (scale : ScaleRow) → larger_of_both first second ≡ Some scale → (items : ℕ) × (ebs : ℕ) × (first ≡ Some items) × (second ≡ Some ebs)
both-some (Some items) (Some ebs) scale is = (items, ebs, refl, refl)
both-some (Some items) None scale is = cc
both-some None (Some ebs) scale is = cc
both-some None None scale is = cc

larger-plain : (text : List ℕ) (scale : ScaleRow) → larger_of_both (number_of (before_first is_x text)) (number_of (after_first is_x text)) ≡ Some scale → IsPlain text
larger-plain text scale is =
    let parts = both-some (number_of (before_first is_x text)) (number_of (after_first is_x text)) scale is in
    let items = number-plain (before_first is_x text) parts.0 parts.2 in
    let ebs = number-plain (after_first is_x text) parts.1 parts.3 in
    let some = (number-digits (before_first is_x text) parts.0 parts.2).0 in
    let behind = (number-digits (after_first is_x text) parts.1 parts.3).0 in
    let place = place-below text behind in
    let cut = split_at_first is_x text 0 place in
    let rest = get_or text (position_or_len is_x text) 0 ∷ after_first is_x text in
    let low : get_or text (position_or_len is_x text) 0 < 128 = let at = eqb-true _ _ (passes_at_first is_x text 0 place) in omega (arith, at) in
    record {
      utf8 = subst IsUtf8 (sym cut) (IsUtf8-append (before_first is_x text) rest items.utf8 (utf8-more _ (after_first is_x text) low ebs.utf8));
      no_hyphen = λ e. items.no_hyphen (sym (front-kept (before_first is_x text) rest some) ∙ ap (λ (t : List ℕ). slice_index t 0) (sym cut) ∙ e);
    }
  where
    place-below : (text : List ℕ) → 0 < length (after_first is_x text) → position_or_len is_x text < length text
    place-below text some = let long = length-drop (position_or_len is_x text + 1) text in omega (arith, some, long)

desk-plain : IsPlain (codes "desk")
desk-plain = record { utf8 = IsUtf8-from_ascii (codes "desk") low; no_hyphen = λ e. omega (arith, e) }
  where
    low : IsAscii (codes "desk")
    low = IsAscii-from_all (codes "desk") (λ k d lt. ltb-true _ _ (AllPass-from_list_all (λ b. nat_lt b 128) (codes "desk") refl k d lt))

-- the name of a scale is plain
pub scale-plain : (text : List ℕ) (scale : ScaleRow) → scale_of text ≡ Some scale → IsPlain text
unfolding scale_of
scale-plain text scale is = go (bytes_eq text (codes "desk")) refl
  where
    go : (b : Bool) → bytes_eq text (codes "desk") ≡ b → IsPlain text
    go true e = subst IsPlain (sym (same-text text (codes "desk") e)) desk-plain
    go false e = larger-plain text scale (rw e at is)
