-- A query that stands escaped before a tail is read, pair by pair.
use Rattle.std.proofs.Common.{◌≡◌, ℕ, ◌==◌, Bool, true, false, List, [], ◌∷◌, ◌++◌, Option, Some, None, refl, sym, ap, ◌∙◌, append_assoc, append-nil}
use Rattle.std.specs.Prelude.{if◌then◌else◌}
use Rattle.std.proofs.lemmas.Bool.{ne_eqb, false≢true}
use Rattle.std.proofs.lemmas.List.Splits.{slice_split_none, slice_split_at}
use Rattle.shop_text.specs.Escape.{escape, escape_byte, first_read}
use Rattle.shop_text.proofs.cited.Escaped.{escape_plain, byte_cases, escaped_read}
use Rattle.shop_browsers.specs.Scanned.{Begins, IsLeft, IsNextPair, ends, first_pair, split}
use Rattle.shop_browsers.proofs.Escaped.{none_of, none_all}

byte_in : Option (ℕ × List ℕ) → ℕ
byte_in None = 0
byte_in (Some both) = both.0

rest_in : Option (ℕ × List ℕ) → List ℕ
rest_in None = []
rest_in (Some both) = both.1

none_some : (x : ℕ × List ℕ) → ◌≡◌ {A = Option (ℕ × List ℕ)} None (Some x) → ⊥
none_some x e = cc

-- no target ends where a byte of it stands
no_end : (byte : ℕ) (bytes tail : List ℕ) → ends ((escape_byte byte ++ bytes) ++ tail) ≡ false
no_end byte bytes tail =
    byte_cases (λ b. ends ((escape_byte b ++ bytes) ++ tail) ≡ false) refl refl refl refl
    (λ b plain. ap (λ front. ends ((front ++ bytes) ++ tail)) (escape_plain b plain) ∙ ne_eqb b 34 plain.quote) byte

-- a byte of a target is read
target_read : (byte : ℕ) (others tail rest : List ℕ) → rest ≡ escape (byte ∷ others) ++ tail → first_read rest ≡ Some (byte, escape others ++ tail)
target_read byte others tail rest is =
    ap first_read (is ∙ append_assoc (escape_byte byte) (escape others) tail) ∙ escaped_read byte (escape others ++ tail)

-- it is the one that was read
read_is : (x byte : ℕ) (others tail rest after : List ℕ) → rest ≡ escape (x ∷ others) ++ tail → first_read rest ≡ Some (byte, after)
    → (x ≡ byte) × (after ≡ escape others ++ tail)
unfolding byte_in rest_in
read_is x byte others tail rest after is read =
    let both : ◌≡◌ {A = Option (ℕ × List ℕ)} (Some (x, escape others ++ tail)) (Some (byte, after)) = sym (target_read x others tail rest is) ∙ read in
    (ap byte_in both, sym (ap rest_in both))

-- nothing of the query was read
pub all_left : (query tail left : List ℕ) → Begins left query tail → IsLeft query tail left
all_left query tail left begins = record { passed = []; others = query; pair = refl; all = refl; begins = begins }

pair_longer : (byte : ℕ) (others : List ℕ) → (byte == 38) ≡ false → first_pair (byte ∷ others) ≡ byte ∷ first_pair others
pair_longer byte others other = rw other refl

one_more : (query tail rest after passed : List ℕ) (byte : ℕ) (others : List ℕ) → first_pair query ≡ passed ++ first_pair others → query ≡ passed ++ others
    → rest ≡ escape others ++ tail → ends tail ≡ true → first_read rest ≡ Some (byte, after) → ends rest ≡ false → (byte == 38) ≡ false → IsLeft query tail after
one_more query tail rest after passed byte [] pair all is ended read goes other = absurd (false≢true (sym goes ∙ ap ends is ∙ ended))
one_more query tail rest after passed byte (x ∷ others) pair all is ended read goes other =
    let both = read_is x byte others tail rest after is read in
    let differs : (x == 38) ≡ false = ap (λ b. b == 38) both.0 ∙ other in
    record {
      passed = passed ++ x ∷ [];
      others = others;
      pair = pair ∙ ap (λ bytes. passed ++ bytes) (pair_longer x others differs) ∙ sym (append_assoc passed (x ∷ []) (first_pair others));
      all = all ∙ sym (append_assoc passed (x ∷ []) others);
      begins = record { is = both.1; ended = ended };
    }

-- a byte that is no `&` was read
pub left_more : (query tail rest after : List ℕ) (byte : ℕ) → IsLeft query tail rest → first_read rest ≡ Some (byte, after) → ends rest ≡ false → (byte == 38) ≡ false
    → IsLeft query tail after
left_more query tail rest after byte left read goes other =
    one_more query tail rest after left.passed byte left.others left.pair left.all left.begins.is left.begins.ended read goes other

-- a first pair has no `&`
none_first : (query : List ℕ) → none_of (λ b. b == 38) (first_pair query) ≡ true
none_first [] = refl
none_first (byte ∷ query) = by (byte == 38) refl (none_first query)
  where
    by : (b : Bool) → (byte == 38) ≡ b → none_of (λ x. x == 38) (first_pair query) ≡ true → none_of (λ x. x == 38) (if b then [] else byte ∷ first_pair query) ≡ true
    by true same none = refl
    by false other none = rw other none

split_first : (query others : List ℕ) → query ≡ first_pair query ++ 38 ∷ others → split query ≡ first_pair query ∷ split others
split_first query others is =
    ap split is ∙ slice_split_at (λ b. b == 38) (first_pair query) 38 others (none_all (λ b. b == 38) (first_pair query) (none_first query)) refl

split_last : (query : List ℕ) → query ≡ first_pair query → split query ≡ first_pair query ∷ []
split_last query is = ap split is ∙ slice_split_none (λ b. b == 38) (first_pair query) (none_all (λ b. b == 38) (first_pair query) (none_first query))

pair_found : (query tail rest after passed others : List ℕ) → first_pair query ≡ passed ++ first_pair others → query ≡ passed ++ others
    → rest ≡ escape others ++ tail → ends tail ≡ true → first_read rest ≡ Some (38, after) → ends rest ≡ false → IsNextPair query tail (Some after)
pair_found query tail rest after passed [] pair all is ended read goes = absurd (false≢true (sym goes ∙ ap ends is ∙ ended))
pair_found query tail rest after passed (x ∷ others) pair all is ended read goes =
    let both = read_is x 38 others tail rest after is read in
    let whole : first_pair query ≡ passed = pair ∙ ap (λ b. passed ++ first_pair (b ∷ others)) both.0 ∙ append-nil passed in (
      others,
      record { is = both.1; ended = ended },
      split_first query others (all ∙ ap (λ b. passed ++ b ∷ others) both.0 ∙ ap (λ bytes. bytes ++ 38 ∷ others) (sym whole)),
    )

-- the sign between two pairs was read
pub next_found : (query tail rest after : List ℕ) → IsLeft query tail rest → first_read rest ≡ Some (38, after) → ends rest ≡ false → IsNextPair query tail (Some after)
next_found query tail rest after left read goes =
    pair_found query tail rest after left.passed left.others left.pair left.all left.begins.is left.begins.ended read goes

last_found : (query tail rest passed others : List ℕ) → first_pair query ≡ passed ++ first_pair others → query ≡ passed ++ others
    → rest ≡ escape others ++ tail → ends rest ≡ true → IsNextPair query tail None
last_found query tail rest passed [] pair all is over = split_last query (all ∙ sym pair)
last_found query tail rest passed (x ∷ others) pair all is over = absurd (false≢true (sym (no_end x (escape others) tail) ∙ ap ends (sym is) ∙ over))

-- the target ends
pub next_none : (query tail rest : List ℕ) → IsLeft query tail rest → ends rest ≡ true → IsNextPair query tail None
next_none query tail rest left over = last_found query tail rest left.passed left.others left.pair left.all left.begins.is over

-- what is left is read, since it is escaped
unread : (tail rest others : List ℕ) → rest ≡ escape others ++ tail → ends tail ≡ true → ends rest ≡ false → first_read rest ≡ None → ⊥
unread tail rest [] is ended goes none = false≢true (sym goes ∙ ap ends is ∙ ended)
unread tail rest (x ∷ others) is ended goes none = none_some (x, escape others ++ tail) (sym none ∙ target_read x others tail rest is)

pub next_unread : (query tail rest : List ℕ) → IsLeft query tail rest → ends rest ≡ false → first_read rest ≡ None → IsNextPair query tail None
next_unread query tail rest left goes none = absurd (unread tail rest left.others left.begins.is left.begins.ended goes none)
