-- Pairs that are joined are cut again at the same places.
use Rattle.std.proofs.Common.{◌≡◌, ◌≢◌, ℕ, ◌+◌, ◌<◌, ◌==◌, not, true, false, List, [], ◌∷◌, ◌++◌, map, take, drop, filter, length, refl, sym, ◌∙◌, ap, arith}
use Rattle.std.proofs.lemmas.Bool.{cond-true, cond-false, lt-ltb}
use Rattle.std.proofs.lemmas.Bool.Decides.{nat_tests}
use Rattle.std.proofs.lemmas.List.{append_assoc, append-nil, length-append, take_at, drop_at}
use Rattle.std.specs.List.{AllByRecursion, position_or_len}
use Rattle.std.specs.Str.Lossy.{utf8_lossy}
use Rattle.form_urlencoded.specs.Form.{split, split_pair, raw_pairs, onto_first, is_nonempty, serialize_pair, byte_serialize, decode}
use Rattle.shop_http.specs.Forms.{Pair, pairs}
use Rattle.shop_journal.specs.Pairs.{pairs_behind}
use Rattle.shop_journal.proofs.Bytes.{IsInside}
use Rattle.shop_journal.proofs.Texts.{IsText, text_again, text_inside}

-- pairs without a sign before the first
abbrev pub form_of : List Pair → List ℕ
form_of [] = []
form_of (pair ∷ others) = serialize_pair pair ++ pairs_behind 38 others

-- texts, each with a name that is one
abbrev pub AreTexts : Pair → Type 0
AreTexts pair = IsText pair.0 × IsText pair.1

abbrev HasNoAnd : List ℕ → Type 0
HasNoAnd xs = AllByRecursion (λ (x : ℕ). x ≢ 38) xs

other : (x y : ℕ) → x ≢ y → (x == y) ≡ false
other x y differs = grind (arith, nat_tests)

split_more : (xs rest : List ℕ) → HasNoAnd xs → split 38 (xs ++ 38 ∷ rest) ≡ xs ∷ split 38 rest
unfolding split
split_more [] rest each = refl
split_more (x ∷ xs) rest each = cond-false _ _ _ (other x 38 each.0) ∙ ap (onto_first x) (split_more xs rest each.1)

split_last : (xs : List ℕ) → HasNoAnd xs → split 38 xs ≡ xs ∷ []
unfolding split
split_last [] each = refl
split_last (x ∷ xs) each = cond-false _ _ _ (other x 38 each.0) ∙ ap (onto_first x) (split_last xs each.1)

no_and : (xs : List ℕ) → AllByRecursion IsInside xs → HasNoAnd xs
no_and [] each = tt
no_and (x ∷ xs) each = (each.0.no_and, no_and xs each.1)

and_append : (xs ys : List ℕ) → HasNoAnd xs → HasNoAnd ys → HasNoAnd (xs ++ ys)
and_append [] ys each others = others
and_append (x ∷ xs) ys each others = (each.0, and_append xs ys each.1 others)

piece : (pair : Pair) → HasNoAnd (serialize_pair pair)
piece pair = and_append (byte_serialize pair.0 ++ 61 ∷ []) (byte_serialize pair.1) (and_append (byte_serialize pair.0) (61 ∷ []) (no_and _ (text_inside pair.0)) (omega arith, tt)) (no_and _ (text_inside pair.1))

equals_at : (xs rest : List ℕ) → AllByRecursion IsInside xs → position_or_len (λ b. b == 61) (xs ++ 61 ∷ rest) ≡ length xs
equals_at [] rest each = refl
equals_at (x ∷ xs) rest each =
    let step : 1 + length xs ≡ length (x ∷ xs) = omega arith in
    cond-true (not (x == 61)) (1 + position_or_len (λ b. b == 61) (xs ++ 61 ∷ rest)) 0 (ap not (other x 61 each.0.no_is)) ∙ ap (λ (n : ℕ). 1 + n) (equals_at xs rest each.1) ∙ step

-- a pair that is written, as a name, the sign, and a value
spelled : (pair : Pair) → serialize_pair pair ≡ byte_serialize pair.0 ++ 61 ∷ byte_serialize pair.1
spelled pair = append_assoc (byte_serialize pair.0) (61 ∷ []) (byte_serialize pair.1)

cut_at : (name value : List ℕ) (place : ℕ) → place ≡ length name → (take place (name ++ 61 ∷ value) ≡ name) × (drop (place + 1) (name ++ 61 ∷ value) ≡ value)
cut_at name value place is =
    let front : take place (name ++ 61 ∷ value) ≡ name = take_at name (61 ∷ value) place (sym is) in
    let back : drop (place + 1) (name ++ 61 ∷ value) ≡ value =
    ap (λ (l : List ℕ). drop (place + 1) l) (sym (append_assoc name (61 ∷ []) value)) ∙ drop_at (name ++ 61 ∷ []) value (place + 1) (omega (arith, length-append name (61 ∷ []), is)) in
    (front, back)

abbrev encoded : Pair → Pair
encoded pair = (byte_serialize pair.0, byte_serialize pair.1)

pair_cut : (pair : Pair) → split_pair (serialize_pair pair) ≡ encoded pair
pair_cut pair =
    let parts = cut_at (byte_serialize pair.0) (byte_serialize pair.1) (position_or_len (λ b. b == 61) (byte_serialize pair.0 ++ 61 ∷ byte_serialize pair.1)) (equals_at (byte_serialize pair.0) (byte_serialize pair.1) (text_inside pair.0)) in
    ap split_pair (spelled pair) ∙ (λ i. (parts.0 i, parts.1 i))

pieces : (pair : Pair) (others : List Pair) → split 38 (serialize_pair pair ++ pairs_behind 38 others) ≡ map serialize_pair (pair ∷ others)
pieces pair [] = ap (split 38) (append-nil (serialize_pair pair)) ∙ split_last (serialize_pair pair) (piece pair)
pieces pair (q ∷ others) = split_more (serialize_pair pair) (serialize_pair q ++ pairs_behind 38 others) (piece pair) ∙ ap (λ (l : List (List ℕ)). serialize_pair pair ∷ l) (pieces q others)

nonempty : (pair : Pair) → is_nonempty (serialize_pair pair) ≡ true
nonempty pair =
    let some : 0 < length (serialize_pair pair) = omega (arith, ap length (spelled pair), length-append (byte_serialize pair.0) (61 ∷ byte_serialize pair.1)) in
    lt-ltb 0 (length (serialize_pair pair)) some

all_stay : (texts : List Pair) → filter is_nonempty (map serialize_pair texts) ≡ map serialize_pair texts
all_stay [] = refl
all_stay (pair ∷ texts) = cond-true _ _ _ (nonempty pair) ∙ ap (λ (l : List (List ℕ)). serialize_pair pair ∷ l) (all_stay texts)

-- as messages are read
abbrev read : List (List ℕ) → List Pair
read sequences = map (λ (pair : Pair). (utf8_lossy pair.0, utf8_lossy pair.1)) (map (λ (pair : Pair). (decode pair.0, decode pair.1)) (map split_pair sequences))

abbrev decoded : Pair → Pair
decoded pair = (utf8_lossy (decode pair.0), utf8_lossy (decode pair.1))

read_all : (texts : List Pair) → AllByRecursion AreTexts texts → read (map serialize_pair texts) ≡ texts
read_all [] each = refl
read_all (pair ∷ texts) each =
    let cut = pair_cut pair in
    let first : decoded (split_pair (serialize_pair pair)) ≡ pair = ap decoded cut ∙ (λ i. (text_again pair.0 each.0.0 i, text_again pair.1 each.0.1 i)) in
    λ i. first i ∷ read_all texts each.1 i

pub pairs_again : (texts : List Pair) → AllByRecursion AreTexts texts → pairs (form_of texts) ≡ texts
unfolding raw_pairs split
pairs_again [] each = refl
pairs_again (pair ∷ texts) each =
    ap (λ (l : List (List ℕ)). read (filter is_nonempty l)) (pieces pair texts) ∙ ap read (all_stay (pair ∷ texts)) ∙ read_all (pair ∷ texts) each
