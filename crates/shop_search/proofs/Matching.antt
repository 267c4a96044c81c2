-- An item matches a text where the key of the text is among its keys.
use Rattle.std.proofs.Common.{◌≡◌, ℕ, zero, suc, ◌+◌, ◌<◌, ◌≤◌, Bool, true, false, ◌&&◌, ◌||◌, nat_eq, List, [], ◌∷◌, ◌++◌, length, map, take, get_or, refl, ap, sym, ◌∙◌, arith, bytes_eq}
use Rattle.std.specs.List.{list_any}
use Rattle.std.proofs.lemmas.List.{take_more, take_all, length-map, get_or-map}
use Rattle.std.proofs.Math.Bool.{or-false}
use Rattle.shop_text.specs.Fold.{lower, fold_eq, fold_begins}
use Rattle.shop_model.specs.declared.requests.SearchKind.{SearchKind}
use Rattle.shop_model.specs.declared.requests.SearchKind.TheVariants as kind
use Rattle.shop_model.specs.lists.Catalogues.{Catalogue, Naming, matches, words, last_name, compared}
use Rattle.shop_model.specs.rows.Subjects.{subject_name}
use Rattle.shop_search.specs.Keys.{fronts, keys_of, is_among}

any_lower : (text : List ℕ) (ws : List (List ℕ))
    → list_any (λ word. fold_eq word text) ws ≡ is_among (map lower text) (map (map lower) ws)
any_lower text [] = refl
any_lower text (w ∷ ws) = rw (any_lower text ws) refl

either : (p q r : Bool) → ((p && q) || (p && r)) ≡ (p && (q || r))
either true q r = refl
either false q r = refl

and_false : (p : Bool) → false ≡ (p && false)
and_false true = refl
and_false false = refl

any_behind : (x : ℕ) (xs : List ℕ) (b : ℕ) (keys : List (List ℕ))
    → is_among (x ∷ xs) (map (λ front. b ∷ front) keys) ≡ (nat_eq b x && is_among xs keys)
any_behind x xs b [] = and_false (nat_eq b x)
any_behind x xs b (k ∷ ks) = rw (any_behind x xs b ks) (either (nat_eq b x) (bytes_eq k xs) (is_among xs ks))

any_fronts : (text key : List ℕ) → bytes_eq (take (length key) text) key ≡ is_among key (fronts text)
unfolding fronts
any_fronts [] [] = refl
any_fronts [] (x ∷ xs) = refl
any_fronts (b ∷ bs) [] = refl
any_fronts (b ∷ bs) (x ∷ xs) = rw (any_behind x xs b (fronts bs), ← any_fronts bs xs) refl

map_take : (n : ℕ) (xs : List ℕ) → map lower (take n xs) ≡ take n (map lower xs)
map_take zero xs = refl
map_take (suc n) [] = refl
map_take (suc n) (x ∷ xs) = ap (λ ys. lower x ∷ ys) (map_take n xs)

begins : (name text : List ℕ) → fold_begins name text ≡ is_among (map lower text) (fronts (map lower name))
begins name text =
    rw (map_take (length text) name, ← any_fronts (map lower name) (map lower text), length-map) refl

-- the searches by keys are those of the definition
pub matches_key : (c : Catalogue) (kind : SearchKind) (text : List ℕ) (item : Naming)
    → matches c kind text item ≡ is_among (compared kind text) (keys_of c.authors kind item)
matches_key c kind.Title text item = any_lower text (words item.title)
matches_key c kind.Author text item = begins (last_name c item) text
matches_key c kind.Subject text item = sym (or-false (bytes_eq (subject_name item.subject) text))

-- the fronts are as many as the places of a text
fronts_many : (text : List ℕ) → length (fronts text) ≡ length text + 1
unfolding fronts
fronts_many [] = refl
fronts_many (b ∷ bs) = let more = fronts_many bs in rw length-map (omega (arith, more))

front_at : (text : List ℕ) (n : ℕ) → n ≤ length text → get_or (fronts text) n [] ≡ take n text
unfolding fronts
front_at [] zero within = refl
front_at [] (suc n) within = refl
front_at (b ∷ bs) zero within = refl
front_at (b ∷ bs) (suc n) within =
    let many = fronts_many bs in
    get_or-map (λ front. b ∷ front) (fronts bs) n [] [] (omega (arith, many))
    ∙ ap (λ front. b ∷ front) (front_at bs n (omega arith))

-- one front more
pub fronts_more : (text : List ℕ) (n : ℕ) → n ≤ length text → take (n + 1) (fronts text) ≡ take n (fronts text) ++ take n text ∷ []
fronts_more text n within =
    let many = fronts_many text in
    let lt : n < length (fronts text) = omega (arith, many) in
    rw (← front_at text n within) (take_more (fronts text) n [] lt)

fronts_all : (text : List ℕ) (n : ℕ) → n ≡ length text → take n (fronts text) ++ text ∷ [] ≡ fronts text
fronts_all text n all =
    let many = fronts_many text in
    let whole : take n text ≡ text = take_all n text (omega arith) in
    let more : take n (fronts text) ++ text ∷ [] ≡ take (n + 1) (fronts text) = rw (fronts_more text n (omega arith), whole) refl in
    more ∙ take_all (n + 1) (fronts text) (omega (arith, many))

-- with the text itself
pub fronts_last : (text whole last : List ℕ) (n : ℕ) (keys now : List (List ℕ)) → n ≡ length text → text ≡ whole → last ≡ whole
    → keys ≡ take n (fronts text) → now ≡ keys ++ last ∷ [] → now ≡ fronts whole
fronts_last text whole last n keys now all same end before is =
    is ∙ ap (λ ks. ks ++ last ∷ []) before ∙ ap (λ t. take n (fronts text) ++ t ∷ []) (end ∙ sym same) ∙ fronts_all text n all ∙ ap fronts same
