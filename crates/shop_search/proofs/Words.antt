-- The words of a text, as it is walked byte by byte.
use Rattle.std.proofs.Common.{◌≡◌, ℕ, ◌+◌, ◌<◌, ◌≤◌, Bool, true, false, not, ◌==◌, List, [], ◌∷◌, ◌++◌, length, map, filter, drop, get_or, refl, ap, sym, suc, add-one, append_assoc}
use Rattle.std.proofs.Math.Seq.{drop-cons}
use Rattle.std.proofs.lemmas.List.{drop_all}
use Rattle.shop_text.specs.Fold.{lower}
use Rattle.shop_model.specs.lists.Catalogues.{runs_from, words}

-- the words among some runs, in small letters
abbrev pub low : List (List ℕ) → List (List ℕ)
low runs = map (map lower) (filter (λ r. not (length r == 0)) runs)

-- the words of the bytes that are left, where these bytes came before
abbrev pub low_words : List ℕ → List ℕ → List (List ℕ)
low_words run rest = low (runs_from run rest)

-- before the first byte
pub words_none : (title : List ℕ) (keys : List (List ℕ)) (run : List ℕ)
    → keys ≡ [] → run ≡ [] → keys ++ low_words run title ≡ map (map lower) (words title)
unfolding words
words_none title keys run none empty = rw (none, empty) refl

low_cons : (b : Bool) (run : List ℕ) (runs : List (List ℕ)) → not (length run == 0) ≡ b
    → low (run ∷ runs) ≡ low (run ∷ []) ++ low runs
low_cons true run runs is = rw is refl
low_cons false run runs is = rw is refl

-- behind a space
pub words_space : (title : List ℕ) (i : ℕ) (keys : List (List ℕ)) (run : List ℕ)
    → i < length title → get_or title i 0 ≡ 32
    → (keys ++ low (run ∷ [])) ++ low_words [] (drop (i + 1) title) ≡ keys ++ low_words run (drop i title)
words_space title i keys run within is =
    rw (add-one, drop-cons title i 0 within, is, append_assoc)
    (ap (λ zs. keys ++ zs) (sym (low_cons (not (length run == 0)) run (runs_from [] (drop (suc i) title)) refl)))

low_other : (byte : ℕ) (run rest : List ℕ) → (byte == 32) ≡ false → low_words run (byte ∷ rest) ≡ low_words (run ++ byte ∷ []) rest
low_other byte run rest other = rw other refl

-- behind another byte
pub words_other : (title : List ℕ) (i : ℕ) (run : List ℕ)
    → i < length title → (get_or title i 0 == 32) ≡ false
    → low_words (run ++ get_or title i 0 ∷ []) (drop (i + 1) title) ≡ low_words run (drop i title)
words_other title i run within other =
    rw (add-one, drop-cons title i 0 within) (sym (low_other (get_or title i 0) run (drop (suc i) title) other))

-- behind the last byte
pub words_all : (title : List ℕ) (i : ℕ) (run : List ℕ) → length title ≤ i → low_words run (drop i title) ≡ low (run ∷ [])
words_all title i run over = rw (drop_all i title over) refl
