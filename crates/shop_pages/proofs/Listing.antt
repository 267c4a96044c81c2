-- The parts of a list are read in turn, up to an end.
use Rattle.std.proofs.Common.{◌≡◌, ℕ, ◌≤◌, ◌<◌, nat_eq, true, false, List, [], ◌∷◌, ◌++◌, length, sym, ap, ◌∙◌, append_assoc, append-nil, true≢false, arith}
use Rattle.std.specs.List.{starts_with, flat_map}
use Rattle.shop_pages.specs.declared.reading.unread.Unread.{Unread}
use Rattle.shop_pages.specs.declared.reading.unread.Unread.TheVariants.{Memory}

-- these values were read; here the others stand, and the end
pub record IsWithin {A : Type 0} (shown : A → List ℕ) (end bytes : List ℕ) (read : List A) (here : List ℕ) : Type 0 where
  pub left : (xs : List A) (rest : List ℕ) → starts_with nat_eq rest end ≡ true → bytes ≡ flat_map shown xs ++ rest
      → (more : List A) × (xs ≡ read ++ more) × (here ≡ flat_map shown more ++ rest)
  pub within : length here ≤ length bytes

module _ {A : Type 0} (shown : A → List ℕ) (end bytes : List ℕ) where
  pub list_begun : (read : List A) → read ≡ [] → IsWithin shown end bytes read bytes
  list_begun read none = record { left = λ xs rest ends is. (xs, ap (λ (l : List A). l ++ xs) (sym none), is); within = omega arith }

  -- where the list ends, no end stands before it
  no_end : (here rest : List ℕ) → here ≡ rest → starts_with nat_eq rest end ≡ true → starts_with nat_eq here end ≡ false → ⊥
  no_end here rest is ends apart = true≢false (sym ends ∙ ap (λ l. starts_with nat_eq l end) (sym is) ∙ apart)

  taken : (read read' more xs : List A) (x : A) (here after rest : List ℕ) → starts_with nat_eq here end ≡ false → starts_with nat_eq rest end ≡ true
      → ((y : A) (others : List ℕ) → here ≡ shown y ++ others → (x ≡ y) × (after ≡ others)) → read' ≡ read ++ x ∷ []
      → xs ≡ read ++ more → here ≡ flat_map shown more ++ rest → (others : List A) × (xs ≡ read' ++ others) × (after ≡ flat_map shown others ++ rest)
  taken read read' [] xs x here after rest apart ends back added so_far is = absurd (no_end here rest is ends apart)
  taken read read' (y ∷ more) xs x here after rest apart ends back added so_far is =
      let both = back y (flat_map shown more ++ rest) (is ∙ append_assoc (shown y) (flat_map shown more) rest) in
      (more, so_far ∙ ap (λ z. read ++ z ∷ more) (sym both.0) ∙ sym (append_assoc read (x ∷ []) more) ∙ ap (λ l. l ++ more) (sym added), both.1)

  -- one more value was read
  pub part_taken : (read read' : List A) (x : A) (here after : List ℕ) → IsWithin shown end bytes read here → starts_with nat_eq here end ≡ false
      → ((y : A) (others : List ℕ) → here ≡ shown y ++ others → (x ≡ y) × (after ≡ others)) → length after < length here → read' ≡ read ++ x ∷ []
      → IsWithin shown end bytes read' after
  part_taken read read' x here after so_far apart back shorter added = record {
    left = λ xs rest ends is. let left = so_far.left xs rest ends is in taken read read' left.0 xs x here after rest apart ends back added left.1 left.2;
    within = omega (arith, so_far.within);
  }

  missed : (more : List A) (here rest : List ℕ) (unread : Unread) → starts_with nat_eq here end ≡ false → starts_with nat_eq rest end ≡ true
      → ((y : A) (others : List ℕ) → here ≡ shown y ++ others → unread ≡ Memory) → here ≡ flat_map shown more ++ rest → unread ≡ Memory
  missed [] here rest unread apart ends back is = absurd (no_end here rest is ends apart)
  missed (y ∷ more) here rest unread apart ends back is =
      back y (flat_map shown more ++ rest) (is ∙ append_assoc (shown y) (flat_map shown more) rest)

  -- a value that stands here was not read
  pub part_missed : (read : List A) (here : List ℕ) (unread : Unread) → IsWithin shown end bytes read here → starts_with nat_eq here end ≡ false
      → ((y : A) (others : List ℕ) → here ≡ shown y ++ others → unread ≡ Memory)
      → (xs : List A) (rest : List ℕ) → starts_with nat_eq rest end ≡ true → bytes ≡ flat_map shown xs ++ rest → unread ≡ Memory
  part_missed read here unread so_far apart back xs rest ends is =
      let left = so_far.left xs rest ends is in missed left.0 here rest unread apart ends back left.2

  ended : (read more xs : List A) (here rest : List ℕ) → ((y : A) (others : List ℕ) → starts_with nat_eq (shown y ++ others) end ≡ false) → starts_with nat_eq here end ≡ true
      → xs ≡ read ++ more → here ≡ flat_map shown more ++ rest → (read ≡ xs) × (here ≡ rest)
  ended read [] xs here rest apart ends so_far is = (sym (append-nil read) ∙ sym so_far, is)
  ended read (y ∷ more) xs here rest apart ends so_far is =
      absurd (no_end (shown y ++ (flat_map shown more ++ rest)) here (sym (is ∙ append_assoc (shown y) (flat_map shown more) rest)) ends (apart y (flat_map shown more ++ rest)))

  -- the end stands here, and each value was read
  pub list_ended : (read : List A) (here : List ℕ) → IsWithin shown end bytes read here → ((y : A) (others : List ℕ) → starts_with nat_eq (shown y ++ others) end ≡ false)
      → starts_with nat_eq here end ≡ true → (xs : List A) (rest : List ℕ) → starts_with nat_eq rest end ≡ true → bytes ≡ flat_map shown xs ++ rest → (read ≡ xs) × (here ≡ rest)
  list_ended read here so_far apart ends xs rest rest_ends is =
      let left = so_far.left xs rest rest_ends is in ended read left.0 xs here rest apart ends left.1 left.2
