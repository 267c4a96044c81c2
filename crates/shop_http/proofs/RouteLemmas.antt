-- A router of paths without parameters finds a path exactly at its own bytes.
use Rattle.std.proofs.Common.{◌≡◌, ℕ, zero, suc, ◌-◌, ◌==◌, Bool, true, false, ◌&&◌, cond, List, [], ◌∷◌, length, Option, Some, None, refl, sym, ap, ◌∙◌, true≢false}
use Rattle.matchit.specs.Rows.{RowsOf, param_token, catch_all_token}
use Rattle.matchit.specs.Order.{lookup}
use Rattle.matchit.specs.Seek.{own, step, or_else, param_step, seek, first, has_slash, same_text}

-- the pattern has no parameter
abbrev pub is_literal : List ℕ → Bool
is_literal [] = true
is_literal (x ∷ t) = cond (x == param_token) false (cond (x == catch_all_token) false (is_literal t))

split : (a : Bool) (b : Bool) → cond a b false ≡ true → (a ≡ true) × (b ≡ true)
split true b h = (refl, h)
split false b h = absurd (true≢false (sym h))

head_is : (x : ℕ) (t : List ℕ) → is_literal (x ∷ t) ≡ true → ((x == param_token) ≡ false) × ((x == catch_all_token) ≡ false) × (is_literal t ≡ true)
head_is x t h = go (x == param_token) (x == catch_all_token) h
  where
    go : (a b : Bool) → cond a false (cond b false (is_literal t)) ≡ true → (a ≡ false) × (b ≡ false) × (is_literal t ≡ true)
    go true b h = absurd (true≢false (sym h))
    go false true h = absurd (true≢false (sym h))
    go false false h = (refl, refl, h)

module _ {K : Type 0} where
  abbrev pub all_literal : RowsOf K → Bool
  all_literal [] = true
  all_literal ((t, k) ∷ rest) = cond (is_literal t) (all_literal rest) false

  no_param : (rs : RowsOf K) → all_literal rs ≡ true → step param_token rs ≡ []
  no_param [] h = refl
  no_param (([], k) ∷ rest) h = no_param rest h
  no_param ((x ∷ t, k) ∷ rest) h =
      let s = split (is_literal (x ∷ t)) (all_literal rest) h in
      ap (λ b. cond b ((t, k) ∷ step param_token rest) (step param_token rest)) (head_is x t s.0).0 ∙ no_param rest s.1

  no_catch_all : (rs : RowsOf K) → all_literal rs ≡ true → step catch_all_token rs ≡ []
  no_catch_all [] h = refl
  no_catch_all (([], k) ∷ rest) h = no_catch_all rest h
  no_catch_all ((x ∷ t, k) ∷ rest) h =
      let s = split (is_literal (x ∷ t)) (all_literal rest) h in
      ap (λ b. cond b ((t, k) ∷ step catch_all_token rest) (step catch_all_token rest)) (head_is x t s.0).1 ∙ no_catch_all rest s.1

  kept : (b : ℕ) (rs : RowsOf K) → all_literal rs ≡ true → all_literal (step b rs) ≡ true
  kept b [] h = refl
  kept b (([], k) ∷ rest) h = kept b rest h
  kept b ((x ∷ t, k) ∷ rest) h =
      let s = split (is_literal (x ∷ t)) (all_literal rest) h in
      go (x == b) (head_is x t s.0).2 (kept b rest s.1)
    where
      go : (c : Bool) → is_literal t ≡ true → all_literal (step b rest) ≡ true → all_literal (cond c ((t, k) ∷ step b rest) (step b rest)) ≡ true
      go true lit more = ap (λ a. cond a (all_literal (step b rest)) false) lit ∙ more
      go false lit more = more

  own_is : (rs : RowsOf K) → own rs ≡ lookup [] rs
  own_is [] = refl
  own_is (([], k) ∷ rest) = refl
  own_is ((x ∷ t, k) ∷ rest) = own_is rest

  step_is : (b : ℕ) (path : List ℕ) (rs : RowsOf K) → lookup path (step b rs) ≡ lookup (b ∷ path) rs
  step_is b path [] = refl
  step_is b path (([], k) ∷ rest) = step_is b path rest
  step_is b path ((x ∷ t, k) ∷ rest) = go (x == b) (step_is b path rest)
    where
      go : (c : Bool) → lookup path (step b rest) ≡ lookup (b ∷ path) rest → lookup path (cond c ((t, k) ∷ step b rest) (step b rest)) ≡ cond (c && same_text t path) (Some k) (lookup (b ∷ path) rest)
      go true e = ap (cond (same_text t path) (Some k)) e
      go false e = e

  lost : (path : List ℕ) (n : ℕ) (h : Bool) → ((k : ℕ) → seek {K = K} k [] path ≡ None)
      → seek {K = K} ((cond {A = ℕ × RowsOf K} h (0, []) (n, [])).0 - 1) (cond {A = ℕ × RowsOf K} h (0, []) (n, [])).1 path ≡ None
  lost path n true none = none 0
  lost path n false none = none (n - 1)

  nothing : (skip : ℕ) (path : List ℕ) → seek {K = K} skip [] path ≡ None
  unfolding seek param_step
  nothing skip [] = refl
  nothing (suc skip) (b ∷ path) = nothing skip path
  nothing zero (b ∷ path) =
      ap (λ o. or_else o (or_else (seek ((param_step {K = K} [] (b ∷ path)).0 - 1) (param_step {K = K} [] (b ∷ path)).1 path) None)) (nothing 0 path)
      ∙ ap (λ o. or_else o None) (lost path (length (b ∷ path)) (has_slash (b ∷ path)) (λ k. nothing k path))

  right_none : (o : Option K) → or_else o None ≡ o
  right_none None = refl
  right_none (Some k) = refl

  pub first_literal : (rs : RowsOf K) (path : List ℕ) → all_literal rs ≡ true → first rs path ≡ lookup path rs
  unfolding seek param_step
  first_literal rs [] h = own_is rs
  first_literal rs (b ∷ path) h =
      let none : (first rs (b ∷ path)) ≡ or_else (seek 0 (step b rs) path) (or_else (seek ((param_step {K = K} [] (b ∷ path)).0 - 1) (param_step {K = K} [] (b ∷ path)).1 path) (own {K = K} [])) =
      ap (λ (p : RowsOf K × RowsOf K). or_else (seek 0 (step b rs) path) (or_else (seek ((param_step p.0 (b ∷ path)).0 - 1) (param_step p.0 (b ∷ path)).1 path) (own p.1))) (λ i. (no_param rs h i, no_catch_all rs h i)) in
      none ∙ ap (λ o. or_else (seek 0 (step b rs) path) (or_else o None)) (lost path (length (b ∷ path)) (has_slash (b ∷ path)) (λ k. nothing k path)) ∙ right_none (seek 0 (step b rs) path)
      ∙ first_literal (step b rs) path (kept b rs h) ∙ step_is b path rs
