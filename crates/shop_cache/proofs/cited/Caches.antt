-- What holds of kept lists after a look, and after one more is kept.
use Rattle.std.proofs.Common.{◌≡◌, ◌≤◌, ℕ, ◌-◌, Bool, true, false, cond, [], ◌∷◌, take, All, Contains, IfSome, Option, Some, None, nat_le, refl, sym, ap, subst, ◌∙◌, arith}
use Rattle.std.specs.Map.{lookup, lookup_entry, remove_entry}
use Rattle.std.specs.Option.{option_map_or}
use Rattle.std.proofs.lemmas.Bool.{le-leb, leb-true}
use Rattle.std.proofs.lemmas.List.Elements.{All-cons, All-take, All-contains, All-contains_itself}
use Rattle.lru.proofs.CallerLemmas.{Contains-lookup, Contains-lookup_entry, Contains-remove_entry, Contains-promoted}
use Rattle.shop_cache.specs.declared.cache.Kept.{Kept}
use Rattle.shop_cache.specs.declared.keys.ListKey.{ListKey}
use Rattle.shop_cache.specs.Keys.{same_list}
use Rattle.shop_cache.specs.Caches.{Entries, room, age_limit, young, AllTaken, found, looked, with_kept}
use Rattle.shop_cache.proofs.cited.Keys.{one_key, own_key}

-- what holds of all still does, where no other came
all_among : (P : ListKey × Kept → Type 0) (old new : Entries) → ((e : ListKey × Kept) → Contains new e → Contains old e) → All P old → All P new
all_among P old new among all i d inside = All-contains P old _ all (among _ (All-contains_itself new i d inside))

-- after a look
pub all_looked : (P : ListKey × Kept → Type 0) (key : ListKey) (entries : Entries) → All P entries → All P (looked key entries)
all_looked P key entries = all_among P entries (looked key entries) (Contains-promoted (same_list key) entries)

-- after one is kept of which it holds
pub all_with_kept : (P : ListKey × Kept → Type 0) (key : ListKey) (kept : Kept) (entries : Entries) → P (key, kept) → All P entries → All P (with_kept key kept entries)
all_with_kept P key kept entries new all =
    let others = remove_entry (same_list key) entries in
    All-cons P (key, kept) (take (room - 1) others) new (All-take P (room - 1) others (all_among P entries others (Contains-remove_entry (same_list key) entries) all))

-- a list that is young enough was there
young_is : (moment : ℕ) (o : Option Kept) (kept : Kept) → young moment o ≡ Some kept → o ≡ Some kept
young_is moment None kept is = cc
young_is moment (Some k) kept is = (elim (nat_le (moment - k.taken) age_limit) as (λ b. cond b (Some k) None ≡ Some kept → Some k ≡ Some kept) [
  | true ↦ λ same. same
  | false ↦ λ same. cc
]) is

-- it is young enough
young_age : (moment : ℕ) (o : Option Kept) (kept : Kept) → young moment o ≡ Some kept → moment - kept.taken ≤ age_limit
young_age moment None kept is = cc
young_age moment (Some k) kept is = (elim (nat_le (moment - k.taken) age_limit) as (λ b. nat_le (moment - k.taken) age_limit ≡ b → cond b (Some k) None ≡ Some kept → moment - kept.taken ≤ age_limit) [
  | true ↦ λ t is. let same : k ≡ kept = cc in subst (λ (k : Kept). moment - k.taken ≤ age_limit) same (leb-true (moment - k.taken) age_limit t)
  | false ↦ λ t is. cc
]) refl is

pub found_age : (key : ListKey) (moment : ℕ) (entries : Entries) (kept : Kept) → found key moment entries ≡ Some kept → moment - kept.taken ≤ age_limit
found_age key moment entries kept is = young_age moment (lookup (same_list key) entries) kept is

-- what is found is one of the entries
pub found_among : (key : ListKey) (moment : ℕ) (entries : Entries) (kept : Kept) → found key moment entries ≡ Some kept → Contains entries (key, kept)
found_among key moment entries kept is =
    let there = Contains-lookup (same_list key) entries kept (young_is moment (lookup (same_list key) entries) kept is) in
    subst (λ k. Contains entries (k, kept)) (sym (one_key key there.0 there.2)) there.1

-- so what holds of all holds of it
pub all_found : (P : ListKey × Kept → Type 0) (key : ListKey) (moment : ℕ) (entries : Entries) → All P entries → IfSome (found key moment entries) (λ kept. P (key, kept))
all_found P key moment entries all = by (found key moment entries) refl
  where
    by : (o : Option Kept) → found key moment entries ≡ o → IfSome o (λ kept. P (key, kept))
    by None is = tt
    by (Some kept) is = All-contains P entries (key, kept) all (found_among key moment entries kept is)

-- a list is found at the moment at which it was taken
pub found_kept : (key : ListKey) (moment : ℕ) (entries : Entries) (kept : Kept) → kept.taken ≡ moment → found key moment (with_kept key kept entries) ≡ Some kept
found_kept key moment entries kept now =
    let fresh : nat_le (moment - kept.taken) age_limit ≡ true = le-leb (moment - kept.taken) age_limit (omega (arith, now)) in
    ap (λ b. young moment (cond b (Some kept) (lookup (same_list key) (take (room - 1) (remove_entry (same_list key) entries))))) (own_key key)
    ∙ ap (λ b. cond b (Some kept) None) fresh

module _ (key other : ListKey) where
  -- the other key is the one that was looked for, or not that of the entry
  one_apart : (e f : ListKey × Kept) → same_list key e.0 ≡ true → same_list other e.0 ≡ true → same_list key f.0 ≡ false → same_list other f.0 ≡ false
  one_apart e f mine its differs = let one : key ≡ other = one_key key e.0 mine ∙ sym (one_key other e.0 its) in subst (λ k. same_list k f.0 ≡ false) one differs

  later : (e f : ListKey × Kept) (rest whole : Option Kept) (b : Bool) → same_list other e.0 ≡ b → same_list key e.0 ≡ true → same_list key f.0 ≡ false
      → cond b (Some e.1) rest ≡ whole
      → cond b (Some e.1) (cond (same_list other f.0) (Some f.1) rest) ≡ cond (same_list other f.0) (Some f.1) whole
  later e f rest whole true its mine differs is = is ∙ ap (λ b. cond b (Some f.1) whole) (sym (one_apart e f mine its differs))
  later e f rest whole false its mine differs is = ap (cond (same_list other f.0) (Some f.1)) is

  to_front : (es : Entries) (e : ListKey × Kept) → lookup_entry (same_list key) es ≡ Some e
      → cond (same_list other e.0) (Some e.1) (lookup (same_list other) (remove_entry (same_list key) es)) ≡ lookup (same_list other) es
  to_front [] e is = cc
  to_front (f ∷ es) e is = (elim (same_list key f.0) as (λ y. same_list key f.0 ≡ y → lookup (same_list other) (e ∷ remove_entry (same_list key) (f ∷ es)) ≡ lookup (same_list other) (f ∷ es)) [
    | true ↦ λ t. let is' = rw t at is in let same : f ≡ e = cc in rw t (ap (λ g. lookup (same_list other) (g ∷ es)) (sym same))
    | false ↦ λ t.
        let is' = rw t at is in
        rw t (later e f (lookup (same_list other) (remove_entry (same_list key) es)) (lookup (same_list other) es) (same_list other e.0) refl (Contains-lookup_entry (same_list key) es e is').1 t (to_front es e is'))
  ]) refl

  looked_same : (es : Entries) (o : Option (ListKey × Kept)) → lookup_entry (same_list key) es ≡ o
      → lookup (same_list other) (option_map_or (λ e. e ∷ remove_entry (same_list key) es) o es) ≡ lookup (same_list other) es
  looked_same es None is = refl
  looked_same es (Some e) is = to_front es e is

-- a look changes no later one
pub found_looked : (key other : ListKey) (moment : ℕ) (entries : Entries) → found other moment (looked key entries) ≡ found other moment entries
found_looked key other moment entries = ap (young moment) (looked_same key other entries (lookup_entry (same_list key) entries) refl)

-- what was taken by a moment was taken by a later one
pub taken_later : (moment after : ℕ) (entries : Entries) → moment ≤ after → AllTaken moment entries → AllTaken after entries
taken_later moment after entries le all i d inside = let taken = all i d inside in omega (arith, le, taken)
