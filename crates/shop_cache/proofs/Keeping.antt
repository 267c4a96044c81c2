-- The entries of a cache as a list is kept.
use Rattle.std.proofs.Common.{◌≡◌, ◌≤◌, suc, ◌-◌, Bool, true, false, List, [], ◌∷◌, length, take, Option, Some, None, refl, sym, ap, ◌∙◌, arith}
use Rattle.std.specs.Option.{option_map_or}
use Rattle.std.specs.Map.{lookup_entry, remove_entry}
use Rattle.std.proofs.lemmas.List.{take_all}
use Rattle.lru.specs.LruCache.{LruCache, put_entries}
use Rattle.lru.proofs.CallerLemmas.{Contains-lookup_entry}
use Rattle.shop_cache.specs.declared.cache.Kept.{Kept}
use Rattle.shop_cache.specs.declared.keys.ListKey.{ListKey}
use Rattle.shop_cache.specs.contracts.keys.ListKeyPartialEq.TheImpl.{eq-value}
use Rattle.shop_cache.specs.declared.keys.ListKey.TheVariants.{New, Best, Found}
use Rattle.shop_cache.specs.Keys.{same_list}
use Rattle.shop_cache.specs.Caches.{Entries, room, with_kept}
use Rattle.shop_cache.proofs.cited.Keys.{one_key}

-- what `==` tells of keys
one_test : (key other : ListKey) → eq-value.it key other ≡ same_list key other
one_test (New a) (New b) = refl
one_test (New a) (Best b) = refl
one_test (New a) (Found m t) = refl
one_test (Best a) (New b) = refl
one_test (Best a) (Best b) = refl
one_test (Best a) (Found m t) = refl
one_test (Found k s) (New b) = refl
one_test (Found k s) (Best b) = refl
one_test (Found k s) (Found m t) = refl

module _ {K X : Type 0} (test : K → Bool) where
  none_gone : (es : List (K × X)) → lookup_entry test es ≡ None → remove_entry test es ≡ es
  none_gone [] is = refl
  none_gone (e ∷ es) is = (elim (test e.0) as (λ y. test e.0 ≡ y → remove_entry test (e ∷ es) ≡ e ∷ es) [
    | true ↦ λ t. let is' = rw t at is in cc
    | false ↦ λ t. rw t (ap (λ l. e ∷ l) (none_gone es (rw t at is)))
  ]) refl

  one_gone : (es : List (K × X)) (e : K × X) → lookup_entry test es ≡ Some e → suc (length (remove_entry test es)) ≡ length es
  one_gone [] e is = cc
  one_gone (f ∷ es) e is = (elim (test f.0) as (λ y. test f.0 ≡ y → suc (length (remove_entry test (f ∷ es))) ≡ suc (length es)) [
    | true ↦ λ t. rw t refl
    | false ↦ λ t. rw t (ap suc (one_gone es e (rw t at is)))
  ]) refl

module _ (key : ListKey) (kept : Kept) (cache : LruCache ListKey Kept) (short : length cache.entries ≤ cache.cap) (whole : cache.cap ≡ room) where
  abbrev others : Entries
  others = remove_entry (same_list key) cache.entries

  by : (o : Option (ListKey × Kept)) → lookup_entry (same_list key) cache.entries ≡ o
      → option_map_or (λ e. (e.0, kept) ∷ others) o ((key, kept) ∷ take (cache.cap - 1) cache.entries) ≡ with_kept key kept cache.entries
  by None is = let gone = sym (none_gone (same_list key) cache.entries is) in λ i. (key, kept) ∷ take (whole i - 1) (gone i)
  by (Some e) is =
      let same : e.0 ≡ key = sym (one_key key e.0 (Contains-lookup_entry (same_list key) cache.entries e is).1) in
      let fewer = one_gone (same_list key) cache.entries e is in
      let all : others ≡ take (room - 1) others = sym (take_all (room - 1) others (omega (arith, fewer, short, whole))) in
      λ i. (same i, kept) ∷ all i

  -- what the cache does
  pub put_keeps : put_entries eq-value.it cache key kept ≡ with_kept key kept cache.entries
  put_keeps = ap (λ (test : ListKey → ListKey → Bool). put_entries test cache key kept) (λ i k other. one_test k other i) ∙ by (lookup_entry (same_list key) cache.entries) refl
