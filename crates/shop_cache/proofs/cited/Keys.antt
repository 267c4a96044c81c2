-- Keys that are the same.
use Rattle.std.proofs.Common.{◌≡◌, ℕ, Bool, true, false, ◌&&◌, List, refl, ap}
use Rattle.std.specs.Str.{bytes_eq}
use denote.Enum.Bare.{sameb, same_true, true_same}
use lib.Pointwise.{bytes_decides}
use Rattle.shop_model.specs.declared.requests.SearchKind.{SearchKind}
use Rattle.shop_model.specs.contracts.subject.Subject.{the_type as subjects}
use Rattle.shop_model.specs.contracts.requests.SearchKind.{the_type as kinds}
use Rattle.shop_cache.specs.declared.keys.ListKey.{ListKey}
use Rattle.shop_cache.specs.declared.keys.ListKey.TheVariants.{New, Best, Found}
use Rattle.shop_cache.specs.Keys.{same_list}

one_found : (k m : SearchKind) (s t : List ℕ) (kind text : Bool) → sameb kinds k m ≡ kind → bytes_eq s t ≡ text → (kind && text) ≡ true → Found k s ≡ Found m t
one_found k m s t true true kind text alike = let a = same_true kinds tt k m kind in let b = (bytes_decides s t).0 text in λ i. Found (a i) (b i)
one_found k m s t true false kind text alike = cc
one_found k m s t false text kind same alike = cc

-- the same key is one key
pub one_key : (key other : ListKey) → same_list key other ≡ true → key ≡ other
one_key (New a) (New b) alike = ap New (same_true subjects tt a b alike)
one_key (New a) (Best b) alike = cc
one_key (New a) (Found m t) alike = cc
one_key (Best a) (New b) alike = cc
one_key (Best a) (Best b) alike = ap Best (same_true subjects tt a b alike)
one_key (Best a) (Found m t) alike = cc
one_key (Found k s) (New b) alike = cc
one_key (Found k s) (Best b) alike = cc
one_key (Found k s) (Found m t) alike = one_found k m s t (sameb kinds k m) (bytes_eq s t) refl refl alike

pub own_key : (key : ListKey) → same_list key key ≡ true
own_key (New a) = true_same subjects a a refl
own_key (Best a) = true_same subjects a a refl
own_key (Found k s) = let kind = true_same kinds k k refl in let text = (bytes_decides s s).1 refl in λ i. kind i && text i
