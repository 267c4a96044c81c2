-- The slots of a new shop's table, one after another.
use Rattle.std.proofs.Common.{◌≡◌, ◌≢◌, ℕ, ◌+◌, ◌*◌, ◌<◌, List, [], ◌∷◌, ◌++◌, length, Option, Some, sym, ap, ◌∙◌, arith}
use mathlib.Core.Logic.{dite}
use mathlib.Core.Option.{some}
use native.Mathlib.Decide.{ℕ_discrete}
use lib.ListN.{get_elem?}
use Rattle.atomic_table.proofs.Lists.{at_last, at_longer}
use Rattle.shop_book.specs.Books.{BookValue}

pub more_there : (share : BookValue) (xs : List (Option BookValue)) (slot : ℕ) (x : Option BookValue) → length xs ≡ slot → ((c : ℕ) → 8 * c < slot → get_elem? xs (8 * c) ≡ some (Some share)) → ((c : ℕ) → 8 * c ≡ slot → x ≡ Some share)
    → (c : ℕ) → 8 * c < slot + 1 → get_elem? (xs ++ x ∷ []) (8 * c) ≡ some (Some share)
more_there share xs slot x len old new c lt =
    dite (ℕ_discrete (8 * c) slot) (λ (e : 8 * c ≡ slot). at_last xs x (8 * c) (len ∙ sym e) ∙ ap some (new c e)) (λ (ne : 8 * c ≢ slot). at_longer xs (x ∷ []) (8 * c) (Some share) (old c (omega arith)))
