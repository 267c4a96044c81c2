-- Pairs behind pairs.
use Rattle.std.proofs.Common.{◌≡◌, ℕ, List, codes, [], ◌∷◌, ◌++◌, refl, sym, ◌∙◌, ap}
use Rattle.std.proofs.lemmas.List.{append_assoc}
use Rattle.std.proofs.lemmas.Grind.{flat_map-append}
use Rattle.form_urlencoded.specs.Form.{byte_serialize, serialize_byte, serialize_pair}
use Rattle.shop_http.specs.Forms.{Pair}
use Rattle.shop_journal.specs.Pairs.{Adds, Begins, mark_after, pairs_behind, target_with}
use Rattle.shop_journal.specs.declared.target.Target.{Target}

pub mark_after-append : (sign : ℕ) (xs ys : List Pair) → mark_after sign (xs ++ ys) ≡ mark_after (mark_after sign xs) ys
mark_after-append sign [] ys = refl
mark_after-append sign (x ∷ xs) [] = refl
mark_after-append sign (x ∷ xs) (y ∷ ys) = refl

pub pairs_behind-append : (sign : ℕ) (xs ys : List Pair) → pairs_behind sign (xs ++ ys) ≡ pairs_behind sign xs ++ pairs_behind (mark_after sign xs) ys
pairs_behind-append sign [] ys = refl
pairs_behind-append sign (x ∷ xs) ys =
    ap (λ (l : List ℕ). sign ∷ serialize_pair x ++ l) (pairs_behind-append 38 xs ys ∙ ap (λ (m : ℕ). pairs_behind 38 xs ++ pairs_behind m ys) (same xs))
    ∙ ap (λ (l : List ℕ). sign ∷ l) (sym (append_assoc (serialize_pair x) (pairs_behind 38 xs) (pairs_behind 38 ys)))
  where
    same : (xs : List Pair) → mark_after 38 xs ≡ 38
    same [] = refl
    same (x ∷ xs) = refl

-- the name of what sets a quantity
pub set_name : (digits : List ℕ) → byte_serialize (codes "qty_" ++ digits) ≡ codes "qty_" ++ byte_serialize digits
unfolding byte_serialize
set_name digits = flat_map-append serialize_byte (codes "qty_") digits

-- pairs, and others behind them
pub adds_both : (xs ys : List Pair) (before between after : Target) → Adds xs before between → Adds ys between after → Adds (xs ++ ys) before after
adds_both xs ys before between after first second = (
  second.0 ∙ (λ i. first.0 i ++ pairs_behind (first.1 i) ys)
      ∙ append_assoc before.text (pairs_behind before.mark xs) (pairs_behind (mark_after before.mark xs) ys)
      ∙ ap (λ (l : List ℕ). before.text ++ l) (sym (pairs_behind-append before.mark xs ys)),
  second.1 ∙ ap (λ (m : ℕ). mark_after m ys) first.1 ∙ sym (mark_after-append before.mark xs ys),
)

pub target_is : (path : List ℕ) (xs : List Pair) (before after : Target) → Begins path before → Adds xs before after → after.text ≡ target_with path xs
target_is path xs before after begins adds = adds.0 ∙ (λ i. begins.0 i ++ pairs_behind (begins.1 i) xs)
