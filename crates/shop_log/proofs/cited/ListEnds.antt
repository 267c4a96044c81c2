-- Induction over lists by their ends.
use Rattle.std.proofs.Common.{List, [], ◌∷◌, ◌++◌, subst, sym, append_assoc, append-nil}

-- what holds of a list, and goes on by one more at the end, holds of each longer list
from_end : {A : Type 0} (P : List A → Type 0) → ((xs : List A) (x : A) → P xs → P (xs ++ x ∷ [])) → (xs ys : List A) → P xs → P (xs ++ ys)
from_end P step xs [] h = subst P (sym (append-nil xs)) h
from_end P step xs (y ∷ ys) h = subst P (append_assoc xs (y ∷ []) ys) (from_end P step (xs ++ y ∷ []) ys (step xs y h))

pub by_end : {A : Type 0} (P : List A → Type 0) → P [] → ((xs : List A) (x : A) → P xs → P (xs ++ x ∷ [])) → (xs : List A) → P xs
by_end P none step xs = from_end P step [] xs none
