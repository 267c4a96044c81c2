-- What holds along a legal log.
use Rattle.std.proofs.Common.{◌≡◌, ℕ, zero, suc, ◌+◌, ◌-◌, ◌<◌, ◌≤◌, List, [], ◌∷◌, ◌++◌, length, take, Some, slice_get, refl, sym, ◌∙◌, ap, subst, ◌⊎◌, inl, inr, ⊎_elim, arith, length-append}
use Rattle.std.proofs.lemmas.Bool.{cases_lt}
use Rattle.std.proofs.lemmas.List.{take-append-le, take_all}
use Rattle.std.proofs.lemmas.Option.{slice_get_within}
use Rattle.shop_log.specs.Histories.{History, Legal, state_after, Extends}
use Rattle.shop_log.specs.Histories.Legal.{nothing, push}
use Rattle.shop_log.proofs.cited.Versions.{state_after-push}

-- what stands in a list with one more at its end
get_push : {A : Type 0} (xs : List A) (y : A) (n : ℕ) (x : A) → slice_get (xs ++ y ∷ []) n ≡ Some x → (slice_get xs n ≡ Some x) ⊎ ((n ≡ length xs) × (y ≡ x))
get_push [] y zero x is = inr (refl, cc)
get_push [] y (suc n) x is = absurd cc
get_push (z ∷ xs) y zero x is = inl is
get_push (z ∷ xs) y (suc n) x is =
    elim (get_push xs y n x is) as (λ _. (slice_get xs n ≡ Some x) ⊎ ((suc n ≡ suc (length xs)) × (y ≡ x))) [ inl there ↦ inl there | inr last ↦ inr (ap suc last.0, last.1) ]

get_last : {A : Type 0} (xs : List A) (y : A) → slice_get (xs ++ y ∷ []) (length xs) ≡ Some y
get_last [] y = refl
get_last (z ∷ xs) y = get_last xs y

module _ {Entry : Type 0} (MayFollow : List Entry → Entry → Type 0) where
  -- what holds of no entries, and is kept by each that may follow, holds
  pub along : (P : List Entry → Type 0) → P [] → ((log : List Entry) (entry : Entry) → MayFollow log entry → P log → P (log ++ entry ∷ [])) → (log : List Entry) → Legal MayFollow log → P log
  along P none step _ nothing = none
  along P none step _ (push {log} entry legal follows) = step log entry follows (along P none step log legal)

  -- each beginning of a legal log is legal
  pub legal_front : (log : List Entry) → Legal MayFollow log → (count : ℕ) → Legal MayFollow (take count log)
  legal_front _ nothing count = subst (Legal MayFollow) (sym (take_all count [] (omega arith))) nothing
  legal_front _ (push {log} entry legal follows) count = ⊎_elim
      (λ (longer : length log < count). subst (Legal MayFollow) (sym (take_all count (log ++ entry ∷ []) (omega (arith, longer, length-append log (entry ∷ []))))) (push entry legal follows))
      (λ (within : count ≤ length log). subst (Legal MayFollow) (sym (take-append-le count log (entry ∷ []) within)) (legal_front log legal count))
      (cases_lt (length log) count)

  pub legal_shorter : (log longer : List Entry) → Extends log longer → Legal MayFollow longer → Legal MayFollow log
  legal_shorter log longer extends legal =
      let front : take (length log) longer ≡ log = ap (take (length log)) extends.is ∙ take-append-le (length log) log extends.rest (omega arith) ∙ take_all (length log) log (omega arith) in
      subst (Legal MayFollow) front (legal_front longer legal (length log))

  -- each entry of a legal log may follow those before it
  pub legal_at : (log : List Entry) → Legal MayFollow log → (count : ℕ) (entry : Entry) → slice_get log count ≡ Some entry → MayFollow (take count log) entry
  legal_at =
      along (λ log. (count : ℕ) (entry : Entry) → slice_get log count ≡ Some entry → MayFollow (take count log) entry)
      (λ count entry is. absurd cc)
      (λ log last follows before count entry is. ⊎_elim
      (λ there. subst (λ (front : List Entry). MayFollow front entry) (sym (take-append-le count log (last ∷ []) (omega (arith, slice_get_within log count entry there)))) (before count entry there))
      (λ end.
      let front : take count (log ++ last ∷ []) ≡ log = ap (λ n. take n (log ++ last ∷ [])) end.0 ∙ take-append-le (length log) log (last ∷ []) (omega arith) ∙ take_all (length log) log (omega arith) in
      subst (λ (e : Entry). MayFollow (take count (log ++ last ∷ [])) e) end.1 (subst (λ (l : List Entry). MayFollow l last) (sym front) follows))
      (get_push log last count entry is))

  -- the last entry of a legal log may follow those before it
  pub legal_last : (log : List Entry) (entry : Entry) → Legal MayFollow (log ++ entry ∷ []) → MayFollow log entry
  legal_last log entry legal =
      let front : take (length log) (log ++ entry ∷ []) ≡ log = take-append-le (length log) log (entry ∷ []) (omega arith) ∙ take_all (length log) log (omega arith) in
      subst (λ (l : List Entry). MayFollow l entry) front (legal_at (log ++ entry ∷ []) legal (length log) entry (get_last log entry))

-- What is good with so much room stays good along a legal log, where each entry uses one of the room.
pub good_after : {State Entry Key Row : Type 0} (history : History State Entry Key Row) (MayFollow : List Entry → Entry → Type 0) (Good : State → ℕ → Type 0) (state : State)
    → ((log : List Entry) (entry : Entry) (room : ℕ) → MayFollow log entry → Good (state_after history state log) (suc room) → Good (history.after (state_after history state log) entry) room)
    → (most : ℕ) → Good state most → (log : List Entry) → Legal MayFollow log → length log ≤ most → Good (state_after history state log) (most - length log)
unfolding state_after
good_after {State} {Entry} history MayFollow Good state keeps most good =
    along MayFollow (λ log. length log ≤ most → Good (state_after history state log) (most - length log))
    (λ within. subst (Good state) (omega arith) good)
    (λ log entry follows before within.
    let longer : length (log ++ entry ∷ []) ≡ length log + 1 = length-append log (entry ∷ []) in
    let left : most - length log ≡ suc (most - length (log ++ entry ∷ [])) = omega (arith, longer, within) in
    let was : Good (state_after history state log) (most - length log) = before (omega (arith, longer, within)) in
    subst (λ (now : State). Good now (most - length (log ++ entry ∷ []))) (sym (state_after-push history state log entry))
    (keeps log entry (most - length (log ++ entry ∷ [])) follows (subst (Good (state_after history state log)) left was)))
