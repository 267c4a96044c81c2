-- The version of a key is the length of the shortest beginning of the log behind which nothing changes what it shows.
use Rattle.std.proofs.Common.{◌≡◌, ℕ, ◌-◌, ◌<◌, ◌≤◌, List, length, sym, ◌∙◌, ap, ⊎_elim, arith}
use Rattle.std.proofs.lemmas.Bool.{cases_lt}
use Rattle.shop_log.specs.Histories.{History, row_after, version_at, version_of, IsStill, ChangedAt}
use Rattle.shop_log.proofs.cited.Versions.{stands_in, version_at-before, version_changed}

module _ {State Entry Key Row : Type 0} (history : History State Entry Key Row) where
  -- behind as many entries as its version says, nothing changes what the key shows
  pub still_from : (state : State) (log : List Entry) (key : Key) (count : ℕ) → version_of history state log key ≤ count → IsStill history state log key count
  unfolding version_of
  still_from state log key count old = record {
    rows = λ more above within.
        let at : version_at history state log key more ≡ version_at history state log key (length log) = version_at-before history state log key more (length log) within (omega (arith, above, old)) in
        sym (stands_in history state log key more).row_is ∙ ap (λ n. row_after history state log n key) at ∙ (stands_in history state log key (length log)).row_is;
  }

  -- an entry that changed what the key shows is no later than its version
  pub changed_by : (state : State) (log : List Entry) (key : Key) (number : ℕ) → ChangedAt history state log key number → number ≤ version_of history state log key
  changed_by state log key number was = ⊎_elim
      (λ (early : version_of history state log key < number).
      let still = still_from state log key (number - 1) (omega (arith, early)) in
      absurd (was.changed (still.rows number (omega arith) was.within ∙ sym (still.rows (number - 1) (omega arith) (omega (arith, was.within))))))
      (λ (enough : number ≤ version_of history state log key). enough)
      (cases_lt (version_of history state log key) number)

  -- and fewer are not enough
  pub shortest : (state : State) (log : List Entry) (key : Key) (count : ℕ) → IsStill history state log key count → version_of history state log key ≤ count
  shortest state log key count still = ⊎_elim
      (λ (more : count < version_of history state log key).
      let changed = version_changed history state key log (omega (arith, more)) in
      absurd (changed.changed (still.rows (version_of history state log key) (omega (arith, more)) changed.within ∙ sym (still.rows (version_of history state log key - 1) (omega (arith, more)) (omega (arith, changed.within))))))
      (λ (enough : version_of history state log key ≤ count). enough)
      (cases_lt count (version_of history state log key))
