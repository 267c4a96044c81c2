-- What a version says of a log, and what a longer log keeps.
use Rattle.std.proofs.Common.{◌≡◌, ◌≢◌, ℕ, zero, suc, ◌+◌, ◌-◌, ◌<◌, ◌≤◌, cond, List, [], ◌∷◌, ◌++◌, length, take, refl, sym, ◌∙◌, ap, subst, ⊎_elim, arith, length-append}
use Rattle.std.proofs.Math.Bool.{decide}
use Rattle.std.proofs.lemmas.Bool.{cases_lt}
use Rattle.std.proofs.lemmas.List.{take-append-le, take_all, length-take-le}
use Rattle.shop_log.specs.Histories.{History, state_after, row_after, version_at, version_of, Extends, ChangedAt, IsTrueOf}
use Rattle.shop_log.proofs.cited.Extends.{extends_length, extends_push, take_extends}

module _ {State Entry Key Row : Type 0} (history : History State Entry Key Row) where
  -- the state and the row after one entry more

  pub state_after-append : (state : State) (log rest : List Entry) → state_after history state (log ++ rest) ≡ state_after history (state_after history state log) rest
  unfolding state_after
  state_after-append state [] rest = refl
  state_after-append state (entry ∷ log) rest = state_after-append (history.after state entry) log rest

  pub state_after-push : (state : State) (log : List Entry) (entry : Entry) → state_after history state (log ++ entry ∷ []) ≡ history.after (state_after history state log) entry
  unfolding state_after
  state_after-push state log entry = state_after-append state log (entry ∷ [])

  pub row_whole : (state : State) (log : List Entry) (key : Key) → row_after history state log (length log) key ≡ history.row_of (state_after history state log) key
  row_whole state log key = ap (λ (l : List Entry). history.row_of (state_after history state l) key) (take_all (length log) log (omega arith))

  row_front : (state : State) (log longer : List Entry) (key : Key) → Extends log longer → (count : ℕ) → count ≤ length log → row_after history state longer count key ≡ row_after history state log count key
  row_front state log longer key extends count within =
      ap (λ (l : List Entry). history.row_of (state_after history state l) key) (ap (take count) extends.is ∙ take-append-le count log extends.rest within)

  -- an entry that leaves a row, and one that changes it

  moved : Row → Row → ℕ → ℕ → ℕ
  moved one other version number = cond (decide (history.same one other)) version number

  moved_same : (one other : Row) (version number : ℕ) → one ≡ other → moved one other version number ≡ version
  unfolding moved decide
  moved_same one other version number same = of (history.same one other)
    where
      of : (d : Dec (one ≡ other)) → cond (decide d) version number ≡ version
      of (yes _) = refl
      of (no apart) = absurd (apart same)

  moved_apart : (one other : Row) (version number : ℕ) → one ≢ other → moved one other version number ≡ number
  unfolding moved decide
  moved_apart one other version number apart = of (history.same one other)
    where
      of : (d : Dec (one ≡ other)) → cond (decide d) version number ≡ number
      of (yes same) = absurd (apart same)
      of (no _) = refl

  version_at-zero : (state : State) (log : List Entry) (key : Key) → version_at history state log key zero ≡ 0
  unfolding version_at
  version_at-zero state log key = refl

  version_at-suc : (state : State) (log : List Entry) (key : Key) (count : ℕ)
      → version_at history state log key (suc count) ≡ moved (row_after history state log count key) (row_after history state log (suc count) key) (version_at history state log key count) (suc count)
  unfolding version_at moved
  version_at-suc state log key count = refl

  -- the version after the first entries of a log

  -- it is no later than they are, and was the version then; the key showed then what it shows after them, and another row before
  pub record StandsIn (state : State) (log : List Entry) (key : Key) (count version : ℕ) : Type 0 where
    pub within : version ≤ count
    pub again : version_at history state log key version ≡ version
    pub row_is : row_after history state log version key ≡ row_after history state log count key
    pub changed : 0 < version → row_after history state log version key ≢ row_after history state log (version - 1) key

  pub stands_in : (state : State) (log : List Entry) (key : Key) (count : ℕ) → StandsIn state log key count (version_at history state log key count)
  stands_in state log key zero =
      subst (StandsIn state log key zero) (sym (version_at-zero state log key))
      (record { within = omega arith; again = version_at-zero state log key; row_is = refl; changed = λ some. absurd (omega arith) })
  stands_in state log key (suc count) =
      let one : Row = row_after history state log count key in
      let other : Row = row_after history state log (suc count) key in
      let before : StandsIn state log key count (version_at history state log key count) = stands_in state log key count in
      elim (history.same one other) as (λ _. StandsIn state log key (suc count) (version_at history state log key (suc count))) [
        | yes same ↦
            subst (StandsIn state log key (suc count)) (sym (version_at-suc state log key count ∙ moved_same one other _ _ same))
            (record { within = omega (arith, before.within); again = before.again; row_is = before.row_is ∙ same; changed = before.changed })
        | no apart ↦
            let now : version_at history state log key (suc count) ≡ suc count = version_at-suc state log key count ∙ moved_apart one other _ _ apart in
            subst (StandsIn state log key (suc count)) (sym now)
            (record { within = omega arith; again = now; row_is = refl; changed = λ _. λ same. apart (sym (same ∙ ap (λ n. row_after history state log n key) (omega arith))) })
      ]

  -- a version that is no newer than a beginning of the log is the version there
  pub version_at-before : (state : State) (log : List Entry) (key : Key) (count more : ℕ) → count ≤ more → version_at history state log key more ≤ count → version_at history state log key count ≡ version_at history state log key more
  version_at-before state log key count zero below old = ap (version_at history state log key) (omega arith)
  version_at-before state log key count (suc more) below old = ⊎_elim
      (λ (shorter : count < suc more).
      let one : Row = row_after history state log more key in
      let other : Row = row_after history state log (suc more) key in
      elim (history.same one other) as (λ _. version_at history state log key count ≡ version_at history state log key (suc more)) [
        | yes same ↦
            let stays : version_at history state log key (suc more) ≡ version_at history state log key more = version_at-suc state log key more ∙ moved_same one other _ _ same in
            version_at-before state log key count more (omega (arith, shorter)) (omega (arith, stays, old)) ∙ sym stays
        | no apart ↦
            let moves : version_at history state log key (suc more) ≡ suc more = version_at-suc state log key more ∙ moved_apart one other _ _ apart in
            absurd (omega (arith, moves, old, shorter))
      ])
      (λ (whole : suc more ≤ count). ap (version_at history state log key) (omega (arith, below, whole)))
      (cases_lt count (suc more))

  -- a longer log has the same versions after the entries that both have
  version_at-front : (state : State) (log longer : List Entry) (key : Key) → Extends log longer → (count : ℕ) → count ≤ length log → version_at history state longer key count ≡ version_at history state log key count
  version_at-front state log longer key extends zero within = version_at-zero state longer key ∙ sym (version_at-zero state log key)
  version_at-front state log longer key extends (suc count) within =
      let one : Row = row_after history state longer count key in
      let other : Row = row_after history state longer (suc count) key in
      let version : ℕ = version_at history state longer key count in
      version_at-suc state longer key count
      ∙ ap (λ v. moved one other v (suc count)) (version_at-front state log longer key extends count (omega (arith, within)))
      ∙ ap (λ (row : Row). moved row other (version_at history state log key count) (suc count)) (row_front state log longer key extends count (omega (arith, within)))
      ∙ ap (λ (row : Row). moved (row_after history state log count key) row (version_at history state log key count) (suc count)) (row_front state log longer key extends (suc count) within)
      ∙ sym (version_at-suc state log key count)

  -- the version of a log

  pub version_of-nil : (state : State) (key : Key) → version_of history state [] key ≡ 0
  unfolding version_of
  version_of-nil state key = version_at-zero state [] key

  version_of-push : (state : State) (log : List Entry) (entry : Entry) (key : Key)
      → version_of history state (log ++ entry ∷ []) key ≡ moved (history.row_of (state_after history state log) key) (history.row_of (state_after history state (log ++ entry ∷ [])) key) (version_of history state log key) (length log + 1)
  unfolding version_of
  version_of-push state log entry key =
      let longer : List Entry = log ++ entry ∷ [] in
      let size : length longer ≡ suc (length log) = omega (arith, length-append log (entry ∷ [])) in
      let extends : Extends log longer = extends_push log entry in
      let one : row_after history state longer (length log) key ≡ history.row_of (state_after history state log) key = row_front state log longer key extends (length log) (omega arith) ∙ row_whole state log key in
      let other : row_after history state longer (suc (length log)) key ≡ history.row_of (state_after history state longer) key = ap (λ n. row_after history state longer n key) (sym size) ∙ row_whole state longer key in
      let version : version_at history state longer key (length log) ≡ version_of history state log key = version_at-front state log longer key extends (length log) (omega arith) in
      ap (version_at history state longer key) size ∙ version_at-suc state longer key (length log)
      ∙ ap (λ (row : Row). moved row (row_after history state longer (suc (length log)) key) (version_at history state longer key (length log)) (suc (length log))) one
      ∙ ap (λ (row : Row). moved (history.row_of (state_after history state log) key) row (version_at history state longer key (length log)) (suc (length log))) other
      ∙ ap (λ v. moved (history.row_of (state_after history state log) key) (history.row_of (state_after history state longer) key) v (suc (length log))) version
      ∙ ap (moved (history.row_of (state_after history state log) key) (history.row_of (state_after history state longer) key) (version_of history state log key)) (omega arith)

  pub stays_version : (state : State) (log : List Entry) (entry : Entry) (key : Key)
      → history.row_of (state_after history state (log ++ entry ∷ [])) key ≡ history.row_of (state_after history state log) key
      → version_of history state (log ++ entry ∷ []) key ≡ version_of history state log key
  stays_version state log entry key same = version_of-push state log entry key ∙ moved_same _ _ _ _ (sym same)

  pub moves_version : (state : State) (log : List Entry) (entry : Entry) (key : Key)
      → history.row_of (state_after history state (log ++ entry ∷ [])) key ≢ history.row_of (state_after history state log) key
      → version_of history state (log ++ entry ∷ []) key ≡ length log + 1
  moves_version state log entry key apart = version_of-push state log entry key ∙ moved_apart _ _ _ _ (λ same. apart (sym same))

  pub stands_now : (state : State) (log : List Entry) (key : Key) → StandsIn state log key (length log) (version_of history state log key)
  unfolding version_of
  stands_now state log key = stands_in state log key (length log)

  -- what is read of a log is true of it
  pub true_now : (state : State) (log : List Entry) (key : Key) (row : Row) (version : ℕ)
      → row ≡ history.row_of (state_after history state log) key → version ≡ version_of history state log key → IsTrueOf history state log key row version
  unfolding version_of
  true_now state log key row version row_is version_is =
      let stands : StandsIn state log key (length log) version = subst (StandsIn state log key (length log)) (sym version_is) (stands_now state log key) in
      let size : length (take version log) ≡ version = length-take-le version log stands.within in
      record {
        within = stands.within;
        version_is = sym (version_at-front state (take version log) log key (take_extends log version) (length (take version log)) (omega arith)) ∙ ap (version_at history state log key) size ∙ stands.again;
        row_is = stands.row_is ∙ row_whole state log key ∙ sym row_is;
      }

  -- what was true, and has the version that it had, is so now
  pub fresh : (state : State) (log : List Entry) (key : Key) (row : Row) (version : ℕ)
      → IsTrueOf history state log key row version → version_of history state log key ≡ version → history.row_of (state_after history state log) key ≡ row
  fresh state log key row version was same =
      let stands : StandsIn state log key (length log) version = subst (StandsIn state log key (length log)) same (stands_now state log key) in
      sym (stands.row_is ∙ row_whole state log key) ∙ was.row_is

  -- what was true of a log is true of a longer one
  pub true_longer : (state : State) (log longer : List Entry) (key : Key) (row : Row) (version : ℕ)
      → Extends log longer → IsTrueOf history state log key row version → IsTrueOf history state longer key row version
  true_longer state log longer key row version extends was =
      let shorter : take version longer ≡ take version log = ap (take version) extends.is ∙ take-append-le version log extends.rest was.within in
      record {
        within = omega (arith, extends_length log longer extends, was.within);
        version_is = ap (λ (l : List Entry). version_of history state l key) shorter ∙ was.version_is;
        row_is = row_front state log longer key extends version was.within ∙ was.row_is;
      }

  -- a version that is no newer than a shorter log is the version there
  pub version_before : (state : State) (key : Key) (log longer : List Entry) → Extends log longer
      → version_of history state longer key ≤ length log → version_of history state log key ≡ version_of history state longer key
  unfolding version_of
  version_before state key log longer extends old =
      sym (version_at-front state log longer key extends (length log) (omega arith)) ∙ version_at-before state longer key (length log) (length longer) (extends_length log longer extends) old

  -- an entry that changed what the key shows did so in a longer log too
  pub changed_longer : (state : State) (log longer : List Entry) (key : Key) (number : ℕ) → Extends log longer → ChangedAt history state log key number → ChangedAt history state longer key number
  changed_longer state log longer key number extends was = record {
    some = was.some;
    within = omega (arith, was.within, extends_length log longer extends);
    changed = λ equal. was.changed
        (sym (row_front state log longer key extends number was.within) ∙ equal ∙ row_front state log longer key extends (number - 1) (omega (arith, was.within)));
  }

  -- the entry that a version names changed what the key shows
  pub version_changed : (state : State) (key : Key) (log : List Entry) → 0 < version_of history state log key → ChangedAt history state log key (version_of history state log key)
  version_changed state key log some =
      let stands : StandsIn state log key (length log) (version_of history state log key) = stands_now state log key in
      record { some = some; within = stands.within; changed = stands.changed some }

  -- versions grow with the log
  pub version_grows : (state : State) (key : Key) (log longer : List Entry) → Extends log longer → version_of history state log key ≤ version_of history state longer key
  version_grows state key log longer extends = ⊎_elim
      (λ (new : length log < version_of history state longer key). omega (arith, new, (stands_now state log key).within))
      (λ (old : version_of history state longer key ≤ length log). omega (arith, version_before state key log longer extends old))
      (cases_lt (length log) (version_of history state longer key))
