-- A log of entries over some state, what keys show after it, and the versions of keys.
use Rattle.std.specs.Prelude.{◌≡◌, ◌≢◌, ℕ, zero, suc, ◌-◌, ◌<◌, ◌≤◌, List, [], ◌∷◌, ◌++◌, length, take, if◌then◌else◌}
use Rattle.std.proofs.Math.Bool.{decide}

-- what an entry makes of a state, what a key shows of it, and whether two rows are equal
pub record History (State Entry Key Row : Type 0) : Type 0 where
  pub after : State → Entry → State
  pub row_of : State → Key → Row
  pub same : (one other : Row) → Dec (one ≡ other)

-- the state after a log
unfoldable pub state_after : {State Entry Key Row : Type 0} → History State Entry Key Row → State → List Entry → State
state_after history state [] = state
state_after history state (entry ∷ log) = state_after history (history.after state entry) log

-- what a key shows after the first entries of a log
abbrev pub row_after : {State Entry Key Row : Type 0} → History State Entry Key Row → State → List Entry → ℕ → Key → Row
row_after history state log count key = history.row_of (state_after history state (take count log)) key

-- the number of the last of so many entries that changed what a key shows, or 0
unfoldable pub version_at : {State Entry Key Row : Type 0} → History State Entry Key Row → State → List Entry → Key → ℕ → ℕ
version_at history state log key zero = 0
version_at history state log key (suc count) =
    if decide (history.same (row_after history state log count key) (row_after history state log (suc count) key))
    then version_at history state log key count
    else suc count

-- the number of the last entry that changed what a key shows, or 0
unfoldable pub version_of : {State Entry Key Row : Type 0} → History State Entry Key Row → State → List Entry → Key → ℕ
version_of history state log key = version_at history state log key (length log)

-- one log begins the other
pub record Extends {Entry : Type 0} (log longer : List Entry) : Type 0 where
  pub rest : List Entry
  pub is : longer ≡ log ++ rest

-- no entry behind the first so many changes what the key shows
pub record IsStill {State Entry Key Row : Type 0} (history : History State Entry Key Row) (state : State) (log : List Entry) (key : Key) (count : ℕ) : Type 0 where
  pub rows : (more : ℕ) → count ≤ more → more ≤ length log → row_after history state log more key ≡ row_after history state log (length log) key

-- the entry of this number changed what the key shows
pub record ChangedAt {State Entry Key Row : Type 0} (history : History State Entry Key Row) (state : State) (log : List Entry) (key : Key) (number : ℕ) : Type 0 where
  pub some : 0 < number
  pub within : number ≤ length log
  pub changed : row_after history state log number key ≢ row_after history state log (number - 1) key

-- a key showed this row after so many entries, and its version was their number
pub record IsTrueOf {State Entry Key Row : Type 0} (history : History State Entry Key Row) (state : State) (log : List Entry) (key : Key) (row : Row) (version : ℕ) : Type 0 where
  pub within : version ≤ length log
  pub version_is : version_of history state (take version log) key ≡ version
  pub row_is : row_after history state log version key ≡ row

-- a log in which each entry may follow those before it
pub data Legal {Entry : Type 0} (MayFollow : List Entry → Entry → Type 0) : List Entry → Type 0 where
  nothing : Legal MayFollow []
  push : {log : List Entry} (entry : Entry) → Legal MayFollow log → MayFollow log entry → Legal MayFollow (log ++ entry ∷ [])
