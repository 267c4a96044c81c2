-- How many entries of a log are a caller's.
use Rattle.std.proofs.Common.{◌≡◌, ℕ, ◌≤◌, ◌==◌, true, false, List, [], ◌∷◌, ◌++◌, length, refl, arith, append-nil}
use Rattle.std.proofs.lemmas.List.Elements.{filter-append}
use Rattle.shop_history.specs.declared.acts.Entry.{Entry}
use Rattle.shop_history.specs.Logs.{entries_of}

pub entries_mine : (caller : ℕ) (log : List Entry) (entry : Entry) → (entry.caller == caller) ≡ true → entries_of caller (log ++ entry ∷ []) ≡ entries_of caller log ++ entry ∷ []
entries_mine caller log entry is = rw (filter-append, is) refl

pub entries_theirs : (caller : ℕ) (log : List Entry) (entry : Entry) → (entry.caller == caller) ≡ false → entries_of caller (log ++ entry ∷ []) ≡ entries_of caller log
entries_theirs caller log entry is = rw (filter-append, is, append-nil) refl

-- a caller has no more entries than there are
pub few_entries : (caller : ℕ) (log : List Entry) → length (entries_of caller log) ≤ length log
few_entries caller [] = omega arith
few_entries caller (entry ∷ log) = grind (arith, few_entries caller log)
