-- Versions after an entry, where what the keys that it may change show is compared before and after.
use Rattle.std.proofs.Common.{◌≡◌, ◌≢◌, ℕ, ◌+◌, List, [], ◌∷◌, ◌++◌, length, Contains, ◌⊎◌, ⊎_elim, sym, ◌∙◌}
use Rattle.shop_model.specs.declared.tables.Tables.{Tables}
use Rattle.shop_history.specs.declared.acts.Entry.{Entry}
use Rattle.shop_history.specs.declared.keys.Key.{Key}
use Rattle.shop_history.specs.Keys.{row_of}
use Rattle.shop_history.specs.Logs.{tables, version_of}
use Rattle.shop_history.specs.Same.{same}
use Rattle.shop_history.proofs.cited.Rows.{version_same, version_new}

-- what a change makes of the version kept for each key: it stays, or becomes the entry's number where what the key shows differs; and it does so for each watched key that differs
pub record RaisedWhere (u w : Tables) (number : ℕ) (watched : Key → Type 0) (old new : Key → ℕ) : Type 0 where
  pub each : (key : Key) → (new key ≡ old key) ⊎ ((row_of w key ≢ row_of u key) × (new key ≡ number))
  pub all : (key : Key) → watched key → row_of w key ≢ row_of u key → new key ≡ number

-- where the watched keys are those of a list
abbrev pub RaisedFor : Tables → Tables → ℕ → List Key → (Key → ℕ) → (Key → ℕ) → Type 0
RaisedFor u w number watched old new = RaisedWhere u w number (Contains watched) old new

pub versions_after : (t : Tables) (log : List Entry) (entry : Entry) (watched : Key → Type 0) (old new : Key → ℕ)
    → ((key : Key) → old key ≡ version_of t log key)
    → RaisedWhere (tables t log) (tables t (log ++ entry ∷ [])) (length log + 1) watched old new
    → ((key : Key) → watched key ⊎ (row_of (tables t (log ++ entry ∷ [])) key ≡ row_of (tables t log) key))
    → (key : Key) → new key ≡ version_of t (log ++ entry ∷ []) key
versions_after t log entry watched old new before raised frame key =
    elim (same (row_of (tables t (log ++ entry ∷ [])) key) (row_of (tables t log) key)) as (λ _. new key ≡ version_of t (log ++ entry ∷ []) key) [
      | yes equal ↦ ⊎_elim (λ stays. stays ∙ before key ∙ sym (version_same t log entry key equal)) (λ differs. absurd (differs.0 equal)) (raised.each key)
      | no differs ↦ ⊎_elim (λ seen. raised.all key seen differs ∙ sym (version_new t log entry key differs)) (λ equal. absurd (differs equal)) (frame key)
    ]
