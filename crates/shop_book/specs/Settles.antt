-- What a settle of a book answers, and what it leaves.
use Rattle.std.specs.Prelude.{◌≡◌, ℕ, ◌<◌, max, List, [], ◌∷◌, ◌++◌, length, Option, Some, None, IsSome}
use Rattle.shop_model.specs.declared.tables.Tables.{Tables}
use Rattle.shop_history.specs.declared.acts.Act.{Act}
use Rattle.shop_history.specs.declared.acts.Drawn.{Drawn}
use Rattle.shop_history.specs.declared.acts.Entry.{Entry}
use Rattle.shop_history.specs.declared.acts.Ids.{Ids}
use Rattle.shop_history.specs.Drawing.{no_ids, new_ids}
use Rattle.shop_attempt.specs.declared.attempts.Attempt.{Attempt}
use Rattle.shop_attempt.specs.declared.attempts.Conflict.{Conflict}
use Rattle.shop_attempt.specs.declared.attempts.Settle.{Settle}
use Rattle.shop_attempt.specs.declared.attempts.Settle.TheVariants.{Done, Stale, Full, Memory}
use Rattle.shop_attempt.specs.Reads.{first_stale}
use Rattle.shop_attempt.specs.Conflicts.{IsOvertaken}
use Rattle.shop_book.specs.Books.{BookValue, tables_of}

-- the entry of a change, and none where nothing changes
abbrev pub made : ℕ → ℕ → ℕ → Option Act → List Entry
made caller number stamp None = []
made caller number stamp (Some act) =
    record { caller = caller; number = number; stamp = stamp; act = act } ∷ []

-- the ids of the rows that a change makes, read off the tables before and after
abbrev pub ids_drawn : Tables → Tables → Option Act → Ids
ids_drawn before after None = no_ids
ids_drawn before after (Some act) = new_ids before after

-- no read is stale
abbrev pub IsFresh : BookValue → Attempt → Type 0
IsFresh b attempt = first_stale b.opening.tables b.log attempt.reads ≡ None

-- an act is taken at a stamp: its entry, if there is one, ends the log, and the stamp is the latest
pub record Taken (old new : BookValue) (caller number stamp : ℕ) (act : Option Act) (drawn : Drawn) : Type 0 where
  pub room : IsSome act → length old.log < old.opening.limit
  pub stamp_is : drawn.stamp ≡ stamp
  pub book : new ≡ record {
    opening = old.opening;
    log = old.log ++ made caller number stamp act;
    latest = stamp;
  }
  pub front : drawn.front ≡ length new.log
  pub ids : drawn.ids ≡ ids_drawn (tables_of old) (tables_of new) act

-- an attempt is accepted at the larger of the latest stamp and its moment
pub record Accepted (old new : BookValue) (caller number : ℕ) (attempt : Attempt) (drawn : Drawn) : Type 0 where
  pub fresh : IsFresh old attempt
  pub taken : Taken old new caller number (max old.latest attempt.moment) attempt.act drawn

-- a change is refused though no read is stale, and the book stays
pub record NotTaken (old new : BookValue) (attempt : Attempt) : Type 0 where
  pub fresh : IsFresh old attempt
  pub changes : IsSome attempt.act
  pub same : new ≡ old

-- the first stale read is named, and the book stays
pub record WasStale (old new : BookValue) (attempt : Attempt) (conflict : Conflict) : Type 0 where
  pub first : first_stale old.opening.tables old.log attempt.reads ≡ Some conflict
  pub overtaken : IsOvertaken old.opening.tables old.log conflict
  pub same : new ≡ old

-- Stale comes first; then Full, then Memory, for a change alone; else Done
abbrev pub SettledAs : BookValue → BookValue → ℕ → ℕ → Attempt → Settle → Type 0
SettledAs old new caller number attempt (Done drawn) = Accepted old new caller number attempt drawn
SettledAs old new caller number attempt (Stale conflict) = WasStale old new attempt conflict
SettledAs old new caller number attempt (Full size) =
    NotTaken old new attempt × (size ≡ length old.log) × (size ≡ old.opening.limit)
SettledAs old new caller number attempt Memory =
    NotTaken old new attempt × (length old.log < old.opening.limit)

-- an attempt without stale reads is taken, at this stamp and with this act, or there is no memory for it
abbrev pub TakenAs : BookValue → BookValue → ℕ → ℕ → ℕ → Option Act → Settle → Type 0
TakenAs old new caller number stamp act (Done drawn) = Taken old new caller number stamp act drawn
TakenAs old new caller number stamp act (Stale conflict) = ⊥
TakenAs old new caller number stamp act (Full size) = ⊥
TakenAs old new caller number stamp act Memory =
    (new ≡ old) × IsSome act × (length old.log < old.opening.limit)
