-- What a settle answers, and what it leaves.
use Rattle.std.specs.Prelude.{◌≡◌, ℕ, ◌<◌, ◌≤◌, max, List, [], ◌∷◌, ◌++◌, length, Option, Some, None, IsSome}
use Rattle.shop_log.specs.Histories.{Extends}
use Rattle.shop_history.specs.declared.acts.Act.{Act}
use Rattle.shop_history.specs.declared.acts.Drawn.{Drawn}
use Rattle.shop_history.specs.declared.acts.Entry.{Entry}
use Rattle.shop_history.specs.Drawing.{no_ids, new_ids}
use Rattle.shop_history.specs.Logs.{tables, entries_of}
use Rattle.shop_attempt.specs.declared.attempts.Attempt.{Attempt}
use Rattle.shop_attempt.specs.declared.attempts.Settle.{Settle}
use Rattle.shop_attempt.specs.declared.attempts.Settle.TheVariants.{Done, Stale, Full, Memory}
use Rattle.shop_attempt.specs.Reads.{first_stale}
use Rattle.shop_attempt.specs.Seats.{Seat}

-- the log that a settle found: what was seen, and entries of other callers behind it
pub record Found (old : Seat) (found : List Entry) : Type 0 where
  pub grows : Extends old.seen found
  pub mine : entries_of old.caller found ≡ entries_of old.caller old.seen
  pub alone : IsSome old.latest → found ≡ old.seen

-- the larger of a stamp, where it is told, and a moment
abbrev pub raised : Option ℕ → ℕ → Option ℕ
raised None moment = None
raised (Some stamp) moment = Some (max stamp moment)

-- a refusal changes nothing but what was seen
pub record Refused (old new : Seat) : Type 0 where
  pub found : Found old new.seen
  pub own : new.own ≡ old.own
  pub greatest : new.greatest ≡ old.greatest
  pub latest : new.latest ≡ old.latest

-- what every accepted settle does: no read was stale in the log found, and the stamp is no less than
-- the moment, and, where the latest stamp is told, it is the latest now
pub record Accepted (old new : Seat) (found : List Entry) (attempt : Attempt) (drawn : Drawn) : Type 0 where
  pub is_found : Found old found
  pub fresh : first_stale new.opening found attempt.reads ≡ None
  pub front : drawn.front ≡ length new.seen
  pub moment : attempt.moment ≤ drawn.stamp
  pub told : IsSome old.latest → new.latest ≡ Some drawn.stamp
  pub latest : new.latest ≡ raised old.latest attempt.moment
  pub greatest : new.greatest ≡ max old.greatest attempt.moment

-- a settle that changes nothing was accepted
pub record Confirmed (old new : Seat) (attempt : Attempt) (drawn : Drawn) : Type 0 where
  pub accepted : Accepted old new new.seen attempt drawn
  pub own : new.own ≡ old.own
  pub ids : drawn.ids ≡ no_ids

-- a change was accepted: one entry of the caller stands behind the log found
pub record Added (old new : Seat) (attempt : Attempt) (act : Act) (drawn : Drawn) : Type 0 where
  pub before : List Entry
  pub entry : Entry
  pub accepted : Accepted old new before attempt drawn
  pub seen : new.seen ≡ before ++ entry ∷ []
  pub own : new.own ≡ old.own ++ entry ∷ []
  pub room : length before < new.limit
  pub caller : entry.caller ≡ new.caller
  pub does : entry.act ≡ act
  pub stamp : entry.stamp ≡ drawn.stamp
  pub ids : drawn.ids ≡ new_ids (tables new.opening before) (tables new.opening new.seen)

abbrev pub DoneAs : Seat → Seat → Attempt → Option Act → Drawn → Type 0
DoneAs old new attempt None drawn = Confirmed old new attempt drawn
DoneAs old new attempt (Some act) drawn = Added old new attempt act drawn

-- a change was refused though no read was stale in the log found
pub record NotTaken (old new : Seat) (attempt : Attempt) : Type 0 where
  pub refused : Refused old new
  pub fresh : first_stale new.opening new.seen attempt.reads ≡ None
  pub changes : IsSome attempt.act

-- Stale comes first, with the first stale read; then Full, then Memory, for a change alone; else Done
abbrev pub SettledAs : Seat → Seat → Attempt → Settle → Type 0
SettledAs old new attempt (Done drawn) = DoneAs old new attempt attempt.act drawn
SettledAs old new attempt (Stale conflict) =
    Refused old new × (first_stale new.opening new.seen attempt.reads ≡ Some conflict)
SettledAs old new attempt (Full size) =
    NotTaken old new attempt × (size ≡ length new.seen) × (size ≡ new.limit)
SettledAs old new attempt Memory = NotTaken old new attempt × (length new.seen < new.limit)
