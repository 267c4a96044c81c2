-- What is seen of a listener, and how it changes as links come and go.
use Rattle.std.specs.Prelude.{◌≡◌, ℕ, ◌≤◌, List, [], ◌∷◌, ◌++◌, Option, option_map}
use Rattle.shop_edges.specs.Causes.{count_up}
use Rattle.shop_edges.specs.Links.{Links, Returned, got_back}
use Rattle.shop_edges.specs.declared.listener.Listener as listener

-- its links, where they are known, and its counts
pub record Listening (I O : Type 0) : Type 0 where
  pub links : Option (Links I O)
  pub faults : ℕ
  pub accepted : ℕ
  pub dialled : ℕ

abbrev pub seen_by : {L I O : Type 0} → (L → Option (Links I O)) → (L → ℕ) → (L → ℕ) → (L → ℕ) → L → Listening I O
seen_by links faults accepted dialled listener =
    record { links = links listener; faults = faults listener; accepted = accepted listener; dialled = dialled listener }

-- the same by its meanings
abbrev pub listening : {L I O : Type 0} → listener.Ghosts L I O → L → Listening I O
listening by listener = seen_by by.links by.faults by.accepted by.dialled listener

-- so many more links were given
abbrev pub gave_more : {I O : Type 0} → List (I × O) → Links I O → Links I O
gave_more pairs l = record l { given = l.given ++ pairs }

-- this link was accepted
pub record Gave {I O : Type 0} (pair : I × O) (before after : Listening I O) : Type 0 where
  pub links : after.links ≡ option_map (gave_more (pair ∷ [])) before.links
  pub later : before.faults ≤ after.faults
  pub accepted : after.accepted ≡ count_up before.accepted
  pub dialled : after.dialled ≡ before.dialled

-- no link was accepted
pub record GaveNone {I O : Type 0} (before after : Listening I O) : Type 0 where
  pub links : after.links ≡ option_map (gave_more []) before.links
  pub later : before.faults ≤ after.faults
  pub accepted : after.accepted ≡ before.accepted
  pub dialled : after.dialled ≡ before.dialled

-- a link came back
pub record TookBack {I O : Type 0} (returned : Returned I O) (before after : Listening I O) : Type 0 where
  pub links : after.links ≡ option_map (got_back returned) before.links
  pub later : before.faults ≤ after.faults
  pub accepted : after.accepted ≡ before.accepted
  pub dialled : after.dialled ≡ before.dialled
