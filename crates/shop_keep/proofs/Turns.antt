-- What becomes of a message by what became of the append of what it made.
use Rattle.std.proofs.Common.{◌≡◌, ℕ, inr, List, [], ◌∷◌, length, append-nil, IsSome, Result, refl, ◌∙◌}
use Rattle.std.specs.declared.option.Option.{Option}
use Rattle.shop_disk.specs.DiskStates.{DiskState}
use Rattle.shop_history.specs.declared.acts.Entry.{Entry}
use Rattle.shop_message.specs.declared.messages.Message.{Message}
use Rattle.shop_model.specs.declared.requests.Request.{Request}
use Rattle.shop_http.specs.declared.requests.Refusal.{Refusal}
use Rattle.shop_engine.specs.declared.report.Ended.TheVariants as ended
use Rattle.shop_engine.specs.declared.report.Point.{Point}
use Rattle.shop_engine.specs.Connections.{IsMade, Made, turn_behind}
use Rattle.shop_engine.specs.Steps.{GivesUp}
use Rattle.shop_engine.specs.Workers.{Standing}
use Rattle.shop_keep.specs.declared.connection.Turned.TheVariants as turned
use Rattle.shop_keep.specs.declared.kept.KeptEnd.TheVariants as kept_end
use Rattle.shop_keep.specs.Appends.{AppendsEach, BeginsLast, IsGrown, KeepsLog}
use Rattle.shop_keep.specs.Turns.{IsWithheld, TurnedAs}
use Rattle.shop_keep.proofs.Appending.{keeps_none}
use Rattle.shop_keep.proofs.Grown.{grew_by}

-- nothing was made where memory ran out before there was an answer
pub keeps_abandoned : (disk : DiskState) (asks : Result Request Refusal) (from to : Standing) → GivesUp asks from to → IsSome from.seat.latest → KeepsLog disk disk from.seat.seen to.seat.seen
keeps_abandoned disk asks from to gave told = keeps_none disk from.seat.seen to.seat.seen (gave.stays.alone told ∙ append-nil from.seat.seen)

module _ {D : Type 0} (state : D → DiskState) (before : ℕ) (message : Message) (from to : Standing) (points : List Point) (made : Made) (held : Option (List ℕ)) (journal : D)
    (makes : IsMade (turn_behind points message) from to points made) (told : IsSome from.seat.latest) (count : before ≡ length from.seat.seen) where
  answer_grows : IsGrown before from.seat.seen to.seat.seen makes.step.made
  answer_grows = grew_by before (turn_behind points message) from to points made.points makes.step makes.adds told count

  -- what was made is on the disk
  pub answer_kept : (disk : D) → ((log made : List Entry) → IsGrown before log to.seat.seen made → AppendsEach (state journal) (state disk) made)
      → KeepsLog (state journal) (state disk) from.seat.seen to.seat.seen
  answer_kept disk noted = record { entries = makes.step.made; grew = answer_grows.grew; kept = noted from.seat.seen makes.step.made answer_grows }

  abbrev withheld : (entry : Entry) → makes.step.made ≡ entry ∷ [] → IsWithheld (turn_behind points message) from to (record { points = points; held = held }) (record { points = made.points; held = held })
  withheld entry is = record { step = makes.step; entry = entry; adds = makes.adds; made = is; held = refl }

  -- memory ran out before the append
  pub answer_withheld : (disk same : D) → disk ≡ same → ((log made : List Entry) → IsGrown before log to.seat.seen made → (entry : Entry) × (made ≡ entry ∷ []) × (same ≡ journal))
      → TurnedAs state (turn_behind points message) from to (record { points = points; held = held }) (record { points = made.points; held = held }) journal (turned.Ends disk (kept_end.Ended ended.Memory))
  answer_withheld disk same is noted =
      let note = noted from.seat.seen makes.step.made answer_grows in inr (refl, withheld note.0 note.1, is ∙ note.2)

  -- the disk failed
  pub answer_lost : (disk : D) → ((log made : List Entry) → IsGrown before log to.seat.seen made → (entry : Entry) × (made ≡ entry ∷ []) × BeginsLast (state journal) (state disk) [] entry)
      → TurnedAs state (turn_behind points message) from to (record { points = points; held = held }) (record { points = made.points; held = held }) journal (turned.Ends disk kept_end.DiskFault)
  answer_lost disk noted = let note = noted from.seat.seen makes.step.made answer_grows in (withheld note.0 note.1, note.2)
