-- What the bytes that were given in pieces come to.
use Rattle.std.specs.Prelude.{◌≡◌, true, false, ℕ, List, []}
use Rattle.shop_model.specs.declared.refusal.Refusal.{Refusal}
use Rattle.shop_message.specs.declared.gather.Gathered.{Gathered}
use Rattle.shop_message.specs.declared.gather.Gathered.TheVariants as gathered
use Rattle.shop_message.specs.declared.messages.Message.{Message}
use Rattle.shop_message.specs.Gatherings.{Gathering, Waits}
use Rattle.shop_message.specs.Looks.{TakesFirst}
use Rattle.shop_message.specs.Messages.{Between, Inside, IsFirst, IsRefused, StandsFor, StopsAt, after_line_ends}

-- the first message of all the bytes, or how the messages of these stop; more is wanted where they are not the last
abbrev pub IsGathered : Gathering → Gathering → Gathered → Type 0
IsGathered old new (gathered.Message message) = TakesFirst old.held new.held message
IsGathered old new (gathered.Bad refusal) = StandsFor old.held new.held × IsRefused (after_line_ends old.held) refusal
IsGathered old new gathered.More = (old.ended ≡ false) × Waits old.held new.held
IsGathered old new gathered.End = (old.ended ≡ true) × StandsFor old.held new.held × StopsAt old.held Between
IsGathered old new gathered.Cut = (old.ended ≡ true) × StandsFor old.held new.held × StopsAt old.held Inside
IsGathered old new gathered.Memory = StandsFor old.held new.held

-- the same of bytes that decide nothing: it is told by whether they are the last, and whether there are any
abbrev pub IsUndecided : Gathering → Gathered → Type 0
IsUndecided gathering gathered.More = gathering.ended ≡ false
IsUndecided gathering gathered.End = (gathering.ended ≡ true) × (gathering.held ≡ [])
IsUndecided gathering gathered.Cut = (gathering.ended ≡ true) × ¬ (gathering.held ≡ [])
IsUndecided gathering _ = ⊥

-- where more is wanted, no message stands at the front of the bytes, and none that is refused
abbrev pub MoreIsUndecided : Type 0
MoreIsUndecided =
    (old new : Gathering) → IsGathered old new gathered.More
    → ((message : Message) (rest : List ℕ) → ¬ (IsFirst old.held message rest)) × ((refusal : Refusal) → ¬ (IsRefused (after_line_ends old.held) refusal))
