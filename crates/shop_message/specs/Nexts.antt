-- What reading up to the next message does to the source and to the bytes that are held.
use Rattle.std.specs.Prelude.{ℕ, ◌⊎◌, List, ◌++◌, Option}
use Rattle.std.specs.Io.KnownBytes.{Consumes, IsAtEnd}
use Rattle.shop_message.specs.declared.messages.Message.{Message}
use Rattle.shop_message.specs.declared.messages.Next.{Next}
use Rattle.shop_message.specs.declared.messages.Next.TheVariants as next
use Rattle.shop_message.specs.Messages.{IsFirst, Stop, Between, Inside, Refusing, StopsAt, StandsFor}

-- the source gave a piece, and what is held now stands for all the bytes at a message's place
pub record Gathers (left left' : Option (List ℕ)) (before after : List ℕ) : Type 0 where
  pub piece : List ℕ
  pub taken : Consumes left left' piece
  pub same : StandsFor (before ++ piece) after

-- the source gave a piece, and the first message of all the bytes is this
pub record GivesMessage (left left' : Option (List ℕ)) (before after : List ℕ) (message : Message) : Type 0 where
  pub piece : List ℕ
  pub taken : Consumes left left' piece
  pub first : (more : List ℕ) → IsFirst (before ++ piece ++ more) message (after ++ more)

-- the source has nothing left, but where a message was refused
abbrev pub IsDrained : Stop → Option (List ℕ) → Type 0
IsDrained Between left = IsAtEnd left
IsDrained Inside left = IsAtEnd left
IsDrained (Refusing refusal) left = Unit {0}

-- what is held stands for all the bytes, and these have no message but stop so
pub record Stops (left left' : Option (List ℕ)) (before after : List ℕ) (stop : Stop) : Type 0 where
  pub gathers : Gathers left left' before after
  pub none : StopsAt (before ++ gathers.piece) stop
  pub ended : IsDrained stop left'

-- the source failed: nothing of what came is lost, and it is no message yet
pub record Breaks (left left' : Option (List ℕ)) (before after : List ℕ) : Type 0 where
  pub gathers : Gathers left left' before after
  pub none : StopsAt (before ++ gathers.piece) Between ⊎ StopsAt (before ++ gathers.piece) Inside

-- what comes next; where memory runs out nothing that came is lost either, and the call may be made again
abbrev pub IsNext : Option (List ℕ) → Option (List ℕ) → List ℕ → List ℕ → Next → Type 0
IsNext left left' before after (next.Message message) = GivesMessage left left' before after message
IsNext left left' before after next.End = Stops left left' before after Between
IsNext left left' before after next.Cut = Stops left left' before after Inside
IsNext left left' before after (next.Bad refusal) = Stops left left' before after (Refusing refusal)
IsNext left left' before after next.ReadFault = Breaks left left' before after
IsNext left left' before after next.Memory = Gathers left left' before after
