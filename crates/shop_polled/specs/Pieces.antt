-- Streams in memory that are put off at listed polls.
use Rattle.std.specs.Prelude.{◌≡◌, ◌==◌, ℕ, Bool, true, false, List}
use Rattle.std.specs.List.{list_any}
use Rattle.futures.specs.declared.task.Poll.{Poll}
use Rattle.futures.specs.declared.task.Poll.TheVariants.{Ready, Pending}
use Rattle.shop_edges.specs.Causes.{count_up}
use Rattle.shop_edges.specs.Pieces.{GivesPiece, HeldPieces, Pieces, TakesPiece}
use Rattle.shop_edges.specs.declared.sink.Took.{Took}
use Rattle.shop_edges.specs.declared.source.Got.{Got}

-- a stream, the polls that are put off, counted from 1, and how many polls there were, and how many of them were put off
pub record Polled (P : Type 0) : Type 0 where
  pub stream : P
  pub waits : List ℕ
  pub polls : ℕ
  pub put_off : ℕ

module _ {P : Type 0} where
  -- before the first poll
  abbrev pub unpolled : P → List ℕ → Polled P
  unpolled stream waits = record { stream = stream; waits = waits; polls = 0; put_off = 0 }

  -- the next poll is listed as one that is put off
  abbrev pub is_next : Polled P → Bool
  is_next s = list_any (λ poll. poll == count_up s.polls) s.waits

  -- after a poll that left the stream so
  abbrev pub polled : Polled P → P → Polled P
  polled s stream = record { stream = stream; waits = s.waits; polls = count_up s.polls; put_off = s.put_off }

  -- after one that was put off
  abbrev pub waited : Polled P → Polled P
  waited s = record { stream = s.stream; waits = s.waits; polls = count_up s.polls; put_off = count_up s.put_off }

-- a poll is put off exactly at a listed one; any other reads a piece
abbrev pub PollsPiece : Polled Pieces → Polled Pieces → Poll Got → ℕ → Type 0
PollsPiece old new (Ready got) room = (is_next old ≡ false) × GivesPiece old.stream new.stream got room × (new ≡ polled old new.stream)
PollsPiece old new Pending room = (is_next old ≡ true) × (new ≡ waited old)

-- and so it is of a sink, which takes a piece
abbrev pub PollsTaking : Polled HeldPieces → Polled HeldPieces → Poll Took → List ℕ → Type 0
PollsTaking old new (Ready took) from = (is_next old ≡ false) × TakesPiece old.stream new.stream took from × (new ≡ polled old new.stream)
PollsTaking old new Pending from = (is_next old ≡ true) × (new ≡ waited old)
