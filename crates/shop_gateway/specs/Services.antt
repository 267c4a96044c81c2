-- What a gateway that serves lines has read, decided and written where it ends.
use Rattle.std.specs.Prelude.{◌≡◌, ℕ, ◌<◌, ◌⊎◌, List, [], ◌∷◌, ◌++◌, length, take, Option, Some}
use Rattle.std.specs.Io.KnownBytes.{Consumes, Appends, IsAtEnd}
use Rattle.shop_edges.specs.Charges.{ChargeValue}
use Rattle.shop_edges.specs.Streams.{AppendsFront}
use Rattle.shop_gateway.specs.declared.served.Served.{Served}
use Rattle.shop_gateway.specs.declared.served.Served.TheVariants as ends
use Rattle.shop_gateway.specs.declared.served.Told.{Told}
use Rattle.shop_gateway.specs.declared.served.Told.TheVariants as told
use Rattle.shop_gateway.specs.Emulators.{EmulatorValue}
use Rattle.shop_gateway.specs.Lines.{IsLine, IsOpen, IsLong, Lines, EndsOpen}
use Rattle.shop_gateway.specs.Protocol.{bad, charge_asked, ended, reply_line, replies, after_line, after_lines}

-- the reply to a line, and its line feed
abbrev pub reply : EmulatorValue → List ℕ → List ℕ
reply old line = ended (reply_line old.ledger line)

-- ---- one line

-- a line asks for a charge
pub record Asks (line : List ℕ) : Type 0 where
  pub charge : ChargeValue
  pub asked : charge_asked line ≡ Some charge

-- a line is decided, and its reply written, or a front of it; memory runs out only at one that asks for a charge, and
-- before anything is changed or written
abbrev pub IsTold : EmulatorValue → EmulatorValue → Option (List ℕ) → Option (List ℕ) → List ℕ → Told → Type 0
IsTold old new held held' line told.Whole = (new ≡ after_line old line) × Appends held held' (reply old line)
IsTold old new held held' line told.Broken = (new ≡ after_line old line) × AppendsFront held held' (reply old line)
IsTold old new held held' line told.Memory = Asks line × (new ≡ old) × Appends held held' []

-- the reply to a line that is decided is written, or a front of it
abbrev pub IsWritten : Option (List ℕ) → Option (List ℕ) → List ℕ → Told → Type 0
IsWritten held held' reply told.Whole = Appends held held' reply
IsWritten held held' reply told.Broken = AppendsFront held held' reply
IsWritten held held' reply told.Memory = ⊥

-- ---- many lines

-- what a source has left and a sink holds, where known
pub record Streams : Type 0 where
  pub left : Option (List ℕ)
  pub held : Option (List ℕ)

abbrev pub streams : Option (List ℕ) → Option (List ℕ) → Streams
streams left held = record { left = left; held = held }

-- the source gave bytes that begin with these lines, and this rest follows them
pub record Reads (left left' : Option (List ℕ)) (lines : List (List ℕ)) (rest : List ℕ) : Type 0 where
  pub given : List ℕ
  pub taken : Consumes left left' given
  pub are : Lines given lines rest

-- the replies to the lines are written, but of the last one a byte is missing: it is to the last line, or to one behind
-- them that is too long
pub record CutsLast (old : EmulatorValue) (held held' : Option (List ℕ)) (lines : List (List ℕ)) (rest : List ℕ) : Type 0 where
  pub whole : List (List ℕ)
  pub last : List ℕ
  pub count : ℕ
  pub within : count < length last
  pub written : Appends held held' (replies old whole ++ take count last)
  pub is : ((line : List ℕ) × (lines ≡ whole ++ line ∷ []) × (last ≡ reply (after_lines old whole) line)) ⊎ ((lines ≡ whole) × IsLong rest × (last ≡ ended bad))

-- a line that asks for a charge comes next
pub record AsksNext (rest : List ℕ) : Type 0 where
  pub line : List ℕ
  pub after : List ℕ
  pub is : IsLine rest line after
  pub asks : Asks line

-- why it ended, by what follows the lines that were decided, and what was written
abbrev pub Ends : EmulatorValue → Streams → Streams → List (List ℕ) → List ℕ → Served → Type 0
Ends old at at' lines rest ends.Closed = IsAtEnd at'.left × (rest ≡ []) × Appends at.held at'.held (replies old lines)
Ends old at at' lines rest ends.Cut = EndsOpen at'.left rest × (0 < length rest) × Appends at.held at'.held (replies old lines)
Ends old at at' lines rest ends.TooLong = IsLong rest × Appends at.held at'.held (replies old lines ++ ended bad)
Ends old at at' lines rest ends.ReadFault = IsOpen rest × Appends at.held at'.held (replies old lines)
Ends old at at' lines rest ends.WriteFault = CutsLast old at.held at'.held lines rest
Ends old at at' lines rest ends.Memory = AsksNext rest × Appends at.held at'.held (replies old lines)

-- the first lines of all the bytes were decided in order, each by the ledger that those before it left, and so it ended
pub record Serves (old new : EmulatorValue) (at at' : Streams) (result : Served) : Type 0 where
  pub lines : List (List ℕ)
  pub rest : List ℕ
  pub reads : Reads at.left at'.left lines rest
  pub decided : new ≡ after_lines old lines
  pub ends : Ends old at at' lines rest result
