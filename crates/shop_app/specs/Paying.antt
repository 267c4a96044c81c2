-- What the command `gateway` does.
use Rattle.std.specs.Prelude.{◌≡◌, ℕ, []}
use Rattle.shop_edges.specs.Causes.{Rose}
use Rattle.shop_edges.specs.declared.sink.Sink as sink
use Rattle.shop_edges.specs.declared.source.Source as source
use Rattle.shop_engine.specs.Served.{Streams}
use Rattle.shop_gateway.specs.declared.served.Served.{Served}
use Rattle.shop_gateway.specs.declared.served.Served.TheVariants as ends
use Rattle.shop_gateway.specs.Emulators.{EmulatorValue}
use Rattle.shop_gateway.specs.Services.{Serves, streams}
use Rattle.shop_app.specs.declared.status.Status.{Status}
use Rattle.shop_app.specs.declared.status.Status.TheVariants as status
use Rattle.shop_app.specs.Outside.{Run}

-- the status of a gateway that ended so
abbrev pub status_of_lines : Served → Status
status_of_lines ends.Closed = status.Done
status_of_lines ends.Cut = status.Unserved
status_of_lines ends.TooLong = status.Unserved
status_of_lines ends.ReadFault = status.ReadFault
status_of_lines ends.WriteFault = status.WriteFault
status_of_lines ends.Memory = status.Memory

-- the lines that came were decided by a ledger that was empty at first, and answered
pub record Pays (old new : Streams) (reads reads' writes writes' : ℕ) (outcome : Status) : Type 0 where
  pub emulator : EmulatorValue
  pub end : Served
  pub serves : Serves record { ledger = []; answers = [] } emulator (streams old.left old.held) (streams new.left new.held) end
  pub status_is : outcome ≡ status_of_lines end
  pub read_fault : end ≡ ends.ReadFault → Rose reads reads'
  pub write_fault : end ≡ ends.WriteFault → Rose writes writes'

-- the same by the meanings of a source and a sink
abbrev pub PaysBy : {S K : Type 0} → source.Ghosts S × sink.Ghosts K → S × K → S × K → Status → Type 0
PaysBy (s, k) (source, sink) (source', sink') outcome =
    Pays record { left = s.left source; held = k.held sink } record { left = s.left source'; held = k.held sink' } (s.faults source) (s.faults source') (k.faults sink) (k.faults sink') outcome

-- a gateway's run looks at neither the clock nor the gateway of the shop
pub record IsPaying (old new : Run) (outcome : Status) : Type 0 where
  pub pays : Pays old.streams new.streams old.reads new.reads old.writes new.writes outcome
  pub outside : new.outside ≡ old.outside
