-- A polled sink in memory, as its callers see it.
use Rattle.shop_edges.specs.Pieces.{HeldPieces}
use Rattle.shop_polled.specs.Pieces.{Polled}
use Rattle.shop_polled.specs.declared.bytes_out.PolledBytesOut.TheInside.{Inside}

abbrev pub held_of : Inside → Polled HeldPieces
held_of s = record { stream = s.bytes; waits = s.waits; polls = s.polls; put_off = s.put_off }
