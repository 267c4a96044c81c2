-- A polled source in memory, as its callers see it.
use Rattle.shop_edges.specs.Pieces.{Pieces}
use Rattle.shop_polled.specs.Pieces.{Polled}
use Rattle.shop_polled.specs.declared.bytes_in.PolledBytesIn.TheInside.{Inside}

abbrev pub pieces_of : Inside → Polled Pieces
pieces_of s = record { stream = s.bytes; waits = s.waits; polls = s.polls; put_off = s.put_off }
