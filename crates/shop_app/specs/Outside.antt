-- What a run has of the world outside, as far as it is known.
use Rattle.std.specs.Prelude.{ℕ, List, Option}
use Rattle.shop_edges.specs.declared.clock.Clock as clock
use Rattle.shop_edges.specs.declared.gateway.Gateway as gateway
use Rattle.shop_edges.specs.declared.sink.Sink as sink
use Rattle.shop_edges.specs.declared.source.Source as source
use Rattle.shop_edges.specs.declared.gateway.Answer.{Answer}
use Rattle.shop_engine.specs.Served.{Streams}

-- what the clock will read, what the gateway told, and how often that failed
pub record Outside : Type 0 where
  pub clock : Option (List ℕ)
  pub told : Option (List Answer)
  pub failures : ℕ

abbrev pub outside : {C G : Type 0} → clock.Ghosts C → gateway.Ghosts G → C → G → Outside
outside c g clock gateway = record { clock = c.readings clock; told = g.answers gateway; failures = g.faults gateway }

-- its streams too, and how often the source and the sink have failed
pub record Run : Type 0 where
  pub streams : Streams
  pub outside : Outside
  pub reads : ℕ
  pub writes : ℕ

-- the meanings of a source, a sink, a clock and a gateway
abbrev pub Meanings : Type 0 → Type 0 → Type 0 → Type 0 → Type 1
Meanings S K C G = source.Ghosts S × sink.Ghosts K × clock.Ghosts C × gateway.Ghosts G

abbrev pub run_of : {S K C G : Type 0} → Meanings S K C G → S × K × C × G → Run
run_of (s, k, c, g) (source, sink, clock, gateway) = record {
  streams = record { left = s.left source; held = k.held sink };
  outside = outside c g clock gateway;
  reads = s.faults source;
  writes = k.faults sink;
}
