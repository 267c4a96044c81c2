-- What a worker does with a connection, by the meanings of its store, of the streams, its clock and its gateway.
use Rattle.shop_attempt.specs.declared.store.Store as store
use Rattle.shop_edges.specs.declared.clock.Clock as clock
use Rattle.shop_edges.specs.declared.gateway.Gateway as gateway
use Rattle.shop_edges.specs.declared.sink.Sink as sink
use Rattle.shop_edges.specs.declared.source.Source as source
use Rattle.shop_engine.specs.declared.report.Report.{Report}
use Rattle.shop_engine.specs.Served.{Served}
use Rattle.shop_engine.specs.Workers.{WorkerState, standing}

-- it served one, and left this report
abbrev pub ServedBy : {St S K C G : Type 0} → store.Ghosts St → source.Ghosts S → sink.Ghosts K → clock.Ghosts C → gateway.Ghosts G
    → WorkerState St → S → K → C → G → WorkerState St → S → K → C → G → Report → Type 0
ServedBy st s k c g worker source sink clock gateway worker' source' sink' clock' gateway' report =
    Served (standing st.seat worker (c.readings clock) (g.answers gateway)) (standing st.seat worker' (c.readings clock') (g.answers gateway'))
    (record { left = s.left source; held = k.held sink }) (record { left = s.left source'; held = k.held sink' }) report.end report.points
