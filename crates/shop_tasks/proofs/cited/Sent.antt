-- A station crosses threads: so does its worker between two connections, and so do its clock and its till.
use denote.RattleType.{RattleType}
use denote.Param.Send.{IsSend, view_send, sendable}
use denote.Param.SendFields.{as_row_send, declared_send}
use denote.Struct.Field.{row_field}
use Rattle.std.proofs.alloc.Global.TheSendSync as heap
use Rattle.std.specs.contracts.alloc.Global.{the_field as heap_field}
use Rattle.std.proofs.option.Option.TheSendSync as option
use Rattle.std.specs.declared.sync.Wait as wait
use Rattle.shop_edges.specs.declared.clock.Clock as clock
use Rattle.shop_edges.specs.declared.sink.Sink as sink
use Rattle.shop_edges.specs.declared.source.Source as source
use Rattle.shop_turn.proofs.desk.Desk.TheSendSync as desk
use Rattle.shop_turn.specs.contracts.desk.Desk.{the_row as desk_row}
use Rattle.shop_engine.proofs.resting.Resting.TheSendSync as resting
use Rattle.shop_tasks.proofs.till.Till.TheSendSync as till
use Rattle.shop_tasks.specs.contracts.station.Station.{the_row}
use Rattle.shop_tasks.specs.contracts.station.Station.TheInside as inside

pub station_sent : (R I O C : RattleType) (w : wait.Ghosts R.Denot) (i : source.Ghosts I.Denot) (o : sink.Ghosts O.Denot) (c : clock.Ghosts C.Denot)
    → IsSend R → IsSend I → IsSend O → IsSend C → IsSend (the_row R I O C w i o c)
station_sent R I O C w i o c sent_R sent_I sent_O sent_C =
    let desk_sent : IsSend (desk_row R) = desk.the_send R sent_R in
    view_send _ _ _ _ _ (declared_send (inside.the_type R I O C w i o c) (as_row_send heap_field heap.the_field_send, (option.the_send _ (resting.the_send _ _ desk_sent), (search sendable, (as_row_send (row_field C) sent_C, (till.the_send I O i o sent_I sent_O, tt))))))
