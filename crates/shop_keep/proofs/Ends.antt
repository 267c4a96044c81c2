-- A kept connection that ends behind a message.
use Rattle.std.proofs.Common.{ℕ, ◌<◌, inl, inr, List, length, refl, sym, subst}
use Rattle.std.specs.declared.option.Option.{Option}
use Rattle.shop_disk.specs.DiskStates.{DiskState}
use Rattle.shop_message.specs.declared.messages.Message.{Message}
use Rattle.shop_message.specs.Nexts.{GivesMessage}
use Rattle.shop_engine.specs.declared.report.Point.{Point}
use Rattle.shop_engine.specs.Connections.{SoFar, turn_behind}
use Rattle.shop_engine.specs.Served.{Streams}
use Rattle.shop_engine.specs.Workers.{Standing}
use Rattle.shop_engine.proofs.cited.Served.{Served-message}
use Rattle.shop_keep.specs.declared.kept.KeptEnd.{KeptEnd}
use Rattle.shop_keep.specs.declared.kept.KeptEnd.TheVariants as kept_end
use Rattle.shop_keep.specs.declared.connection.Turned.TheVariants as turned
use Rattle.shop_keep.specs.Appends.{KeepsLog}
use Rattle.shop_keep.specs.Kept.{KeptTo, Withheld}
use Rattle.shop_keep.specs.Turns.{IsWithheld, TurnedAs}
use Rattle.shop_keep.proofs.Appending.{begins_then, keeps_then}

module _ {D : Type 0} (state : D → DiskState) (first journal disk : D) (old now next : Standing) (streams streams' : Streams) (unread rest : List ℕ) (points points' : List Point)
    (message : Message) (left' held' : Option (List ℕ)) (so_far : SoFar old now streams streams' unread points) (few : length points < 1000)
    (gives : GivesMessage streams'.left left' unread rest message) (keeps : KeepsLog (state first) (state journal) old.seat.seen now.seat.seen) where
  abbrev withheld_of : IsWithheld (turn_behind points message) now next (record { points = points; held = streams'.held }) (record { points = points'; held = held' })
      → Withheld old next streams (record { left = left'; held = held' }) points'
  withheld_of w = record {
    mid = now;
    left = streams'.left;
    unread = unread;
    before = points;
    so_far = subst (λ (held : Option (List ℕ)). SoFar old now streams (record { left = streams'.left; held = held }) unread points) (sym w.held) so_far;
    entries = keeps.entries;
    grew = keeps.grew;
    message = message;
    rest = rest;
    gives = gives;
    step = w.step;
    adds = w.adds;
    entry = w.entry;
    made = w.made;
  }

  pub ends_as : (end : KeptEnd)
      → TurnedAs state (turn_behind points message) now next (record { points = points; held = streams'.held }) (record { points = points'; held = held' }) journal (turned.Ends disk end)
      → KeptTo old next streams (record { left = left'; held = held' }) (state first) (state disk) points' end
  ends_as (kept_end.Ended how) (inl (is, more)) =
      inl (Served-message how old now next streams streams' unread rest points points' message _ left' held' so_far few refl gives is, keeps_then _ _ _ _ _ _ keeps more)
  ends_as (kept_end.Ended how) (inr (memory, w, same)) = inr (memory, (withheld_of w, rw same keeps.kept))
  ends_as kept_end.DiskFault (w, begins) = (withheld_of w, begins_then _ _ _ keeps.entries w.entry keeps.kept begins)
