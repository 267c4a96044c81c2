use Rattle.std.proofs.Common.{◌≡◌, ◌+◌, Bool, true, false, length, refl, sym, ◌∙◌, subst}
use Rattle.std.specs.Bool.{OnTrue}
use Rattle.shop_history.specs.declared.keys.Key.{Key}
use Rattle.shop_book.specs.declared.versions.Versions.{Versions}
use Rattle.shop_book.specs.Stored.{stored, HasRoomFor}
use Rattle.shop_book.proofs.Fitting.{HasRoomUntil, room_more}
use Rattle.shop_book.proofs.Grid.{stored_same, apart_same}
use Rattle.shop_book.proofs.Placed.{then_more}
use Rattle.shop_book.proofs.versions.Versions.make_room.Goals as goal
use Rattle.shop_book.proofs.versions.Versions.make_room.Goals.{After-reserve-2, then-make_room_for, else-make_room_for}

on_true : {A B : Type 0} (b : Bool) → (A → B) → OnTrue b A → OnTrue b B
on_true true f a = f a
on_true false f a = tt

pub loop-put-preserved : goal.loop-put-preserved
loop-put-preserved c = record {
  same = λ key. c.make_room_for.ensures.same key ∙ c.loop-put.invariant.same key;
  longer = then_more c.loop-put.invariant.longer c.make_room_for.ensures.places;
  room =
      let until = HasRoomUntil c.make_room_for.new.self c.args.rows.now c.args.puts.now (c.loop-put.put-index + 1) in
      elim c.if-make_room_for.branch [
        | then-make_room_for w ↦
            subst (λ b. OnTrue b until) (sym w.rooms-is)
            (on_true c.loop-put.rooms
            (room_more c.loop-put.self c.make_room_for.new.self c.args.rows.now c.args.puts.now c.loop-put.put-index c.put-item.result c.loop-put-test.true c.put-item.is c.make_room_for.ensures.places
            (subst (λ b. OnTrue b (HasRoomFor c.make_room_for.new.self c.args.rows.now (length c.args.puts.now) c.put-item.result)) w.if-make_room_for.true c.make_room_for.ensures.room))
            c.loop-put.invariant.room)
        | else-make_room_for w ↦ subst (λ b. OnTrue b until) (sym (w.rooms-is ∙ w.if-make_room_for.false)) tt
      ];
}

-- room for keys that are texts leaves each version
kept : (c : After-reserve-2) (k : Key) → stored (record { columns = c.loop-put.self.columns; names = c.reserve.new.self; said = c.reserve-2.new.self; added = c.loop-put.self.added }) k ≡ stored c.args.self.now k
kept c k =
    let new : Versions = record { columns = c.loop-put.self.columns; names = c.reserve.new.self; said = c.reserve-2.new.self; added = c.loop-put.self.added } in
    stored_same c.loop-put.self new k (λ place is. refl)
    (apart_same c.loop-put.self new k refl (λ user is. c.reserve.ensures.entries.2 user) (λ text is. c.reserve-2.ensures.entries.2 text))
    ∙ c.loop-put.invariant.same k

pub returns-then-names-clause-same : goal.returns-then-names-clause-same
returns-then-names-clause-same c = kept (goal.at.returns-then-names-clause-same c).After-reserve-2

pub returns-else-names-clause-same : goal.returns-else-names-clause-same
returns-else-names-clause-same c = kept (goal.at.returns-else-names-clause-same c).After-reserve-2
