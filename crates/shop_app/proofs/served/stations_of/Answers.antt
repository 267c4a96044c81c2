use Rattle.std.proofs.Common.{rules, ◌≡◌, ◌∙◌, refl, ◌+◌, ◌++◌, ◌∷◌, [], List, length, length-append, append_assoc, append-nil, sym, ap, subst, arith}
use Rattle.std.specs.Vec.Iter.{into_iter_items}
use Rattle.std.proofs.lemmas.Slice.Zip.{all_zipped_more}
use Rattle.std.proofs.lemmas.List.{nil_from_length}
use Rattle.shop_attempt.specs.Seats.{IsSeat}
use Rattle.shop_places.specs.Listening.{Listening, listening}
use Rattle.shop_turn.specs.Desks.{DeskValue, seat_of}
use Rattle.shop_tasks.specs.Serves.{Meanings}
use Rattle.shop_app.specs.Serving.{AreFirstStations, Dials, IsFirstStation, dials}
use Rattle.shop_app.proofs.cited.NewShops.{holds_next, next_desk, posted_at}
use Rattle.shop_app.proofs.Dialled.{dials_more, dials_none}
use Rattle.shop_app.proofs.served.stations_of.Goals as goal

pub station_at-requires : goal.station_at-requires
station_at-requires g c =
    let was = c.loop-desk.invariant in
    let steps : into_iter_items c.loop-desk.desk-iterator ≡ c.in-Some.desk ∷ into_iter_items c.next.new.self = c.in-Some.ensures.steps.0 in
    let split : c.loop-desk.yielded ++ c.in-Some.desk ∷ into_iter_items c.next.new.self ≡ c.args.desks.items = rw (← steps) was.split ∙ c.into_iter-desk-iterator.ensures.into_iter_gives.0 in
    let desk = next_desk c.args.asked.now.shop _ c.loop-desk.yielded c.in-Some.desk _ _ c.requires.desks split in
    record {
      posted = rw (was.number) (posted_at c.args.asked.now.shop _ (length c.loop-desk.yielded + 1) c.requires.desks.table c.in-Some.desk _ desk (c.in-Ok.ensures ∙ c.requires.index)
          (holds_next (λ (d : DeskValue). IsSeat (seat_of d)) c.loop-desk.yielded c.in-Some.desk _ _ split c.requires.desks.valid));
    }

pub loop-desk-init : goal.loop-desk-init
loop-desk-init g c = record {
  can = tt;
  finite = tt;
  split = refl;
  size = search rules;
  number = refl;
  are = rw c.new-stations.ensures.items tt;
  dials = dials_none c.args.asked.now.gateway (listening g.L.Listener c.args.listener.now);
}

pub loop-desk-preserved : goal.loop-desk-preserved
loop-desk-preserved g c =
    let by : Meanings g.row.C.Denot g.row.I.Denot g.row.O.Denot = (g.C.Clock, g.I.Source, g.O.Sink) in
    let was = c.loop-desk.invariant in
    let yielded = c.loop-desk.yielded in
    let seen : g.row.L.Denot → Listening g.row.I.Denot g.row.O.Denot = listening g.L.Listener in
    let steps : into_iter_items c.loop-desk.desk-iterator ≡ c.in-Some.desk ∷ into_iter_items c.next.new.self = c.in-Some.ensures.steps.0 in
    record {
      can = tt;
      finite = tt;
      split = append_assoc yielded (c.in-Some.desk ∷ []) _ ∙ rw (← steps) was.split;
      size = omega (arith, was.size, c.in-Some.ensures.steps.1, ap length steps);
      number = omega (arith, was.number, length-append yielded (c.in-Some.desk ∷ []));
      are = rw c.in-Ok-push.ensures.items
          (all_zipped_more (IsFirstStation by c.args.asked.now (g.C.Clock.readings c.args.clock.now)) yielded c.loop-desk.stations.items c.in-Some.desk c.in_ok-station.station was.are c.in_ok-station.ensures.ok);
      dials = dials_more c.args.asked.now.gateway (length yielded) (length (yielded ++ c.in-Some.desk ∷ [])) (seen c.args.listener.now) (seen c.loop-desk.listener) (seen c.station_at.new.listener)
          (length-append yielded (c.in-Some.desk ∷ [])) was.dials c.in_ok-station.ensures.dials;
    }

pub returns : goal.returns
returns g c =
    let by : Meanings g.row.C.Denot g.row.I.Denot g.row.O.Denot = (g.C.Clock, g.I.Source, g.O.Sink) in
    let seen : g.row.L.Denot → Listening g.row.I.Denot g.row.O.Denot = listening g.L.Listener in
    let was = c.loop-desk.invariant in
    let empty : into_iter_items c.loop-desk.desk-iterator ≡ [] = nil_from_length _ (sym was.size ∙ c.in-None.ensures.steps.0) in
    let whole : c.loop-desk.yielded ≡ c.args.desks.items = sym (append-nil c.loop-desk.yielded) ∙ rw empty at was.split ∙ c.into_iter-desk-iterator.ensures.into_iter_gives.0 in
    record {
      ok = subst (λ (desks : List DeskValue). AreFirstStations by c.args.asked.now (g.C.Clock.readings c.args.clock.now) desks c.loop-desk.stations.items) whole was.are;
      dials = subst (λ (desks : List DeskValue). Dials (dials c.args.asked.now.gateway (length desks)) (seen c.args.listener.now) (seen c.loop-desk.listener)) whole was.dials;
      err = tt;
    }
