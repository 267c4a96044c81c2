use Rattle.std.proofs.Common.{◌≡◌, ◌∙◌, ◌∷◌, [], List, length, append_assoc, append-nil, sym, ap, subst, arith}
use Rattle.std.specs.Vec.Iter.{into_iter_items}
use Rattle.std.proofs.lemmas.Slice.Zip.{all_zipped_more}
use Rattle.std.proofs.lemmas.List.{nil_from_length}
use Rattle.shop_engine.specs.Workers.{WorkerState}
use Rattle.shop_turn.specs.Desks.{DeskValue}
use Rattle.shop_tasks.specs.StationValues.{StationValue}
use Rattle.shop_poll.specs.Lanes.{AreStations, IsStation}
use Rattle.shop_poll.proofs.lanes.stations_of.Goals as goal

pub loop-worker-preserved : goal.loop-worker-preserved
loop-worker-preserved g c =
    let was = c.loop-worker.invariant in
    let steps : into_iter_items c.loop-worker.worker-iterator ≡ c.in-Some.worker ∷ into_iter_items c.next.new.self = c.in-Some.ensures.steps.0 in
    let station : StationValue g.row.C.Denot g.row.S.Denot g.row.K.Denot = c.new.result in
    let is = c.new.ensures in
    record {
      can = tt;
      finite = tt;
      split = append_assoc c.loop-worker.yielded (c.in-Some.worker ∷ []) _ ∙ rw (← steps) was.split;
      size = omega (arith, was.size, c.in-Some.ensures.steps.1, ap length steps);
      are = rw c.in_ok-push.ensures.items
          (all_zipped_more (IsStation g.C.Clock.readings (g.C.Clock.readings c.args.clock.now)) c.loop-worker.yielded c.loop-worker.stations.items c.in-Some.worker station was.are
          (record {
            worker_is = ap (λ (s : StationValue g.row.C.Denot g.row.S.Denot g.row.K.Denot). s.worker) is;
            clock_is = ap (λ (s : StationValue g.row.C.Denot g.row.S.Denot g.row.K.Denot). g.C.Clock.readings s.clock) is ∙ c.in-Some-twin.ensures;
            till_is = ap (λ (s : StationValue g.row.C.Denot g.row.S.Denot g.row.K.Denot). s.till) is;
          }));
    }

pub returns : goal.returns
returns g c =
    let was = c.loop-worker.invariant in
    let empty : into_iter_items c.loop-worker.worker-iterator ≡ [] = nil_from_length _ (sym was.size ∙ c.in-None.ensures.steps.0) in
    let whole : c.loop-worker.yielded ≡ c.args.workers.items = sym (append-nil c.loop-worker.yielded) ∙ rw empty at was.split ∙ c.into_iter-worker-iterator.ensures.into_iter_gives.0 in
    subst (λ (workers : List (WorkerState DeskValue)). AreStations g.C.Clock.readings (g.C.Clock.readings c.args.clock.now) workers c.loop-worker.stations.items) whole was.are
