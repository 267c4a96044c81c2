use Rattle.std.proofs.Common.{arith}
use Rattle.std.specs.Vec.Iter.{into_iter_items}
use Rattle.shop_attempt.proofs.cited.Marks.{looks_then}
use Rattle.shop_browse.proofs.DriverLemmas.{one_more}
use Rattle.shop_browse.proofs.driver.read_all.Goals as goal

pub loop-key-preserved : goal.loop-key-preserved
loop-key-preserved g c =
    let so_far = c.loop-key.invariant in
    record {
      looks = looks_then so_far.looks c.read_one.ensures.looks;
      reads =
          one_more (g.St.Store.seat c.args.store.now) (g.St.Store.seat c.loop-key.store) (g.St.Store.seat c.read_one.new.store) c.args.keys
          (into_iter_items c.loop-key.key-iterator) (into_iter_items c.next.new.self) c.in-Some.key c.args.reads.now.items c.loop-key.reads.items c.read_one.new.reads.items
          so_far.reads c.in-Some.ensures.steps.0 so_far.looks.looked c.read_one.ensures.looks.looked c.in_ok-read_one.ensures.reads;
      count = grind (arith, c.in-Some.ensures.steps.0, c.in-Some.ensures.steps.1, so_far.count);
    }

pub returns-in_err-read_one-clause-looks : goal.returns-in_err-read_one-clause-looks
returns-in_err-read_one-clause-looks g c = looks_then c.loop-key.invariant.looks c.read_one.ensures.looks
