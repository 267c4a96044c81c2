use Rattle.std.proofs.lemmas.Result.{IfOk-weaker}
use Rattle.shop_attempt.proofs.cited.Marks.{looks_then}
use Rattle.shop_browse.proofs.DriverLemmas.{adds_two}
use Rattle.shop_browse.proofs.driver.read_two.Goals as goal

pub returns-in_err-read_one-clause-looks : goal.returns-in_err-read_one-clause-looks
returns-in_err-read_one-clause-looks g c = c.read_one.ensures.looks

pub returns : goal.returns
returns g c =
    let seat = g.St.Store.seat in
    record {
      looks = looks_then c.read_one.ensures.looks c.read_one-2.ensures.looks;
      reads =
          IfOk-weaker c.read_one-2.result _ _
          (λ done adds.
          adds_two (seat c.args.store.now) (seat c.read_one.new.store) (seat c.read_one-2.new.store) c.args.one c.args.other c.args.reads.now.items c.read_one.new.reads.items c.read_one-2.new.reads.items
          c.read_one.ensures.looks.looked c.read_one-2.ensures.looks.looked c.in_ok-read_one.ensures.reads adds)
          c.read_one-2.ensures.reads;
    }
