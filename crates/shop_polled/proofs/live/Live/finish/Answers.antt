use Rattle.shop_engine.proofs.Undisturbed.{all_whole}
use Rattle.shop_polled.proofs.live.Live.finish.Goals as goal

pub returns : goal.returns
returns g c = λ first ended.
    rw c.from_vec-points.ensures (record {
      served = ended.ends;
      complete = λ quiet kept. all_whole _ _ _ _ c.args.end _ _ _ ended.ends quiet ended.lasts.failures kept;
      caller = ended.lasts.caller;
      lawful = c.store.ensures.lawful;
      marks = ended.lasts.marks;
      read_fault = λ is. rw is at ended.cause;
      write_fault = λ is. rw is at ended.cause;
      reads = ended.lasts.reads;
      writes = ended.lasts.writes;
      fresh = ended.lasts.fresh;
      failures = ended.lasts.failures;
      asks = ended.lasts.asks;
    })
