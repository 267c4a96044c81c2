use Rattle.shop_keep.proofs.FirstWorkers.{is_first, log_of, no_log, posted}
use Rattle.shop_keep.proofs.workers.worker_over.Goals as goal

pub new-requires : goal.new-requires
new-requires c =
    posted c.args.asked.now c.in-Ok.tables c.in-Ok.ensures.value c.args.entries.now c.new-solo.result c.in-Book.book c.new-solo.ensures.value c.in-Book.ensures.replayed.1
    _ c.in-Ok-index_of.ensures c.new-solo.ensures.valid

pub returns-in-Ok-new : goal.returns-in-Ok-new
returns-in-Ok-new c = (
  is_first c.args.asked.now c.in-Ok.tables c.in-Ok.ensures.value c.args.entries.now c.new-solo.result c.in-Book.book c.new-solo.ensures.value c.in-Book.ensures.replayed.1 c.in-Ok-new.worker c.in-Ok-new.ensures,
  log_of c.args.asked.now c.in-Ok.tables c.in-Ok.ensures.value c.args.entries.now c.in-Book.ensures.replayed.0,
)

pub returns-in-Illegal : goal.returns-in-Illegal
returns-in-Illegal c = no_log c.args.asked.now c.in-Ok.tables c.in-Ok.ensures.value c.args.entries.now c.in-Illegal.field-0 c.in-Illegal.ensures.replayed
