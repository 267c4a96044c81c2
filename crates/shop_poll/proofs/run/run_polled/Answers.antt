use Rattle.std.proofs.Common.{◌≡◌, ⊎_elim, inl, inr, Err}
use Rattle.shop_app.specs.declared.status.Status.TheVariants as status
use Rattle.shop_app.proofs.cited.Ends.{bad_lines}
use Rattle.shop_poll.proofs.Runs.{completes, run_told, status_is}
use Rattle.shop_poll.proofs.run.run_polled.Goals as goal

pub returns-clause-bad_words : goal.returns-clause-bad_words
returns-clause-bad_words g c bad = c.told_of-lines.ensures.bad_words (bad_lines c.told_of-lines.result.0 _ _ _ _ c.print_lines-status.result c.print_lines-status.ensures.prints bad)

pub returns-clause-run : goal.returns-clause-run
returns-clause-run g c =
    run_told g.K.Sink (g.U.Runner.faults, g.L.PolledListener, (g.S.PolledSource, g.O.PolledSink, g.C.Clock)) c.args.words.now c.args.clock.now
    c.args.sink.now c.print_lines-status.new.sink c.args.runner.now c.told_of-lines.new.runner c.args.listener c.told_of-lines.result.1 c.print_lines-status.result
    c.told_of-lines.result.0 c.print_lines-status.ensures.prints c.print_lines-status.ensures.untouched c.told_of-lines.ensures.told

pub returns-clause-lost : goal.returns-clause-lost
returns-clause-lost g c none =
    ⊎_elim
    (λ (failed : c.told_of-lines.result.0 ≡ Err status.WorkerFault). inl (status_is c.told_of-lines.result.0 _ _ _ _ c.print_lines-status.result status.WorkerFault c.print_lines-status.ensures.prints failed))
    (λ (memory : c.told_of-lines.result.0 ≡ Err status.Memory). inr (status_is c.told_of-lines.result.0 _ _ _ _ c.print_lines-status.result status.Memory c.print_lines-status.ensures.prints memory))
    (c.told_of-lines.ensures.lost none)

pub returns-clause-complete : goal.returns-clause-complete
returns-clause-complete g c =
    completes g.K.Sink (g.U.Runner.faults, g.L.PolledListener, (g.S.PolledSource, g.O.PolledSink, g.C.Clock)) c.args.words.now c.args.clock.now
    c.args.sink.now c.print_lines-status.new.sink c.args.runner.now c.told_of-lines.new.runner c.args.listener c.told_of-lines.result.1 c.print_lines-status.result
    (returns-clause-run g c)
