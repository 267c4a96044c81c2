use Rattle.shop_places.specs.Listening.{listening}
use Rattle.shop_app.specs.Shared.{shared}
use Rattle.shop_app.proofs.cited.Ends.{all_done, bad_status, run_told}
use Rattle.shop_app.proofs.shared.run_shared.Goals as goal

pub returns-clause-run : goal.returns-clause-run
returns-clause-run g c good =
    let lines = c.told_of-lines.result in
    run_told g.K.Sink (g.C.Clock, g.I.Source, g.O.Sink) (g.C.Clock.readings c.args.clock.now) (listening g.L.Listener c.args.listener.now) (listening g.L.Listener c.told_of-lines.new.listener)
    c.args.sink.now c.print_lines-status.new.sink c.args.spawner.now c.told_of-lines.new.spawner lines c.print_lines-status.result c.print_lines-status.ensures.prints c.args.words.now
    c.print_lines-status.ensures.untouched
    (c.told_of-lines.ensures.told (λ bad. good (bad_status lines _ _ _ _ c.print_lines-status.result c.print_lines-status.ensures.prints bad)))

pub returns-clause-complete : goal.returns-clause-complete
returns-clause-complete g c good no_start no_link no_write =
    all_done (g.C.Clock, g.I.Source, g.O.Sink) (g.C.Clock.readings c.args.clock.now) (listening g.L.Listener c.args.listener.now) (listening g.L.Listener c.told_of-lines.new.listener)
    (shared g.K.Sink c.args.sink.now c.args.spawner.now) (shared g.K.Sink c.print_lines-status.new.sink c.told_of-lines.new.spawner) c.print_lines-status.result good no_start no_link no_write
    c.args.words.now (returns-clause-run g c good)
