use Rattle.std.proofs.Common.{IfOk, subst}
use Rattle.shop_tasks.specs.Tasks.{Promises, Races, stage_of}
use Rattle.shop_tasks.proofs.job.TaskJob.run.Goals as goal

pub returns : goal.returns
returns g c =
    let readings = g.C.Clock.readings in
    subst (λ task. Promises readings task c.drive_one.result) c.self.view_is
    (subst (λ stage. IfOk c.drive_one.result (Races stage c.self.inside.errand.steps))
    (λ i. stage_of (c.in_ok-worker.ensures i) (readings c.self.inside.clock) (c.new-browser.ensures i)) c.drive_one.ensures)
