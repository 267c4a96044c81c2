use Rattle.std.proofs.Common.{Some, subst}
use Rattle.shop_book.specs.Solos.{marks_of, seat_of}
use Rattle.shop_drive.specs.Drives.{Drives}
use Rattle.shop_engine.specs.Workers.{standing}
use Rattle.shop_gateway.specs.Notings.{NotingValue}
use Rattle.shop_app.proofs.DriveLemmas.{noted_by}
use Rattle.shop_app.proofs.driven.drive_and_give_back.Goals as goal

pub returns-clause-driven : goal.returns-clause-driven
returns-clause-driven g c =
    let drove = c.drive-tally in
    let given = c.into_answers-gateway.ensures in (
      drove.new.gateway.all,
      rw c.requires.told given.told,
      rw given.gateway
          (noted_by (marks_of drove.new.worker.store) drove.new.gateway.all _ _ c.args.steps drove.result _ c.with_answers.result
          (subst (λ (n : NotingValue _). Drives (marks_of drove.new.worker.store)
          (record { worker = standing seat_of c.args.worker.now (g.C.Clock.readings c.args.clock.now) (Some n.all); browsers = c.args.browsers.now; failures = g.G.Gateway.faults n.gateway })
          (record { worker = standing seat_of drove.new.worker (g.C.Clock.readings drove.new.clock) (Some drove.new.gateway.all); browsers = drove.new.browsers; failures = g.G.Gateway.faults drove.new.gateway.gateway })
          c.args.steps drove.result)
          (λ i. record { gateway = c.new-noting.ensures.gateway i; all = c.new-noting.ensures.all i }) drove.ensures.drives)
          c.with_answers.ensures given.answers),
    )
