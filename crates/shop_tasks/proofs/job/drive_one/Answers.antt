use Rattle.std.proofs.Common.{◌∷◌, [], Some, get_or, refl, sym, ap}
use Rattle.shop_engine.specs.Workers.{standing}
use Rattle.shop_turn.specs.Desks.{seat_of}
use Rattle.shop_gateway.specs.Emulators.{EmulatorValue}
use Rattle.shop_tasks.proofs.Tasks.{begun, only}
use Rattle.shop_tasks.proofs.job.drive_one.Goals as goal

pub returns : goal.returns
returns g c =
    let drove = c.in_ok-tally.ensures in
    let browsers = c.drive.new.browsers in
    record {
      after = record {
        worker = standing seat_of c.drive.new.worker (g.C.Clock.readings c.drive.new.clock) (Some c.drive.new.gateway.answers);
        browsers = get_or browsers 0 c.args.browser ∷ [];
        failures = 0;
      };
      answers = c.drive.new.gateway.answers;
      drives = rw (sym (only browsers c.args.browser c.drive.auto.browsers), c.into_store.ensures) (begun _ c.args.worker _ c.args.browser _ _ c.args.steps c.in_ok-tally.tally (ap (λ (e : EmulatorValue). e.answers) c.new-gateway.ensures) drove.drives);
      seat = ap seat_of (sym c.into_store.ensures);
      unfailing = refl;
      told = refl;
      verdicts = c.answers.ensures.verdicts;
    }
