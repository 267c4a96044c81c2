use Rattle.std.proofs.Common.{ap}
use Rattle.shop_book.specs.Solos.{SoloValue}
use Rattle.rival_tests.proofs.Rivals.{keeps_between}
use Rattle.rival_tests.proofs.rivalled.rival.Goals as goal

pub returns-clause-marks : goal.returns-clause-marks
returns-clause-marks c =
    keeps_between c.args.solo.now c.turn-was.new.self c.does-done.new.store c.turn.new.self (ap (λ (s : SoloValue). s.book) c.turn-was.ensures.is)
    (ap (λ (s : SoloValue). s.book) c.turn.ensures.is) c.does-done.ensures.marks.still
