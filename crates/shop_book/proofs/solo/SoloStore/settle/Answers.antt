use Rattle.std.proofs.Common.{◌+◌, max, arith}
use Rattle.shop_book.specs.SoloView.{solo_of}
use Rattle.shop_book.proofs.Solos.{solo_settled, marks_stay}
use Rattle.shop_book.proofs.solo.SoloStore.settle.Goals as goal

pub returns-in-Done-clause-settled : goal.returns-in-Done-clause-settled
returns-in-Done-clause-settled c =
    let settled = c.in-Done.ensures.settled in
    solo_settled c.self.inside.book c.self.inside.visitor.caller c.self.inside.visitor.calls c.self.inside.visitor.settles c.saturating_add-self-inside.result c.saturating_add-self-inside-2.result c.self.inside.visitor.greatest (c.count_of-number.result + 1) c.args.attempt c.in-Done.field-0
    settled.fresh c.settle-settled.new.self settled.taken c.args.self.now c.self.view_is c.max-self-inside.result c.max-self-inside.ensures c.settle-settled.result c.in-Done.is

pub returns-in-Done-clause-marks : goal.returns-in-Done-clause-marks
returns-in-Done-clause-marks c =
    rw (← c.self.view_is)
    (marks_stay (solo_of c.self.inside) (solo_of (record { book = c.settle-settled.new.self; visitor = c.self.inside.visitor })) (c.count_of-number.result + 1) (max c.self.inside.book.latest c.args.attempt.moment) c.args.attempt.act c.in-Done.field-0
    (omega arith) c.in-Done.ensures.settled.taken)
