use Rattle.std.proofs.Common.{sym, subst}
use Rattle.shop_attempt.specs.Faithful.{Faithful}
use Rattle.shop_attempt.specs.Seats.{Looked}
use Rattle.shop_attempt.specs.Marks.{StillMarked}
use Rattle.shop_book.specs.Solos.{seat_of, marks_of}
use Rattle.rival_tests.specs.Rivals.{RivalledValue, among}
use Rattle.rival_tests.proofs.Rivals.{faithful_later, follows_then, settled_then, still_then}
use Rattle.rival_tests.proofs.rivalled.RivalledStore.settle.Goals as goal

pub settle-requires-clause-faithful : goal.settle-requires-clause-faithful
settle-requires-clause-faithful c =
    subst (λ (r : RivalledValue). Faithful r.solo.book.opening.tables r.solo.book.log c.args.attempt) (sym c.self.view_is)
    (faithful_later (among (seat_of c.args.self.now.solo)) (among (seat_of c.let_rival.new.self.solo)) c.args.attempt c.let_rival.ensures.looked.follows c.requires.faithful)

pub returns-clause-follows : goal.returns-clause-follows
returns-clause-follows c =
    let looked : Looked (among (seat_of c.args.self.now.solo)) (among (seat_of c.self.inside.solo)) = rw (← c.self.view_is) at c.let_rival.ensures.looked in
    follows_then (seat_of c.args.self.now.solo) (seat_of c.self.inside.solo) (seat_of c.settle.new.self) c.args.attempt looked c.settle.ensures.follows

pub returns-clause-settled : goal.returns-clause-settled
returns-clause-settled c =
    let looked : Looked (among (seat_of c.args.self.now.solo)) (among (seat_of c.self.inside.solo)) = rw (← c.self.view_is) at c.let_rival.ensures.looked in
    settled_then (seat_of c.args.self.now.solo) (seat_of c.self.inside.solo) (seat_of c.settle.new.self) c.args.attempt looked c.settle.result c.settle.ensures.settled

pub returns-clause-marks : goal.returns-clause-marks
returns-clause-marks c =
    let still : StillMarked (marks_of c.args.self.now.solo) (marks_of c.self.inside.solo) = rw (← c.self.view_is) at c.let_rival.ensures.marks.still in
    still_then c.args.self.now.solo c.self.inside.solo c.settle.new.self still c.settle.ensures.marks
