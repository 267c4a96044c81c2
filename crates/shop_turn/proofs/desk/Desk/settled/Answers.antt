use Rattle.std.proofs.Common.{subst, sym}
use Rattle.shop_attempt.specs.Faithful.{Faithful}
use Rattle.shop_turn.specs.Desks.{DeskValue}
use Rattle.shop_turn.proofs.Desks.{settle_means}
use Rattle.shop_turn.proofs.desk.Desk.settled.Goals as goal

pub settle_at-requires-clause-faithful : goal.settle_at-requires-clause-faithful
settle_at-requires-clause-faithful g c = subst (λ (d : DeskValue). Faithful d.origin.opening.tables d.seen c.args.attempt) (sym c.self.view_is) c.requires.faithful

pub returns : goal.returns
returns g c =
    let e = c.settle_at.ensures in
    let i = c.self.invariant in
    settle_means _ _ _ _ _ i.ready i.long e.seat.0 c.args.self.now _ c.args.attempt c.settle_at.result e.before e.after c.self.view_is e.found e.kept e.settles e.seat.2
