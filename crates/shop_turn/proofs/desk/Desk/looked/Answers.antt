use Rattle.shop_turn.proofs.Desks.{look_means, row_means}
use Rattle.shop_turn.proofs.desk.Desk.looked.Goals as goal

pub returns-clause-looks : goal.returns-clause-looks
returns-clause-looks g c =
    let e = c.read_at.ensures in
    let i = c.self.invariant in
    look_means _ _ _ _ _ i.ready i.long e.2.0 c.args.self.now _ e.0 c.self.view_is e.1 e.2.2

pub returns-clause-row : goal.returns-clause-row
returns-clause-row g c =
    let e = c.read_at.ensures in
    let i = c.self.invariant in
    row_means _ _ _ _ _ i.ready i.long e.2.0 _ c.args.key.now c.read_at.result e.0 e.1 e.2.2 e.3
