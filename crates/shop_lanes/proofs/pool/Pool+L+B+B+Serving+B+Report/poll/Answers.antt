use Rattle.std.proofs.Common.{ap, arith, length, rules}
use Rattle.shop_lanes.specs.Waits.{HasMore}
use Rattle.shop_lanes.proofs.Turns.{stays_closed}
use Rattle.shop_lanes.proofs.Waits.{is_put_off, registers}
use Rattle.shop_lanes.proofs.pool.Pool+L+B+B+Serving+B+Report.poll.Goals as goal

pub returns-clause-waited : goal.returns-clause-waited
returns-clause-waited g c =
    let mid = c.accept_all.new.self in
    let new = c.poll_all.new.self in
    let none : HasMore mid new → ⊥ = λ more. omega (arith, more, c.if-before-len.false, c.len.ensures, c.len-before.ensures, ap length c.accept_all.ensures.accepts.reports) in
    is_put_off (g.B.Berth, g.L.PolledListener) c.args.self.now mid new c.accept_all.new.cx c.poll_all.new.cx c.poll_all.ensures.turned none c.poll_all.ensures.kept
    c.accept_all.ensures.awaits (c.is_over.ensures.going c.if-is_over.false) c.poll_all.ensures.live c.accept_all.ensures.accepts

pub returns-clause-registered : goal.returns-clause-registered
returns-clause-registered g c =
    let mid = c.accept_all.new.self in
    let new = c.poll_all.new.self in
    let none : HasMore mid new → ⊥ = λ more. omega (arith, more, c.if-before-len.false, c.len.ensures, c.len-before.ensures, ap length c.accept_all.ensures.accepts.reports) in
    registers (g.B.Berth, g.L.PolledListener) c.args.self.now mid new c.accept_all.new.cx c.poll_all.new.cx c.poll_all.ensures.turned none c.poll_all.ensures.kept
    c.accept_all.ensures.awaits (c.is_over.ensures.going c.if-is_over.false) c.poll_all.ensures.live

pub returns-then-before-len-clause-registered : goal.returns-then-before-len-clause-registered
returns-then-before-len-clause-registered g c = search rules

pub returns-then-is_over-clause-closed : goal.returns-then-is_over-clause-closed
returns-then-is_over-clause-closed g c =
    stays_closed (g.B.Berth, g.L.PolledListener) _ c.args.self.now c.accept_all.new.self c.poll_all.new.self c.poll_all.new.cx c.accept_all.ensures.accepts c.poll_all.ensures.turned

pub returns-then-before-len-clause-closed : goal.returns-then-before-len-clause-closed
returns-then-before-len-clause-closed g c =
    stays_closed (g.B.Berth, g.L.PolledListener) _ c.args.self.now c.accept_all.new.self c.poll_all.new.self c.poll_all.new.cx c.accept_all.ensures.accepts c.poll_all.ensures.turned

pub returns-clause-closed : goal.returns-clause-closed
returns-clause-closed g c =
    stays_closed (g.B.Berth, g.L.PolledListener) _ c.args.self.now c.accept_all.new.self c.poll_all.new.self c.poll_all.new.cx c.accept_all.ensures.accepts c.poll_all.ensures.turned
