use Rattle.std.proofs.Common.{◌∙◌, ⊎_elim, inl, inr, sym}
use Rattle.shop_lanes.proofs.Pools.{live_began, live_keeps, since_begins, since_keeps}
use Rattle.shop_lanes.proofs.Turns.{accepts_began, accepts_kept, busy_began}
use Rattle.shop_lanes.proofs.accepting.Pool+L+B+B+Serving+B+Report.accept_free.Goals as goal

pub returns-in-Pending : goal.returns-in-Pending
returns-in-Pending g c =
    let old = c.args.self.now in
    let new = c.accept.new.self in
    let now = c.in-Pending.ensures in
    record {
      live = live_keeps g.B.Berth.can_poll old new c.requires.live now.same (⊎_elim (λ all. inl (now.accepted.1 ∙ all)) (λ fewer. inr fewer) c.requires.live.stops);
      since = λ start total since. since_keeps (g.B.Berth, g.L.PolledListener) start total old since new now.same now.accepted.0 (λ is. inl (sym now.accepted.1 ∙ is));
      accepts = accepts_kept (g.B.Berth, g.L.PolledListener) c.args.at old new (c.is_open.ensures.open c.if-not-is_open.false) now.same now.later;
      busy = λ yes. absurd cc;
      awaits = λ _ waiting. (now.accepted.2, now.accepted.3);
      kept = λ fact held. now.kept fact held;
    }

pub returns-in-None : goal.returns-in-None
returns-in-None g c =
    let old = c.args.self.now in
    let new = c.accept.new.self in
    let now = c.in-Ready.ensures in
    let none = rw c.in-None.is at now.accepted in
    record {
      live = live_keeps g.B.Berth.can_poll old new c.requires.live now.same (inr (c.is_open.ensures.open c.if-not-is_open.false).0);
      since = λ start total since. since_keeps (g.B.Berth, g.L.PolledListener) start total old since new now.same none.0 (λ is. inr (none.2 is));
      accepts = accepts_kept (g.B.Berth, g.L.PolledListener) c.args.at old new (c.is_open.ensures.open c.if-not-is_open.false) now.same now.later;
      busy = λ yes. absurd cc;
      awaits = λ _ waiting. absurd (none.1 waiting.0.1);
      kept = λ fact held. now.kept fact held;
    }

pub returns-in-Some : goal.returns-in-Some
returns-in-Some g c =
    let old = c.args.self.now in
    let mid = c.accept.new.self in
    let new = c.begin_at.new.self in
    let now = c.in-Ready.ensures in
    let gave = rw c.in-Some.is at now.accepted in
    let inside = c.requires.inside in
    let begins = c.begin_at.ensures in
    record {
      live = live_began (g.B.Berth, g.L.PolledListener) c.args.at (c.in-Some.source, c.in-Some.sink) old mid new now.same gave.1 inside begins
          c.requires.live (c.is_open.ensures.open c.if-not-is_open.false) gave.2;
      since = λ start total since. since_begins (g.B.Berth, g.L.PolledListener) start total old since c.args.at (c.in-Some.source, c.in-Some.sink) mid new now.same gave.1 inside gave.0 begins;
      accepts = accepts_began (g.B.Berth, g.L.PolledListener) c.args.at (c.in-Some.source, c.in-Some.sink) old mid new now.same gave.1 inside begins (c.is_open.ensures.open c.if-not-is_open.false) now.later;
      busy = λ _. busy_began (g.B.Berth, g.L.PolledListener) c.args.at (c.in-Some.source, c.in-Some.sink) old mid new now.same gave.1 inside begins;
      awaits = λ no. absurd cc;
      kept = λ fact held. now.kept fact held;
    }
