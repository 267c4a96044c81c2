use Rattle.std.proofs.Common.{◌≡◌}
use Rattle.shop_browse.proofs.DriverLemmas.{HasGone}
use Rattle.shop_browse.proofs.driver.attempt_from.Given as goal

-- the reads so far are those that the interaction asked for in so many rounds, and it is about the same request
abbrev pub invariant-loop-round : goal.invariant-loop-round
invariant-loop-round g l = record {
  gone : HasGone g.St.Store.seat g.St.Store.marked l.fn.store l.store (g.I.Interaction.follows l.interaction l.ask) (g.I.Interaction.request l.fn.interaction) l.ask l.round l.reads.items;
  same : g.I.Interaction.request l.interaction ≡ g.I.Interaction.request l.fn.interaction;
}
