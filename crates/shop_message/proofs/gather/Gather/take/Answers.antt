use Rattle.std.proofs.Common.{refl, arith, ap, subst}
use Rattle.shop_message.specs.Gatherings.{Gathering, Waits}
use Rattle.shop_message.proofs.GatheredLemmas.{waits-part, waits-still, awaits-one, gathered-undecided}
use Rattle.shop_message.proofs.gather.Gather.take.Goals as goal

pub returns-then-len-self-clause-gathered : goal.returns-then-len-self-clause-gathered
returns-then-len-self-clause-gathered c =
    gathered-undecided _ _ _ refl
    (subst (λ (v : Gathering). Waits v.held v.held) c.self.view_is (waits-still _ _ c.self.invariant (omega (arith, c.len.ensures, c.if-len-self.true)))) c.undecided.ensures

pub returns-in-Part-clause-gathered : goal.returns-in-Part-clause-gathered
returns-in-Part-clause-gathered c =
    gathered-undecided _ _ _ (ap (λ (v : Gathering). v.ended) c.self.view_is)
    (subst (λ (v : Gathering). Waits v.held c.look_at.new.buffer) c.self.view_is (waits-part _ _ _ c.in-Part.ensures)) c.undecided-in-Part.ensures

pub invariant_of-self : goal.invariant_of-self
invariant_of-self c = awaits-one _

pub invariant_of-self-in-Refused : goal.invariant_of-self-in-Refused
invariant_of-self-in-Refused c = awaits-one _

pub invariant_of-self-in-Memory : goal.invariant_of-self-in-Memory
invariant_of-self-in-Memory c = awaits-one _
