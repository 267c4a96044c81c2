use Rattle.std.proofs.Common.{arith, ◌≡◌, ◌∙◌, sym, nat_eq}
use Rattle.std.specs.HashMap.{get}
use Rattle.shop_window.specs.Chains.{left_of}
use Rattle.shop_window.proofs.Links.{chain_pop, less_removed, less_kept}
use Rattle.shop_window.proofs.chain.Chain.pop.Goals as goal
use Rattle.shop_window.proofs.chain.Chain.pop.Goals.{then-newest_left-eq1, else-newest_left-eq1}

pub invariant_of-self : goal.invariant_of-self
invariant_of-self c =
    let x = c.in-Some.oldest in
    let xs = c.pop_front.new.self.items in
    let gone = c.self.inside.gone in
    let before = get nat_eq c.self.inside.newest in
    let chain = rw c.in-Some.ensures.items at c.self.invariant in
    let left : c.newest_left.result ≡ left_of gone (before x.sold.customer) = rw c.customer.ensures at c.newest_left.ensures in
    elim c.if-newest_left-eq1.branch [
      | then-newest_left-eq1 w ↦
          let now = get nat_eq w.remove.new.self in
          rw w.self-inside-is (chain_pop x xs before now gone chain (omega arith)
          (less_removed x xs before now gone chain (sym left ∙ w.if-newest_left-eq1.true)
          (λ customer. rw (← w.customer-then-newest_left-eq1.ensures) (w.remove.ensures.updates.0 customer))))
      | else-newest_left-eq1 w ↦
          rw w.self-inside-is (chain_pop x xs before before gone chain (omega arith)
          (less_kept x xs before gone chain (λ one. w.if-newest_left-eq1.false (left ∙ one))))
    ]
