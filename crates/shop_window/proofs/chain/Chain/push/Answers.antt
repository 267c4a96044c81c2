use Rattle.std.proofs.Common.{arith, rules, ap, sym, ◌≡◌, ◌∙◌, length, nat_eq}
use Rattle.std.specs.HashMap.{get}
use Rattle.shop_model.specs.lists.Related.{Sold}
use Rattle.shop_window.specs.Chains.{left_of}
use Rattle.shop_window.proofs.Links.{chain_push}
use Rattle.shop_window.proofs.chain.Chain.push.Goals as goal

pub invariant_of-self : goal.invariant_of-self
invariant_of-self c =
    let chain = c.self.inside in
    let x = c.set_back.new.self in
    let owner : c.customer-customer.result ≡ x.sold.customer =
    c.customer-customer.ensures ∙ sym (ap (λ (s : Sold). s.customer) c.set_back.ensures.sold) in
    let size : c.len-len.result ≡ length chain.kept.items = search rules in
    let left : c.newest_left-left.result ≡ left_of chain.gone (get nat_eq chain.newest x.sold.customer) = rw owner at c.newest_left-left.ensures in
    rw c.push_back_reserved.ensures.items
    (chain_push chain.kept.items x (get nat_eq chain.newest) (get nat_eq c.insert.new.self) chain.gone c.self.invariant
    (omega arith) (omega arith) (omega (arith, c.set_back.ensures.back, left, size))
    (λ customer. rw (← owner, ← size) (c.in-Ok.ensures.updates.0 customer)))
