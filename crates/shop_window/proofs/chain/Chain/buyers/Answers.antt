use Rattle.std.proofs.Common.{arith, rules, ◌≡◌, ◌∙◌, sym, length}
use Rattle.shop_window.proofs.Walking.{no_buyers, buyer_more}
use Rattle.shop_window.proofs.chain.Chain.buyers.Goals as goal

pub loop-place-init : goal.loop-place-init
loop-place-init c =
    let entries = c.self.inside.kept.items in
    let all : c.len-place.result ≡ length entries = search rules in
    rw all (c.new-customers.ensures.items ∙ sym (no_buyers entries c.args.item))

pub loop-place-preserved-in-Continue-1 : goal.loop-place-preserved-in-Continue-1
loop-place-preserved-in-Continue-1 c =
    let entries = c.self.inside.kept.items in
    let more = buyer_more entries c.args.item c.loop-place.place c.index-kept.result.now (omega arith) (omega arith) c.index-kept.ensures (search rules) in
    cc (more, c.in_ok-put_once.ensures, c.customer.ensures)
