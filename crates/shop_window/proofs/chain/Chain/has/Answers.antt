use Rattle.std.proofs.Common.{◌≡◌, ◌-◌, ◌∙◌, ap, sym, arith, get_or, false}
use Rattle.std.proofs.lemmas.List.{get_or_read}
use Rattle.std.specs.List.{list_any}
use Rattle.shop_model.specs.lists.Related.{has_item}
use Rattle.shop_window.specs.Chains.{Entry, no_entry}
use Rattle.shop_window.proofs.Walking.{walk_begins, walk_goes_on, orders_begin, has_before}
use Rattle.shop_window.proofs.chain.Chain.has.Goals as goal

pub loop-left-init : goal.loop-left-init
loop-left-init c =
    let entries = c.self.inside.kept.items in
    let newest = rw (← c.newest_left-left.ensures) at (c.self.invariant.newest c.args.customer) in
    record {
      at = walk_begins c.args.customer entries c.newest_left-left.result newest;
      others = ap (list_any (has_item c.args.item)) (orders_begin c.args.customer entries c.newest_left-left.result newest);
    }

pub loop-left-preserved : goal.loop-left-preserved
loop-left-preserved c =
    let entries = c.self.inside.kept.items in
    let left = c.loop-left.left in
    let linked = c.self.invariant.linked in
    let walked = c.loop-left.invariant.at in
    let kept : c.index-order.result.now ≡ get_or entries (left - 1) no_entry =
    get_or_read entries (left - 1) c.index-order.result.now (omega (arith, walked.within)) c.index-order.ensures no_entry in
    let now : c.saturating_sub-left.result ≡ left - (get_or entries (left - 1) no_entry).back =
    c.saturating_sub-left.ensures ∙ ap (λ b. left - b) (c.back.ensures ∙ ap (λ (e : Entry). e.back) kept) in
    let other : has_item c.args.item (get_or entries (left - 1) no_entry).sold ≡ false =
    sym (c.has_item.ensures ∙ ap (λ (e : Entry). has_item c.args.item e.sold) kept) ∙ c.if-has_item.false in
    record {
      at = walk_goes_on c.args.customer entries left c.saturating_sub-left.result linked walked (omega arith) now;
      others = has_before c.args.customer c.args.item entries left c.saturating_sub-left.result linked walked (omega arith) other now
          ∙ c.loop-left.invariant.others;
    }
