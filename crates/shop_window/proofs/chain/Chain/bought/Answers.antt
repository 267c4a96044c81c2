use Rattle.std.proofs.Common.{◌≡◌, ◌-◌, ◌∙◌, ap, sym, arith, get_or}
use Rattle.std.proofs.lemmas.List.{get_or_read}
use Rattle.shop_model.specs.lists.Related.{lines_in, totals_of}
use Rattle.shop_window.specs.Chains.{Entry, no_entry, ChainValue}
use Rattle.shop_window.proofs.Walking.{walk_begins, walk_goes_on, bought_begins, bought_room, bought_before, bought_all}
use Rattle.shop_window.proofs.chain.Chain.bought.Goals as goal

pub loop-left-init : goal.loop-left-init
loop-left-init c =
    let entries = c.self.inside.kept.items in
    let newest = rw (← c.newest_left-left.ensures) at (c.self.invariant.newest c.args.customer) in
    record {
      at = walk_begins c.args.customer entries c.newest_left-left.result newest;
      others = rw c.new-totals.ensures.items (bought_begins c.args.customer entries c.newest_left-left.result newest);
    }

pub add_all-requires : goal.add_all-requires
add_all-requires c =
    let entries = c.self.inside.kept.items in
    let left = c.loop-left.left in
    let walked = c.loop-left.invariant.at in
    let kept : c.index-kept.result.now ≡ get_or entries (left - 1) no_entry =
    get_or_read entries (left - 1) c.index-kept.result.now (omega (arith, walked.within)) c.index-kept.ensures no_entry in
    let lines : c.lines.result.now ≡ (get_or entries (left - 1) no_entry).sold.lines = c.lines.ensures ∙ ap (λ (e : Entry). e.sold.lines) kept in
    let fits = rw (← (ap (λ (v : ChainValue). v.kept) c.self.view_is)) at c.requires in
    rw lines (bought_room c.args.customer entries left c.loop-left.totals.items c.self.invariant.linked walked (omega arith) c.loop-left.invariant.others fits)

pub loop-left-preserved : goal.loop-left-preserved
loop-left-preserved c =
    let entries = c.self.inside.kept.items in
    let left = c.loop-left.left in
    let linked = c.self.invariant.linked in
    let walked = c.loop-left.invariant.at in
    let kept : c.index-kept.result.now ≡ get_or entries (left - 1) no_entry =
    get_or_read entries (left - 1) c.index-kept.result.now (omega (arith, walked.within)) c.index-kept.ensures no_entry in
    let lines : c.lines.result.now ≡ (get_or entries (left - 1) no_entry).sold.lines = c.lines.ensures ∙ ap (λ (e : Entry). e.sold.lines) kept in
    let now : c.saturating_sub-left.result ≡ left - (get_or entries (left - 1) no_entry).back =
    c.saturating_sub-left.ensures ∙ ap (λ b. left - b) (c.back.ensures ∙ ap (λ (e : Entry). e.back) kept) in
    record {
      at = walk_goes_on c.args.customer entries left c.saturating_sub-left.result linked walked (omega arith) now;
      others = bought_before c.args.customer entries left c.saturating_sub-left.result c.loop-left.totals.items c.add_all.new.totals.items
          linked walked (omega arith) now (rw lines at c.in_ok-add_all.ensures) ∙ c.loop-left.invariant.others;
    }

pub returns : goal.returns
returns c =
    let entries = c.self.inside.kept.items in
    c.from_vec.ensures ∙ sym (bought_all c.args.customer entries c.loop-left.left c.loop-left.totals.items (omega arith))
    ∙ c.loop-left.invariant.others ∙ ap (λ (v : ChainValue). totals_of (lines_in v.kept c.args.customer)) c.self.view_is
