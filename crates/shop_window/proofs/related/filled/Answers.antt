use Rattle.std.proofs.Common.{◌≡◌, ◌+◌, ◌∷◌, ◌++◌, [], List, ℕ, false, true, nat_eq, length, ap, sym, ◌∙◌, arith}
use Rattle.std.specs.List.{list_any}
use Rattle.std.proofs.lemmas.List.{length-set, length_push, take_more_set, take_all}
use Rattle.shop_window.proofs.Filling.{found, some_left, found_new, found_same, all_found}
use Rattle.shop_window.proofs.related.filled.Goals as goal
use Rattle.shop_window.proofs.related.filled.Goals.{then-not-is_found, else-not-is_found}

pub following-id-requires-clause-others : goal.following-id-requires-clause-others
following-id-requires-clause-others c =
    some_left c.args.most.now c.args.item c.args.items c.loop-count.others c.requires.six c.requires.item.first c.requires.item.last
    c.loop-count.invariant.within (omega arith)

pub loop-count-preserved : goal.loop-count-preserved
loop-count-preserved c =
    let most = c.args.most.now in
    let others = c.loop-count.others in
    let id = c.following-id.result in
    let was = c.loop-count.invariant in
    let left = some_left most c.args.item c.args.items others c.requires.six c.requires.item.first c.requires.item.last was.within (omega arith) in
    elim c.if-not-is_found.branch [
      | then-not-is_found w ↦
          let new : list_any (nat_eq id) most ≡ false = sym c.is_found.ensures ∙ w.if-not-is_found.true in
          let more = found_new most c.args.item c.args.items others id c.requires.item.first c.requires.item.last left c.following-id.ensures new in
          rw (w.five-is, w.count-is) (record {
            size = length-set c.loop-count.five c.loop-count.count id ∙ was.size;
            few = omega arith;
            within = omega (arith, left);
            count = ap length more ∙ length_push (found most c.args.item c.args.items others) id ∙ ap (λ k. k + 1) was.count;
            front = take_more_set c.loop-count.five c.loop-count.count id (omega (arith, was.size)) ∙ ap (λ (ys : List ℕ). ys ++ id ∷ []) was.front ∙ sym more;
          })
      | else-not-is_found w ↦
          let among : list_any (nat_eq id) most ≡ true = sym c.is_found.ensures ∙ w.if-not-is_found.false in
          let same = found_same most c.args.item c.args.items others id c.requires.item.first c.requires.item.last left c.following-id.ensures among in
          rw (w.five-is, w.count-is) (record {
            size = was.size;
            few = was.few;
            within = omega (arith, left);
            count = ap length same ∙ was.count;
            front = was.front ∙ sym same;
          })
    ]

pub returns : goal.returns
returns c =
    let was = c.loop-count.invariant in
    let five : c.loop-count.count ≡ 5 = omega arith in
    sym (take_all c.loop-count.count c.loop-count.five (omega (arith, was.size))) ∙ was.front
    ∙ all_found c.args.most.now c.args.item c.args.items c.loop-count.others (was.count ∙ five)
