use Rattle.std.proofs.Common.{◌+◌, arith}
use Rattle.shop_pricing.specs.declared.filling.Filled.TheVariants.{Done, Refused}
use Rattle.shop_pricing.proofs.Runs.{set_more, front_refused, all_set}
use Rattle.shop_pricing.proofs.filling.set_all.Goals as goal

pub returns-in-Refused : goal.returns-in-Refused
returns-in-Refused c =
    let n = c.loop-item.item-index in
    let refusal = c.in-Refused.refusal in
    front_refused c.args.items c.args.sets.now c.args.lines.now (n + 1) refusal
    (set_more c.args.items c.args.sets.now c.args.lines.now c.loop-item.lines c.set_one.new.lines n (0, 0) (Refused refusal)
    c.loop-item-test.true c.loop-item.invariant c.in-Refused.ensures)

pub loop-item-preserved : goal.loop-item-preserved
loop-item-preserved c =
    set_more c.args.items c.args.sets.now c.args.lines.now c.loop-item.lines c.set_one.new.lines c.loop-item.item-index (0, 0) Done
    c.loop-item-test.true c.loop-item.invariant c.in-Done.ensures

pub returns : goal.returns
returns c =
    all_set c.args.items c.args.sets.now c.args.lines.now c.loop-item.lines c.loop-item.item-index (omega arith) c.loop-item.invariant
