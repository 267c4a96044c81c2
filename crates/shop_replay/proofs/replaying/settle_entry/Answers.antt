use Rattle.std.proofs.Common.{arith}
use Rattle.shop_replay.proofs.Adding.{full_fits, never_stale, numbered_adds, unnumbered_illegal}
use Rattle.shop_replay.proofs.replaying.settle_entry.Goals as goal

pub settle-requires-clause-faithful : goal.settle-requires-clause-faithful
settle-requires-clause-faithful c = c.requires.1.tries.faithful

pub settle-requires-clause-moment : goal.settle-requires-clause-moment
settle-requires-clause-moment c = omega (arith, c.requires.1.tries.at, c.requires.1.time.bound)

pub returns-then-is_numbered-clause-adds : goal.returns-then-is_numbered-clause-adds
returns-then-is_numbered-clause-adds c entry may number =
    numbered_adds c.args.solo.now c.settle.new.self entry _ may c.settle.ensures.follows _ c.settle.ensures.valid c.in-Done.ensures.settled _ number _ c.is_numbered.ensures c.if-is_numbered.true

pub returns-else-is_numbered-clause-adds : goal.returns-else-is_numbered-clause-adds
returns-else-is_numbered-clause-adds c entry may number =
    unnumbered_illegal c.args.solo.now c.settle.new.self entry _ may c.settle.ensures.follows _ c.settle.ensures.valid c.in-Done.ensures.settled _ number _ c.is_numbered.ensures c.if-is_numbered.false

pub returns-in-Full-clause-adds : goal.returns-in-Full-clause-adds
returns-in-Full-clause-adds c entry may number = full_fits c.args.solo.now c.settle.new.self entry _ may c.settle.ensures.follows _ c.in-Full.ensures.settled

pub unreachable-requires : goal.unreachable-requires
unreachable-requires c = never_stale c.args.solo.now c.settle.new.self c.requires.0 _ c.requires.1 c.settle.ensures.follows _ c.in-Stale.ensures.settled
