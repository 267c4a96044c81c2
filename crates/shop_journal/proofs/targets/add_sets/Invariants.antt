use Rattle.std.proofs.Common.{take, map}
use Rattle.shop_journal.specs.Pairs.{Adds}
use Rattle.shop_journal.specs.Targets.{set_pair}
use Rattle.shop_journal.proofs.targets.add_sets.Given as goal

abbrev pub invariant-loop-set : goal.invariant-loop-set
invariant-loop-set l = Adds (map set_pair (take l.set-index l.sets)) l.fn.target l.target
