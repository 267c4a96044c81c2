use Rattle.std.proofs.Common.{length}
use Rattle.shop_records.proofs.Scans.{IsReadOf}
use Rattle.shop_records.proofs.scanning.scan.Given as goal

abbrev pub invariant-loop-after : goal.invariant-loop-after
invariant-loop-after l = IsReadOf l.bytes l.rest

abbrev pub decreases-loop-after : goal.decreases-loop-after
decreases-loop-after l = length l.rest
