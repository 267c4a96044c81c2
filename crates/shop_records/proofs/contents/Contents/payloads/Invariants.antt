use Rattle.std.proofs.Common.{map, drop, length}
use Rattle.shop_records.specs.Records.{header_length}
use Rattle.shop_records.proofs.Scans.{IsRead}
use Rattle.shop_records.proofs.contents.Contents.payloads.Given as goal

abbrev pub invariant-loop-payload : goal.invariant-loop-payload
invariant-loop-payload l = IsRead (map (λ p. p.now) l.payloads.items) (drop header_length l.self) l.rest

abbrev pub decreases-loop-payload : goal.decreases-loop-payload
decreases-loop-payload l = length l.rest
