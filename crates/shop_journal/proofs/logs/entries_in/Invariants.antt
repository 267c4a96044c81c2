use Rattle.std.proofs.Common.{map}
use Rattle.shop_journal.proofs.Entries.{IsRead}
use Rattle.shop_journal.proofs.logs.entries_in.Given as goal

abbrev pub invariant-loop-payload : goal.invariant-loop-payload
invariant-loop-payload l = IsRead l.format (map (λ p. p.now) l.payloads) l.payload-index l.entries l.place
