use Rattle.std.proofs.Common.{◌≡◌, ◌++◌, take}
use Rattle.std.specs.List.{flat_map}
use Rattle.shop_records.specs.Records.{record_of}
use Rattle.shop_journal.specs.declared.headers.Format.TheVariants.{Second}
use Rattle.shop_journal.specs.Journals.{payloads_of}
use Rattle.shop_journal.proofs.migrating.push_entries.Given as goal

abbrev pub invariant-loop-entry : goal.invariant-loop-entry
invariant-loop-entry l = l.text ≡ l.fn.text ++ flat_map record_of (payloads_of Second (take l.entry-index l.entries))
