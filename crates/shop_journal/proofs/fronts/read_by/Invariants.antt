use Rattle.std.proofs.Common.{◌≡◌, length, take}
use Rattle.std.specs.Option.{ForSome}
use Rattle.shop_records.specs.Looking.{Looks}
use Rattle.shop_journal.proofs.fronts.read_by.Given as goal

abbrev pub invariant-loop : goal.invariant-loop
invariant-loop g l =
    let old = g.D.Disk.state l.fn.disk in
    record {
      looks : Looks old (g.D.Disk.state l.disk);
      front : ForSome old.told (λ file. l.bytes.items ≡ take (length l.bytes.items) file);
    }
