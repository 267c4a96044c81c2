use Rattle.std.proofs.Common.{◌≡◌, List, ℕ, [], Option, sym, ◌∙◌, subst, rules}
use Rattle.std.specs.Option.{ForSome}
use Rattle.shop_disk.specs.Calls.{Measures, WritesAt}
use Rattle.shop_disk.specs.declared.disk.Length.TheVariants as size
use Rattle.shop_records.specs.Standing.{IsDurable}
use Rattle.shop_journal.proofs.Moving.{empty_known, written_whole}
use Rattle.shop_journal.proofs.migrating.write_to.Goals as goal

pub returns-clause-writes : goal.returns-clause-writes
returns-clause-writes g c =
    let state = g.E.Disk.state in
    let zero : c.in-Bytes-eq0.field-0 ≡ 0 = search rules in
    let empty = empty_known (state c.args.new.now).told (subst (λ (n : ℕ). Measures (state c.args.new.now).told (size.Bytes n)) zero c.in-Bytes-eq0.ensures.length) in
    let still = subst (λ (t : Option (List ℕ)). ForSome t (λ file. file ≡ [])) (sym c.length.ensures.told) empty in
    let writes = subst (WritesAt (state c.length.new.self).told (state c.write_at.new.self).told 0 c.bytes.result.now) c.in-Done.is c.write_at.ensures.written in
    let durable : IsDurable (state c.sync.new.self) = search rules in
    record {
      empty = empty;
      count_is = search rules;
      made = λ file is.
          written_whole (state c.length.new.self).told (state c.write_at.new.self).told c.bytes.result.now still writes file (sym c.sync.ensures.told ∙ is) ∙ c.bytes.ensures ∙ c.in-Ok.ensures;
      durable = durable;
    }
