use Rattle.std.proofs.Common.{◌≡◌, ◌++◌, ◌∷◌, [], ◌∙◌, List, ℕ, length, Option, refl, subst, sym, rules}
use Rattle.std.specs.Option.{ForSome}
use Rattle.shop_disk.specs.Calls.{WritesAt, Measures}
use Rattle.shop_disk.specs.declared.disk.Length.TheVariants as size
use Rattle.shop_records.specs.Records.{header_length}
use Rattle.shop_records.specs.Standing.{IsDurable}
use Rattle.shop_records.proofs.Creating.{empty_known, is_made, settled_made}
use Rattle.shop_records.proofs.records.Records.create.Goals as goal

pub invariant_of-result : goal.invariant_of-result
invariant_of-result g c =
    let state = g.D.Disk.state in
    let zero : c.in-Bytes-eq0.field-0 ≡ 0 = search rules in
    let headed : length c.args.header.now ≡ header_length = search rules in
    let empty_first = empty_known (state c.args.disk).told (subst (λ (n : ℕ). Measures (state c.args.disk).told (size.Bytes n)) zero c.in-Bytes-eq0.ensures.length) in
    let empty = subst (λ (t : Option (List ℕ)). ForSome t (λ file. file ≡ [])) (sym c.length.ensures.told) empty_first in
    let bytes_are : c.deref.result.now ≡ c.args.header.now ++ 0 ∷ [] = c.deref.ensures.value ∙ c.in-Ok.ensures in
    let writes = subst (WritesAt (state c.length.new.self).told (state c.write_at.new.self).told 0 c.deref.result.now) c.in-Done.is c.write_at.ensures.written in
    let durable : IsDurable (state c.sync.new.self) = search rules in
    settled_made c.args.header.now c.deref.result.now headed bytes_are (state c.length.new.self) (state c.write_at.new.self) (state c.sync.new.self) empty writes c.sync.ensures.told durable header_length refl

pub returns-clause-created : goal.returns-clause-created
returns-clause-created g c =
    let state = g.D.Disk.state in
    let zero : c.in-Bytes-eq0.field-0 ≡ 0 = search rules in
    let headed : length c.args.header.now ≡ header_length = search rules in
    let empty_first = empty_known (state c.args.disk).told (subst (λ (n : ℕ). Measures (state c.args.disk).told (size.Bytes n)) zero c.in-Bytes-eq0.ensures.length) in
    let empty = subst (λ (t : Option (List ℕ)). ForSome t (λ file. file ≡ [])) (sym c.length.ensures.told) empty_first in
    let bytes_are : c.deref.result.now ≡ c.args.header.now ++ 0 ∷ [] = c.deref.ensures.value ∙ c.in-Ok.ensures in
    let writes = subst (WritesAt (state c.length.new.self).told (state c.write_at.new.self).told 0 c.deref.result.now) c.in-Done.is c.write_at.ensures.written in
    let durable : IsDurable (state c.sync.new.self) = search rules in
    is_made c.args.header.now c.deref.result.now headed bytes_are (state c.length.new.self) (state c.write_at.new.self) (state c.sync.new.self) empty writes c.sync.ensures.told durable
    (state c.args.disk).told empty_first (g.D.Disk.is_disk c.sync.new.self)
