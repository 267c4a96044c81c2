use Rattle.std.proofs.Common.{◌≡◌, ◌+◌, ◌++◌, [], ◌∷◌, length, ◌∙◌, ap, subst, sym, arith}
use Rattle.std.specs.Prelude.{is_some}
use Rattle.std.specs.Int.{to_be_bytes, w32}
use Rattle.shop_disk.specs.Calls.{WritesAt}
use Rattle.shop_disk.specs.DiskStates.{LeavesOnly}
use Rattle.shop_records.specs.Standing.{Stands, KeepsOr}
use Rattle.shop_records.proofs.Putting.{writes_tell}
use Rattle.shop_records.proofs.Appends.{within_known, past_gate, after_first, after_both, stands_after, settled_after}
use Rattle.shop_records.proofs.Runs.{failed_on, done_on}
use Rattle.shop_records.proofs.records.Records.append.Goals as goal

pub put-requires-clause-within : goal.put-requires-clause-within
put-requires-clause-within g c =
    let disk = g.D.Disk.state c.self.inside.disk in
    within_known disk.told (c.self.inside.gate + 1) (past_gate disk c.self.inside.gate c.self.invariant)

pub put-requires-2-clause-durable : goal.put-requires-2-clause-durable
put-requires-2-clause-durable g c = c.put.ensures.durable c.in-Done.is

pub returns-in_default-put-clause-any_moment : goal.returns-in_default-put-clause-any_moment
returns-in_default-put-clause-any_moment g c = λ header payloads file is keeps.
    let state = g.D.Disk.state in
    let tail_is : c.deref.result.now ≡ to_be_bytes w32 (length c.args.payload.now) ++ c.args.payload.now ++ 0 ∷ [] = c.deref.ensures.value ∙ c.in-Ok.ensures in
    subst (λ d. LeavesOnly (state d) (state c.put.new.disk) (KeepsOr header payloads c.args.payload.now)) c.self.view_is
    (after_first (state c.self.inside.disk) (state c.put.new.disk) c.self.inside.gate c.args.payload.now c.deref.result.now c.self.invariant c.requires tail_is
    c.put.ensures.any_moment header payloads file (ap (λ d. (state d).told) c.self.view_is ∙ is) keeps)

pub returns-in_default-put-2-clause-any_moment : goal.returns-in_default-put-2-clause-any_moment
returns-in_default-put-2-clause-any_moment g c = λ header payloads file is keeps.
    let state = g.D.Disk.state in
    let disk = c.self.inside.disk in
    let tail_is : c.deref.result.now ≡ to_be_bytes w32 (length c.args.payload.now) ++ c.args.payload.now ++ 0 ∷ [] = c.deref.ensures.value ∙ c.in-Ok.ensures in
    let wrote = subst (WritesAt (state disk).told (state c.put.new.disk).told (c.self.inside.gate + 1) c.deref.result.now) c.in-Done.is c.put.ensures.written in
    subst (λ d. LeavesOnly (state d) (state c.put-2.new.disk) (KeepsOr header payloads c.args.payload.now)) c.self.view_is
    (after_both (state disk) (state c.put.new.disk) c.self.inside.gate c.args.payload.now c.deref.result.now c.self.invariant c.requires tail_is c.put.ensures.any_moment
    (state c.put-2.new.disk) wrote c.put-2.ensures.any_moment header payloads file (ap (λ d. (state d).told) c.self.view_is ∙ is) keeps)

pub returns-clause-any_moment : goal.returns-clause-any_moment
returns-clause-any_moment g c = λ header payloads file is keeps.
    let state = g.D.Disk.state in
    let disk = c.self.inside.disk in
    let tail_is : c.deref.result.now ≡ to_be_bytes w32 (length c.args.payload.now) ++ c.args.payload.now ++ 0 ∷ [] = c.deref.ensures.value ∙ c.in-Ok.ensures in
    let wrote = subst (WritesAt (state disk).told (state c.put.new.disk).told (c.self.inside.gate + 1) c.deref.result.now) c.in-Done.is c.put.ensures.written in
    subst (λ d. LeavesOnly (state d) (state c.put-2.new.disk) (KeepsOr header payloads c.args.payload.now)) c.self.view_is
    (after_both (state disk) (state c.put.new.disk) c.self.inside.gate c.args.payload.now c.deref.result.now c.self.invariant c.requires tail_is c.put.ensures.any_moment
    (state c.put-2.new.disk) wrote c.put-2.ensures.any_moment header payloads file (ap (λ d. (state d).told) c.self.view_is ∙ is) keeps)

pub returns-clause-kept : goal.returns-clause-kept
returns-clause-kept g c = λ header payloads stands.
    let state = g.D.Disk.state in
    let disk = c.self.inside.disk in
    let tail_is : c.deref.result.now ≡ to_be_bytes w32 (length c.args.payload.now) ++ c.args.payload.now ++ 0 ∷ [] = c.deref.ensures.value ∙ c.in-Ok.ensures in
    let wrote = subst (WritesAt (state disk).told (state c.put.new.disk).told (c.self.inside.gate + 1) c.deref.result.now) c.in-Done.is c.put.ensures.written in
    let opens = subst (WritesAt (state c.put.new.disk).told (state c.put-2.new.disk).told c.self.inside.gate (1 ∷ [])) c.in-Done-put.is c.put-2.ensures.written in
    stands_after (state disk) (state c.put.new.disk) c.self.inside.gate c.args.payload.now c.deref.result.now c.self.invariant c.requires tail_is c.put.ensures.any_moment
    (state c.put-2.new.disk) wrote c.put-2.ensures.any_moment opens (c.put-2.ensures.durable c.in-Done-put.is) header payloads
    (subst (λ d. Stands (state d) header payloads) (sym c.self.view_is) stands)

pub invariant_of-result-2 : goal.invariant_of-result-2
invariant_of-result-2 g c =
    let state = g.D.Disk.state in
    let disk = c.self.inside.disk in
    let tail_is : c.deref.result.now ≡ to_be_bytes w32 (length c.args.payload.now) ++ c.args.payload.now ++ 0 ∷ [] = c.deref.ensures.value ∙ c.in-Ok.ensures in
    let wrote = subst (WritesAt (state disk).told (state c.put.new.disk).told (c.self.inside.gate + 1) c.deref.result.now) c.in-Done.is c.put.ensures.written in
    let opens = subst (WritesAt (state c.put.new.disk).told (state c.put-2.new.disk).told c.self.inside.gate (1 ∷ [])) c.in-Done-put.is c.put-2.ensures.written in
    settled_after (state disk) (state c.put.new.disk) c.self.inside.gate c.args.payload.now c.deref.result.now c.self.invariant c.requires tail_is c.put.ensures.any_moment
    (state c.put-2.new.disk) wrote c.put-2.ensures.any_moment opens (c.put-2.ensures.durable c.in-Done-put.is) c.in-Some.next (omega (arith, c.in-Some.ensures, c.len.ensures, c.deref.ensures.len))

pub returns-in_default-put-clause-tells : goal.returns-in_default-put-clause-tells
returns-in_default-put-clause-tells g c = writes_tell _ _ _ _ _ c.put.ensures.written ∙ ap (λ d. is_some (g.D.Disk.state d).told) c.self.view_is

pub returns-in_default-put-2-clause-tells : goal.returns-in_default-put-2-clause-tells
returns-in_default-put-2-clause-tells g c =
    writes_tell _ _ _ _ _ c.put-2.ensures.written ∙ writes_tell _ _ _ _ _ c.put.ensures.written ∙ ap (λ d. is_some (g.D.Disk.state d).told) c.self.view_is

pub returns-clause-tells : goal.returns-clause-tells
returns-clause-tells g c =
    writes_tell _ _ _ _ _ c.put-2.ensures.written ∙ writes_tell _ _ _ _ _ c.put.ensures.written ∙ ap (λ d. is_some (g.D.Disk.state d).told) c.self.view_is

pub returns-in_default-put-clause-run : goal.returns-in_default-put-clause-run
returns-in_default-put-clause-run g c = λ run so_far.
    let state = g.D.Disk.state in
    failed_on (state c.args.self) (state c.put.new.disk) run c.args.payload.now so_far (returns-in_default-put-clause-any_moment g c) (g.D.Disk.is_disk c.put.new.disk)

pub returns-in_default-put-2-clause-run : goal.returns-in_default-put-2-clause-run
returns-in_default-put-2-clause-run g c = λ run so_far.
    let state = g.D.Disk.state in
    failed_on (state c.args.self) (state c.put-2.new.disk) run c.args.payload.now so_far (returns-in_default-put-2-clause-any_moment g c) (g.D.Disk.is_disk c.put-2.new.disk)

pub returns-clause-run : goal.returns-clause-run
returns-clause-run g c = λ run so_far.
    let state = g.D.Disk.state in
    done_on (state c.args.self) (state c.put-2.new.disk) run c.args.payload.now so_far (returns-clause-any_moment g c) (g.D.Disk.is_disk c.put-2.new.disk)
    (returns-clause-tells g c) (returns-clause-kept g c)
