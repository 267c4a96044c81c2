use Rattle.std.proofs.Common.{◌≡◌, List, ℕ, ◌++◌, ◌∷◌, [], sym, ◌∙◌, subst}
use Rattle.shop_records.specs.Records.{IsPayload}
use Rattle.shop_records.specs.Runs as runs
use Rattle.shop_records.specs.Standing as standing
use Rattle.shop_journal.specs.declared.headers.Format.TheVariants.{Second}
use Rattle.shop_journal.specs.Appending.{Stands}
use Rattle.shop_journal.specs.Headers.{header_of}
use Rattle.shop_journal.specs.Journals.{payloads_of}
use Rattle.shop_journal.specs.Payloads.{IsEntry, payload_of}
use Rattle.shop_journal.specs.Runs.{Standing, records_of}
use Rattle.shop_journal.proofs.Lengths.{fits}
use Rattle.shop_journal.proofs.Runs.{leaves_more, standing_more, stands_more}
use Rattle.shop_journal.proofs.journal.Journal.append.Goals as goal

pub append-requires : goal.append-requires
append-requires g c = subst IsPayload (sym (c.bytes.ensures ∙ c.in-Ok.ensures.payload)) (fits Second c.args.entry.now c.in-Ok.ensures.bounded)

pub returns-in-Done-clause-kept : goal.returns-in-Done-clause-kept
returns-in-Done-clause-kept g c = λ head entries stands.
    let state = g.D.Disk.state in
    let entry = c.args.entry.now in
    let is : c.bytes.result.now ≡ payload_of Second entry = c.bytes.ensures ∙ c.in-Ok.ensures.payload in
    let before = subst (λ d. Stands (state d) head entries) (sym c.self.view_is) stands in
    stands_more (state c.in-Done.records) head entries entry
    (subst (λ (p : List ℕ). standing.Stands (state c.in-Done.records) (header_of Second head) (payloads_of Second entries ++ p ∷ [])) is
    (c.in-Done.ensures.kept (header_of Second head) (payloads_of Second entries) before))

pub returns-in-Done-clause-run : goal.returns-in-Done-clause-run
returns-in-Done-clause-run g c = λ run so_far.
    let state = g.D.Disk.state in
    let entry = c.args.entry.now in
    let now = state c.in-Done.records in
    let is : c.bytes.result.now ≡ payload_of Second entry = c.bytes.ensures ∙ c.in-Ok.ensures.payload in
    let kept : IsEntry Second entry = record { bounded = c.in-Ok.ensures.bounded; stamp = c.requires.stamp; kind = tt } in
    let before = subst (λ d. Standing (state d) run) (sym c.self.view_is) so_far in
    standing_more now run entry now.moment so_far.entries kept
    (subst (λ (p : List ℕ). runs.Standing now (runs.with_done p now.moment (records_of run))) is (c.in-Done.ensures.run (records_of run) before.records_stand))

pub returns-in-Failed-clause-run : goal.returns-in-Failed-clause-run
returns-in-Failed-clause-run g c = λ run so_far.
    let state = g.D.Disk.state in
    let entry = c.args.entry.now in
    let is : c.bytes.result.now ≡ payload_of Second entry = c.bytes.ensures ∙ c.in-Ok.ensures.payload in
    let kept : IsEntry Second entry = record { bounded = c.in-Ok.ensures.bounded; stamp = c.requires.stamp; kind = tt } in
    let before = subst (λ d. Standing (state d) run) (sym c.self.view_is) so_far in
    leaves_more (state c.in-Failed.disk) run entry so_far.entries kept
    (subst (λ (p : List ℕ). runs.Leaves (state c.in-Failed.disk) (runs.with_begun p (records_of run))) is (c.in-Failed.ensures.run (records_of run) before.records_stand))
