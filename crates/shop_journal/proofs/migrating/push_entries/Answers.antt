use Rattle.std.proofs.Common.{◌≡◌, ◌++◌, ◌∷◌, [], ◌+◌, List, ℕ, take, sym, ◌∙◌, ap}
use Rattle.std.proofs.lemmas.List.{append_assoc, take_more}
use Rattle.std.specs.List.{flat_map}
use Rattle.shop_history.specs.declared.acts.Entry.{Entry}
use Rattle.shop_records.specs.Records.{record_of}
use Rattle.shop_journal.specs.declared.headers.Format.TheVariants.{Second}
use Rattle.shop_journal.specs.Journals.{payloads_of}
use Rattle.shop_journal.specs.Payloads.{payload_of}
use Rattle.shop_journal.proofs.Moving.{records_more}
use Rattle.shop_journal.proofs.migrating.push_entries.Goals as goal

pub loop-entry-preserved : goal.loop-entry-preserved
loop-entry-preserved c =
    let entries = c.args.entries.now in
    let at = c.loop-entry.entry-index in
    let item : Entry = c.entry-item.result in
    let text = c.args.text.now in
    let mine = flat_map record_of (payloads_of Second (take at entries)) in
    let one = record_of (payload_of Second item) in
    let taken : take (at + 1) entries ≡ take at entries ++ item ∷ [] = take_more entries at item c.loop-entry-test.true ∙ ap (λ (e : Entry). take at entries ++ e ∷ []) (sym c.entry-item.is) in
    let more : flat_map record_of (payloads_of Second (take (at + 1) entries)) ≡ mine ++ one =
    ap (λ (es : List Entry). flat_map record_of (payloads_of Second es)) taken ∙ records_more (take at entries) item in
    c.in_ok-push_entry.ensures ∙ ap (λ (l : List ℕ). l ++ one) c.loop-entry.invariant ∙ append_assoc text mine one ∙ ap (λ (l : List ℕ). text ++ l) (sym more)
