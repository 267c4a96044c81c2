use Rattle.std.proofs.Common.{◌≡◌, ◌++◌, List, ℕ, OnOk, sym, ◌∙◌, subst}
use Rattle.shop_records.specs.Records.{IsPayload, record_of}
use Rattle.shop_journal.specs.declared.headers.Format.TheVariants.{Second}
use Rattle.shop_journal.proofs.Lengths.{fits}
use Rattle.shop_journal.proofs.migrating.push_entry.Goals as goal

pub push_record-requires : goal.push_record-requires
push_record-requires c = subst IsPayload (sym (c.bytes.ensures ∙ c.in_ok-payload.ensures.payload)) (fits Second c.args.entry.now c.in_ok-payload.ensures.bounded)

pub returns : goal.returns
returns c =
    subst (λ (p : List ℕ). OnOk c.push_record.result (c.push_record.new.text ≡ c.args.text.now ++ record_of p)) (c.bytes.ensures ∙ c.in_ok-payload.ensures.payload) c.push_record.ensures
