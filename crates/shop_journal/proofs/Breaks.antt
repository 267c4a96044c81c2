-- Where a file that keeps no records is no journal.
use Rattle.std.proofs.Common.{◌≡◌, inl, inr, ℕ, ◌≤◌, min, List, [], ◌∷◌, ◌++◌, length, take, sym, ◌∙◌, ap, arith}
use Rattle.std.proofs.lemmas.List.{length-append, take_at}
use Rattle.shop_history.specs.declared.acts.Entry.{Entry}
use Rattle.shop_records.specs.Records as records
use Rattle.shop_records.specs.Scanning as scanning
use Rattle.shop_journal.specs.declared.headers.Format.{Format}
use Rattle.shop_journal.specs.declared.headers.Head.{Head}
use Rattle.shop_journal.specs.Journals.{Breaks, IsLog, IsNone}
use Rattle.shop_journal.specs.Payloads.{payload_of}
use Rattle.shop_journal.proofs.Files.{breaks_none}
use Rattle.shop_journal.proofs.Lengths.{fits}

-- where records break off, behind their header
pub record Behind (at front : ℕ) (bytes : List ℕ) : Type 0 where
  pub broken : scanning.IsBrokenAt at bytes
  pub same : front ≡ at
  pub keeps : records.Keeps broken.header broken.payloads (take front bytes ++ 0 ∷ [])

broken_behind : (at front : ℕ) (bytes : List ℕ) → scanning.IsBrokenAt at bytes → front ≡ min at (length bytes) → Behind at front bytes
broken_behind at front bytes broken is =
    let whole = records.front_of broken.header broken.payloads in
    let same : front ≡ at = omega (arith, is, broken.place, ap length broken.is, length-append whole broken.rest) in
    let taken : take front bytes ≡ whole = ap (take front) broken.is ∙ take_at whole broken.rest front (sym broken.place ∙ sym same) in
    record {
      broken = broken;
      same = same;
      keeps = record { gate = 0; behind = []; headed = broken.headed; shut = omega arith; each = broken.each; is = ap (λ (l : List ℕ). l ++ 0 ∷ []) taken };
    }

pub front_long : (at front : ℕ) (bytes : List ℕ) → scanning.IsNone at bytes → front ≡ min at (length bytes) → 32 ≤ front → Behind at front bytes
front_long at front bytes (inl short) is many = absurd (omega (arith, is, many, short.1))
front_long at front bytes (inr broken) is many = broken_behind at front bytes broken is

-- all records in front of that place keep entries
pub log_breaks : (format : Format) (at front : ℕ) (bytes : List ℕ) (place : Behind at front bytes) (head : Head) (entries : List Entry)
    → IsLog format place.broken.header place.broken.payloads head entries → IsNone format at bytes
log_breaks format at front bytes place head entries log =
    let broken = place.broken in
    inr (record {
      head = head;
      entries = entries;
      behind = broken.rest;
      head_is = log.head_is;
      each = log.each;
      is = broken.is ∙ (λ i. records.front_of (log.header_same i) (log.payloads_same i) ++ broken.rest);
      place = broken.place ∙ (λ i. length (records.front_of (log.header_same i) (log.payloads_same i)));
      broken = record {
        no_record = λ entry more is same. broken.broken.no_record (payload_of format entry) more (fits format entry is.bounded) same;
        no_gate = broken.broken.no_gate;
      };
    })

-- one of them keeps none
pub record_breaks : (format : Format) (at front : ℕ) (bytes : List ℕ) (place : Behind at front bytes) (stop : ℕ) → Breaks format stop place.broken.header place.broken.payloads → IsNone format stop bytes
record_breaks format at front bytes place stop breaks =
    let broken = place.broken in breaks_none format stop broken.header broken.payloads broken.rest bytes broken.headed broken.each broken.is breaks
