-- A log of the first format, written into an empty file in the second.
use Rattle.std.proofs.Common.{◌≡◌, ℕ, ◌+◌, List, [], ◌∷◌, ◌++◌, length, get_or, Option, Some, None, refl, sym, ◌∙◌, ap, subst, arith}
use Rattle.std.proofs.lemmas.List.{append-nil, ext_get_or, map-append}
use Rattle.std.proofs.lemmas.Grind.{flat_map-append}
use Rattle.std.specs.List.{AllByRecursion, flat_map}
use Rattle.std.specs.Option.{ForSome}
use Rattle.shop_disk.specs.Calls.{Measures, WritesAt}
use Rattle.shop_disk.specs.DiskStates.{DiskState}
use Rattle.shop_disk.specs.Images.{Holds, Torn}
use Rattle.shop_disk.specs.declared.disk.Length.TheVariants as size
use Rattle.shop_disk.specs.declared.disk.Wrote.TheVariants as wrote
use Rattle.shop_history.specs.declared.acts.Entry.{Entry}
use Rattle.shop_records.specs.Records.{IsPayload, record_of}
use Rattle.shop_journal.specs.declared.headers.Format.TheVariants.{First, Second}
use Rattle.shop_journal.specs.declared.headers.Head.{Head}
use Rattle.shop_journal.specs.Headers.{IsHead}
use Rattle.shop_journal.specs.Journals.{Keeps, front_of, payloads_of}
use Rattle.shop_journal.specs.declared.migrating.Migrated.{Migrated}
use Rattle.shop_journal.specs.declared.migrating.Migrated.TheVariants as migrated
use Rattle.shop_journal.specs.Migrating.{IsMoved, IsWritten, MigratesAs, WritesAs}
use Rattle.shop_journal.specs.Payloads.{IsEntry, payload_of}
use Rattle.shop_journal.proofs.Files.{header_long}
use Rattle.shop_journal.proofs.Lengths.{fits}

-- ---- entries

all_second : (entries : List Entry) → AllByRecursion (IsEntry First) entries → AllByRecursion (IsEntry Second) entries
all_second [] each = tt
all_second (e ∷ es) each = (record { bounded = each.0.bounded; stamp = each.0.stamp; kind = tt }, all_second es each.1)

all_fit : (entries : List Entry) → AllByRecursion (IsEntry Second) entries → AllByRecursion IsPayload (payloads_of Second entries)
all_fit [] each = tt
all_fit (e ∷ es) each = (fits Second e each.0.bounded, all_fit es each.1)

keeps_second : (head : Head) (entries : List Entry) (file : List ℕ) → IsHead head → AllByRecursion (IsEntry Second) entries → file ≡ front_of Second head entries ++ 0 ∷ [] → Keeps Second head entries file
keeps_second head entries file is each same = record {
  head_is = is;
  each = each;
  keeps = record { gate = 0; behind = []; headed = header_long Second head; shut = omega arith; each = all_fit entries each; is = same };
}

moved : (old before : Option (List ℕ)) (now : DiskState) (count : ℕ) (head : Head) (entries : List Entry) → ForSome old (Keeps First head entries) → IsWritten count before now head entries
    → ForSome old (IsMoved count before now)
moved old before now count head entries kept written = λ file told.
    let was = kept file told in
    record {
      head = head;
      entries = entries;
      old = was;
      written = written;
      new = λ new is. keeps_second head entries new was.head_is (all_second entries was.each) (written.made new is);
    }

-- the records of one entry more
pub records_more : (entries : List Entry) (entry : Entry) → flat_map record_of (payloads_of Second (entries ++ entry ∷ [])) ≡ flat_map record_of (payloads_of Second entries) ++ record_of (payload_of Second entry)
records_more entries entry =
    let mine = payloads_of Second entries in
    let one = payload_of Second entry in
    ap (flat_map record_of) (map-append (payload_of Second) entries (entry ∷ []))
    ∙ flat_map-append record_of mine (one ∷ [])
    ∙ ap (λ (l : List ℕ). flat_map record_of mine ++ l) (append-nil (record_of one))

-- ---- files

no_bytes : (file : List ℕ) → 0 ≡ length file → file ≡ []
no_bytes [] none = refl
no_bytes (b ∷ file) none = absurd (omega (arith, none))

pub empty_known : (told : Option (List ℕ)) → Measures told (size.Bytes 0) → ForSome told (λ file. file ≡ [])
empty_known None measures = λ file is. absurd (cc is)
empty_known (Some was) measures = λ file is. let same : was ≡ file = cc is in no_bytes file (subst (λ f. 0 ≡ length f) same measures)

whole : (bytes new : List ℕ) → Torn 0 (length bytes) [] new → Holds new 0 bytes → new ≡ bytes
whole bytes new torn holds =
    let long : length new ≡ length bytes = omega (arith, torn.no_longer, holds.within) in ext_get_or 0 new bytes long (λ i less.
    let same : 0 + i ≡ i = omega arith in
    subst (λ (n : ℕ). get_or new n 0 ≡ get_or bytes i 0) same (holds.each i (omega (arith, less, long))))

pub written_whole : (old mid : Option (List ℕ)) (bytes : List ℕ) → ForSome old (λ file. file ≡ []) → WritesAt old mid 0 bytes wrote.Done → ForSome mid (λ file. file ≡ bytes)
written_whole None None bytes empty writes = λ file is. absurd (cc is)
written_whole None (Some new) bytes empty writes = absurd writes
written_whole (Some was) None bytes empty writes = absurd writes
written_whole (Some was) (Some new) bytes empty writes = λ file is.
    let same : new ≡ file = cc is in sym same ∙ whole bytes new (subst (λ f. Torn 0 (length bytes) f new) (empty was refl) writes.0) writes.1

-- what came of the log that was read
pub migrated_as : (result : Migrated) (old before : Option (List ℕ)) (now : DiskState) (head : Head) (entries : List Entry) → ForSome old (Keeps First head entries)
    → WritesAs result before now head entries → MigratesAs result old before now
migrated_as (migrated.Done count) old before now head entries kept writes = moved old before now count head entries kept writes
migrated_as (migrated.NotAJournal at) old before now head entries kept writes = absurd writes
migrated_as migrated.NotEmpty old before now head entries kept writes =
    (writes.0, writes.1, λ file told. record { head = head; entries = entries; keeps = kept file told })
migrated_as migrated.Failed old before now head entries kept writes = tt
migrated_as migrated.Memory old before now head entries kept writes = writes
