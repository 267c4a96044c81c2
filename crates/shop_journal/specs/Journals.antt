-- The bytes of a journal: a header, and the records of entries.
use Rattle.std.specs.Prelude.{◌≡◌, ◌≢◌, ◌⊎◌, ◌+◌, ℕ, List, ◌∷◌, ◌++◌, map, length}
use Rattle.std.specs.List.{AllByRecursion, flat_map}
use Rattle.shop_history.specs.declared.acts.Entry.{Entry}
use Rattle.shop_records.specs.Records as records
use Rattle.shop_journal.specs.declared.headers.Format.{Format}
use Rattle.shop_journal.specs.declared.headers.Head.{Head}
use Rattle.shop_journal.specs.Headers.{IsHead, header_of, magic}
use Rattle.shop_journal.specs.Payloads.{IsEntry, payload_of}

abbrev pub payloads_of : Format → List Entry → List (List ℕ)
payloads_of format entries = map (payload_of format) entries

-- the file is a journal of the shop with this head, and of these entries
pub record Keeps (format : Format) (head : Head) (entries : List Entry) (file : List ℕ) : Type 0 where
  pub head_is : IsHead head
  pub each : AllByRecursion (IsEntry format) entries
  pub keeps : records.Keeps (header_of format head) (payloads_of format entries) file

-- the file begins as one of this format
pub record BeginsAs (format : Format) (file : List ℕ) : Type 0 where
  pub behind : List ℕ
  pub is : file ≡ magic format ++ behind

-- no header stands at the front
abbrev pub HasNoHeader : Format → List ℕ → Type 0
HasNoHeader format file = (head : Head) (behind : List ℕ) → IsHead head → file ≢ header_of format head ++ behind

-- neither the record of an entry nor a gate that is shut stands at the front
pub record IsBroken (format : Format) (bytes : List ℕ) : Type 0 where
  pub no_record : (entry : Entry) (behind : List ℕ) → IsEntry format entry → bytes ≢ records.record_of (payload_of format entry) ++ behind
  pub no_gate : (gate : ℕ) (behind : List ℕ) → gate ≢ 1 → bytes ≢ gate ∷ behind

-- what stands in front of the gate behind entries
abbrev pub front_of : Format → Head → List Entry → List ℕ
front_of format head entries = records.front_of (header_of format head) (payloads_of format entries)

-- behind a header and the records of entries neither the record of one nor a gate that is shut stands at this place
pub record IsBrokenAt (format : Format) (at : ℕ) (file : List ℕ) : Type 0 where
  pub head : Head
  pub entries : List Entry
  pub behind : List ℕ
  pub head_is : IsHead head
  pub each : AllByRecursion (IsEntry format) entries
  pub is : file ≡ front_of format head entries ++ behind
  pub place : at ≡ length (front_of format head entries)
  pub broken : IsBroken format behind

-- the file is no journal, and this place tells why: that of the header, or of the first gate whose record is none, or that is
-- missing
abbrev pub IsNone : Format → ℕ → List ℕ → Type 0
IsNone format at file = ((at ≡ 0) × HasNoHeader format file) ⊎ IsBrokenAt format at file

-- among payloads, the first that is no entry's is the one of the record whose gate is at this place
pub record StopsAt (format : Format) (at : ℕ) (payloads : List (List ℕ)) : Type 0 where
  pub entries : List Entry
  pub payload : List ℕ
  pub behind : List (List ℕ)
  pub each : AllByRecursion (IsEntry format) entries
  pub is : payloads ≡ payloads_of format entries ++ payload ∷ behind
  pub place : at ≡ records.header_length + length (flat_map records.record_of (payloads_of format entries))
  pub other : (entry : Entry) → IsEntry format entry → payload ≢ payload_of format entry

-- a header and payloads are those of this log
pub record IsLog (format : Format) (header : List ℕ) (payloads : List (List ℕ)) (head : Head) (entries : List Entry) : Type 0 where
  pub head_is : IsHead head
  pub each : AllByRecursion (IsEntry format) entries
  pub header_same : header ≡ header_of format head
  pub payloads_same : payloads ≡ payloads_of format entries

-- they are of none: the header is none, or a payload
pub record IsStopped (format : Format) (at : ℕ) (header : List ℕ) (payloads : List (List ℕ)) : Type 0 where
  pub head : Head
  pub head_is : IsHead head
  pub header_same : header ≡ header_of format head
  pub stops : StopsAt format at payloads

abbrev pub Breaks : Format → ℕ → List ℕ → List (List ℕ) → Type 0
Breaks format at header payloads =
    ((at ≡ 0) × ((head : Head) → IsHead head → header ≢ header_of format head)) ⊎ IsStopped format at header payloads
