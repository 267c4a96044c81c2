-- What is read at the front of bytes, and of a whole file.
use Rattle.std.specs.Prelude.{◌≡◌, ◌≢◌, ◌⊎◌, ℕ, ◌<◌, List, ◌∷◌, ◌++◌, length, Option, Bool, true, false}
use Rattle.std.specs.List.{AllByRecursion, flat_map}
use Rattle.std.specs.Option.{ForSome}
use Rattle.shop_records.specs.declared.scanning.Next.{Next}
use Rattle.shop_records.specs.declared.scanning.Next.TheVariants as next
use Rattle.shop_records.specs.Records.{IsPayload, record_of, front_of, header_length}

-- neither a record nor a gate that is shut stands at the front
pub record IsBroken (bytes : List ℕ) : Type 0 where
  pub no_record : (payload rest : List ℕ) → IsPayload payload → bytes ≢ record_of payload ++ rest
  pub no_gate : (gate : ℕ) (behind : List ℕ) → gate ≢ 1 → bytes ≢ gate ∷ behind

-- a gate that is shut stands at the front
pub record IsShut (bytes : List ℕ) : Type 0 where
  pub gate : ℕ
  pub behind : List ℕ
  pub shut : gate ≢ 1
  pub is : bytes ≡ gate ∷ behind

-- what stands at the front
abbrev pub NextAs : List ℕ → Next → Type 0
NextAs bytes (next.Record payload rest) = IsPayload payload.now × (bytes ≡ record_of payload.now ++ rest.now)
NextAs bytes next.Shut = IsShut bytes
NextAs bytes next.Broken = IsBroken bytes

-- a gate is shut, or nothing that could be there is
abbrev pub StopsAs : List ℕ → Bool → Type 0
StopsAs rest true = IsShut rest
StopsAs rest false = IsBroken rest

-- the bytes are the records of some payloads, and a rest
pub record ScannedAs (bytes rest : List ℕ) (is_shut : Bool) : Type 0 where
  pub payloads : List (List ℕ)
  pub each : AllByRecursion IsPayload payloads
  pub is : bytes ≡ flat_map record_of payloads ++ rest
  pub stops : StopsAs rest is_shut

-- the whole file was read
abbrev pub ReadsWhole : Option (List ℕ) → List ℕ → Type 0
ReadsWhole told bytes = ForSome told (λ file. bytes ≡ file)

-- behind a header and records neither a record nor a gate that is shut stands at this place
pub record IsBrokenAt (at : ℕ) (file : List ℕ) : Type 0 where
  pub header : List ℕ
  pub payloads : List (List ℕ)
  pub rest : List ℕ
  pub headed : length header ≡ header_length
  pub each : AllByRecursion IsPayload payloads
  pub is : file ≡ front_of header payloads ++ rest
  pub place : at ≡ length (front_of header payloads)
  pub broken : IsBroken rest

-- the file keeps no records, and this place tells why: that of the header, or of the first gate whose record is none, or
-- that is missing
abbrev pub IsNone : ℕ → List ℕ → Type 0
IsNone at file = ((at ≡ 0) × (length file < header_length)) ⊎ IsBrokenAt at file
