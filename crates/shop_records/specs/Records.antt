-- The bytes of a file of records: a header, records behind open gates, and a gate that is shut.
use Rattle.std.specs.Prelude.{◌≡◌, ◌≢◌, ℕ, ◌≤◌, List, ◌∷◌, ◌++◌, length}
use Rattle.std.specs.List.{flat_map, AllByRecursion}
use Rattle.std.specs.Int.{to_be_bytes, w32}

-- the bytes of a header
abbrev pub header_length : ℕ
header_length = 32

-- the most bytes of a payload
abbrev pub payload_limit : ℕ
payload_limit = 16_384

abbrev pub IsPayload : List ℕ → Type 0
IsPayload payload = length payload ≤ payload_limit

-- an open gate, the length of a payload, and the payload
abbrev pub record_of : List ℕ → List ℕ
record_of payload = 1 ∷ to_be_bytes w32 (length payload) ++ payload

-- a header, and the records of payloads
abbrev pub front_of : List ℕ → List (List ℕ) → List ℕ
front_of header payloads = header ++ flat_map record_of payloads

-- the file is a header, the records of payloads, a gate that is shut, and whatever stands behind it
pub record Keeps (header : List ℕ) (payloads : List (List ℕ)) (file : List ℕ) : Type 0 where
  pub gate : ℕ
  pub behind : List ℕ
  pub headed : length header ≡ header_length
  pub shut : gate ≢ 1
  pub each : AllByRecursion IsPayload payloads
  pub is : file ≡ front_of header payloads ++ gate ∷ behind

-- the file keeps some payloads
pub record IsKept (file : List ℕ) : Type 0 where
  pub header : List ℕ
  pub payloads : List (List ℕ)
  pub keeps : Keeps header payloads file
