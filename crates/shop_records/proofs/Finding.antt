-- What is found of a file that was read whole.
use Rattle.std.proofs.Common.{◌≡◌, ℕ, ◌-◌, List, ◌++◌, length, Bool, true, false, Some, sym, ◌∙◌, ap, subst, inr, arith}
use Rattle.std.proofs.lemmas.List.{append_assoc, length-append}
use Rattle.std.specs.List.{flat_map}
use Rattle.shop_disk.specs.DiskStates.{DiskState, IsDisk}
use Rattle.shop_records.specs.declared.opening.Found.{Found}
use Rattle.shop_records.specs.declared.opening.Found.TheVariants as found
use Rattle.shop_records.specs.Records.{Keeps, IsKept, header_length, record_of, front_of}
use Rattle.shop_records.specs.Scanning.{ReadsWhole, ScannedAs, IsNone}
use Rattle.shop_records.specs.Standing.{Stands, IsSettled, IsDurable}
use Rattle.shop_records.specs.Opening.{IsOpen, FoundAs, FindsJust, disk_found}
use Rattle.shop_records.proofs.Spellings.{is_none}
use Rattle.shop_records.proofs.Runs.{run_begins}

module _ (header records bytes rest : List ℕ) (headed : length header ≡ header_length) (whole : bytes ≡ header ++ records) where
  front_is : (is_shut : Bool) (scanned : ScannedAs records rest is_shut) → bytes ≡ front_of header scanned.payloads ++ rest
  front_is is_shut scanned = whole ∙ ap (λ (l : List ℕ). header ++ l) scanned.is ∙ sym (append_assoc header (flat_map record_of scanned.payloads) rest)

  -- a gate that is shut ends the records
  kept : (scanned : ScannedAs records rest true) → Keeps header scanned.payloads bytes
  kept scanned = record {
    gate = scanned.stops.gate;
    behind = scanned.stops.behind;
    headed = headed;
    shut = scanned.stops.shut;
    each = scanned.each;
    is = front_is true scanned ∙ ap (λ (l : List ℕ). front_of header scanned.payloads ++ l) scanned.stops.is;
  }

  pub is_kept : ScannedAs records rest true → IsKept bytes
  is_kept scanned = record { header = header; payloads = scanned.payloads; keeps = kept scanned }

  pub settled_read : (disk : DiskState) → ReadsWhole disk.told bytes → IsDurable disk → ScannedAs records rest true → (at : ℕ) → at ≡ length bytes - length rest → IsSettled disk at
  settled_read disk read durable scanned at place = record {
    header = header;
    payloads = scanned.payloads;
    stands = record { keeps = λ file is. subst (Keeps header scanned.payloads) (read file is) (kept scanned); durable = durable };
    place = λ file is. omega (arith, place, ap length (front_is true scanned), length-append (front_of header scanned.payloads) rest);
  }

  pub none_read : ScannedAs records rest false → (at : ℕ) → at ≡ length bytes - length rest → IsNone at bytes
  none_read scanned at place = inr (record {
    header = header;
    payloads = scanned.payloads;
    rest = rest;
    headed = headed;
    each = scanned.each;
    is = front_is false scanned;
    place = omega (arith, place, ap length (front_is false scanned), length-append (front_of header scanned.payloads) rest);
    broken = scanned.stops;
  })

-- the bytes of a file that keeps records
pub is_open : (disk : DiskState) (bytes : List ℕ) → IsDisk disk → ReadsWhole disk.told bytes → IsDurable disk → IsKept bytes → IsOpen disk bytes
is_open disk bytes laws read durable kept =
    record {
      whole = read;
      durable = durable;
      kept = kept;
      stands = stands;
      run = λ header payloads keeps tells. run_begins disk header payloads laws tells (stands header payloads keeps);
    }
  where
    stands : (header : List ℕ) (payloads : List (List ℕ)) → Keeps header payloads bytes → Stands disk header payloads
    stands header payloads keeps = record { keeps = λ file is. subst (Keeps header payloads) (read file is) keeps; durable = durable }

-- so what is kept is found
pub finds_just : {D : Type 0} (state : D → DiskState) (result : Found D) (header : List ℕ) (payloads : List (List ℕ)) (file : List ℕ)
    → (state (disk_found result)).told ≡ Some file → Keeps header payloads file → FoundAs state result → FindsJust header payloads result
finds_just state (found.Open records contents) header payloads file is keeps so = subst (Keeps header payloads) (sym (so.whole file is)) keeps
finds_just state (found.NotAJournal disk at) header payloads file is keeps so = is_none at header payloads file keeps (so file is)
finds_just state (found.Failed disk) header payloads file is keeps so = tt
finds_just state (found.Memory disk) header payloads file is keeps so = tt
