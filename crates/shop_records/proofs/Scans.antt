-- Records that are read one after another.
use Rattle.std.proofs.Common.{◌≡◌, ◌≢◌, ℕ, ◌+◌, ◌≤◌, List, [], ◌∷◌, ◌++◌, length, take, drop, refl, sym, ◌∙◌, ap, inr, arith}
use Rattle.std.proofs.lemmas.List.{append-nil, append_assoc, length-append, length-take-le, take-append-drop, take_at}
use Rattle.std.proofs.lemmas.Grind.{flat_map-append}
use Rattle.std.specs.List.{flat_map, AllByRecursion}
use Rattle.std.specs.Borrow.{Bor}
use Rattle.shop_records.specs.declared.scanning.Next.{Next}
use Rattle.shop_records.specs.declared.scanning.Next.TheVariants as next
use Rattle.shop_records.specs.Records.{Keeps, IsPayload, header_length, record_of, front_of}
use Rattle.shop_records.specs.Scanning.{NextAs}
use Rattle.shop_records.proofs.Frames.{each_push}
use Rattle.shop_records.proofs.Spellings.{one_reading, is_none}

-- the records of these payloads were read, and this is left
pub record IsRead (payloads : List (List ℕ)) (bytes rest : List ℕ) : Type 0 where
  pub each : AllByRecursion IsPayload payloads
  pub is : bytes ≡ flat_map record_of payloads ++ rest

-- of some payloads
pub record IsReadOf (bytes rest : List ℕ) : Type 0 where
  pub payloads : List (List ℕ)
  pub read : IsRead payloads bytes rest

pub none_read : (bytes : List ℕ) → IsRead [] bytes bytes
none_read bytes = record { each = tt; is = refl }

pub one_more : (payloads : List (List ℕ)) (bytes rest after payload : List ℕ) → IsRead payloads bytes rest → IsPayload payload → rest ≡ record_of payload ++ after
    → IsRead (payloads ++ payload ∷ []) bytes after
one_more payloads bytes rest after payload read fits is =
    record {
      each = each_push payloads payload read.each fits;
      is = read.is ∙ ap (λ (l : List ℕ). flat_map record_of payloads ++ l) is
          ∙ sym (append_assoc (flat_map record_of payloads) (record_of payload) after)
          ∙ ap (λ (l : List ℕ). (flat_map record_of payloads ++ l) ++ after) (sym (append-nil (record_of payload)))
          ∙ ap (λ (l : List ℕ). l ++ after) (sym (flat_map-append record_of payloads (payload ∷ [])));
    }

pub some_more : (bytes rest after payload : List ℕ) → IsReadOf bytes rest → IsPayload payload → rest ≡ record_of payload ++ after → IsReadOf bytes after
some_more bytes rest after payload so_far fits is =
    record { payloads = so_far.payloads ++ payload ∷ []; read = one_more so_far.payloads bytes rest after payload so_far.read fits is }

pub fewer_left : (rest after payload : List ℕ) → rest ≡ record_of payload ++ after → length after + 1 ≤ length rest
fewer_left rest after payload is = omega (arith, ap length is, length-append (record_of payload) after)

-- where no record follows, a file that keeps payloads has had them all
module _ (file header : List ℕ) (payloads : List (List ℕ)) (keeps : Keeps header payloads file) where
  pub header_fits : header_length ≤ length file
  header_fits = omega (arith, keeps.headed, ap length keeps.is, length-append (front_of header payloads) (keeps.gate ∷ keeps.behind), length-append header (flat_map record_of payloads))

  pub header_is : take header_length file ≡ header
  header_is = ap (take header_length) (keeps.is ∙ append_assoc header (flat_map record_of payloads) (keeps.gate ∷ keeps.behind)) ∙ take_at header (flat_map record_of payloads ++ keeps.gate ∷ keeps.behind) header_length keeps.headed

  headed : length (take header_length file) ≡ header_length
  headed = length-take-le header_length file header_fits

  front_is : (found : List (List ℕ)) (rest : List ℕ) → IsRead found (drop header_length file) rest → file ≡ front_of (take header_length file) found ++ rest
  front_is found rest read =
      sym (take-append-drop header_length file) ∙ ap (λ (l : List ℕ). take header_length file ++ l) read.is ∙ sym (append_assoc (take header_length file) (flat_map record_of found) rest)

  pub all_found : (found : List (List ℕ)) (rest : List ℕ) (answer : Next) → IsRead found (drop header_length file) rest → NextAs rest answer
      → ((p r : Bor (List ℕ)) → answer ≢ next.Record p r) → found ≡ payloads
  all_found found rest (next.Record p r) read so none = absurd (none p r refl)
  all_found found rest next.Shut read so none =
      (one_reading (take header_length file) header found payloads file
      (record { gate = so.gate; behind = so.behind; headed = headed; shut = so.shut; each = read.each; is = front_is found rest read ∙ ap (λ (l : List ℕ). front_of (take header_length file) found ++ l) so.is }) keeps).1
  all_found found rest next.Broken read so none =
      absurd (is_none (length (front_of (take header_length file) found)) header payloads file keeps
      (inr (record { header = take header_length file; payloads = found; rest = rest; headed = headed; each = read.each; is = front_is found rest read; place = refl; broken = so })))
