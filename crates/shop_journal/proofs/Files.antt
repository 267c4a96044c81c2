-- What the records of a file tell of the entries that they keep.
use Rattle.std.proofs.Common.{◌≡◌, ◌≢◌, inl, inr, ℕ, ◌<◌, ◌^◌, List, [], ◌∷◌, ◌++◌, length, take, drop, get_or, refl, sym, ◌∙◌, ap, subst, arith}
use Rattle.std.proofs.lemmas.List.{append_assoc, length-append, take_at, drop_at}
use Rattle.std.proofs.lemmas.Nat.{from_be_bytes-to_be_bytes_4}
use Rattle.std.proofs.lemmas.Grind.{flat_map-append}
use Rattle.std.specs.Int.{to_be_bytes, from_be_bytes, w32}
use Rattle.std.specs.List.{AllByRecursion, flat_map}
use Rattle.shop_history.specs.declared.acts.Entry.{Entry}
use Rattle.shop_records.specs.Records as records
use Rattle.shop_records.specs.Records.{IsPayload, record_of}
use Rattle.shop_journal.specs.declared.headers.Format.{Format}
use Rattle.shop_journal.specs.declared.headers.Format.TheVariants.{First, Second}
use Rattle.shop_journal.specs.declared.headers.Head.{Head}
use Rattle.shop_journal.specs.Headers.{header_of}
use Rattle.shop_journal.specs.Journals.{Breaks, IsBroken, IsNone, front_of, payloads_of}
use Rattle.shop_journal.specs.Payloads.{IsEntry, payload_of}
use Rattle.shop_journal.proofs.Lengths.{fits}

-- lists of the same length at the front
same_fronts : (os bs xs ys : List ℕ) → length os ≡ length bs → os ++ xs ≡ bs ++ ys → (os ≡ bs) × (xs ≡ ys)
same_fronts os bs xs ys lengths same = (
  sym (take_at os xs (length bs) lengths) ∙ ap (take (length bs)) same ∙ take_at bs ys (length bs) refl,
  sym (drop_at os xs (length bs) lengths) ∙ ap (drop (length bs)) same ∙ drop_at bs ys (length bs) refl,
)

same_numbers : (m n : ℕ) → m < 2 ^ 32 → n < 2 ^ 32 → to_be_bytes w32 m ≡ to_be_bytes w32 n → m ≡ n
same_numbers m n less other same =
    sym (from_be_bytes-to_be_bytes_4 m less) ∙ ap (from_be_bytes w32) same ∙ from_be_bytes-to_be_bytes_4 n other

-- two records at the front of the same bytes
same_payload : (p q xs ys : List ℕ) → IsPayload p → IsPayload q → record_of p ++ xs ≡ record_of q ++ ys → p ≡ q
same_payload p q xs ys mine its same =
    let whole : to_be_bytes w32 (length p) ++ (p ++ xs) ≡ to_be_bytes w32 (length q) ++ (q ++ ys) =
    sym (append_assoc (to_be_bytes w32 (length p)) p xs) ∙ ap (drop 1) same ∙ append_assoc (to_be_bytes w32 (length q)) q ys in
    let parts = same_fronts (to_be_bytes w32 (length p)) (to_be_bytes w32 (length q)) (p ++ xs) (q ++ ys) refl whole in
    (same_fronts p q xs ys (same_numbers (length p) (length q) (omega (arith, mine)) (omega (arith, its)) parts.0) parts.1).0

-- the record of a payload that is no entry's
stopped : (format : Format) (payload behind : List ℕ) → IsPayload payload → ((entry : Entry) → IsEntry format entry → payload ≢ payload_of format entry) → IsBroken format (record_of payload ++ behind)
stopped format payload behind is other = record {
  no_record = λ entry more kept same. other entry kept (same_payload payload (payload_of format entry) behind more is (fits format entry kept.bounded) same);
  no_gate = λ gate more shut same. shut (sym (ap (λ (l : List ℕ). get_or l 0 0) same));
}

among : (es : List (List ℕ)) (p : List ℕ) (ps : List (List ℕ)) → AllByRecursion IsPayload (es ++ p ∷ ps) → IsPayload p
among [] p ps each = each.0
among (e ∷ es) p ps each = among es p ps each.1

pub header_long : (format : Format) (head : Head) → length (header_of format head) ≡ 32
header_long First head = refl
header_long Second head = refl

-- a file in front of which stand a header and payloads that are of no log
pub breaks_none : (format : Format) (at : ℕ) (header : List ℕ) (payloads : List (List ℕ)) (rest file : List ℕ) → length header ≡ 32 → AllByRecursion IsPayload payloads
    → file ≡ records.front_of header payloads ++ rest → Breaks format at header payloads → IsNone format at file
breaks_none format at header payloads rest file headed each is (inl other) =
    inl (
      other.0,
      λ head behind head_is same.
          let whole : header ++ (flat_map record_of payloads ++ rest) ≡ header_of format head ++ behind = sym (append_assoc header (flat_map record_of payloads) rest) ∙ sym is ∙ same in
          other.1 head head_is (same_fronts header (header_of format head) (flat_map record_of payloads ++ rest) behind (headed ∙ sym (header_long format head)) whole).0,
    )
breaks_none format at header payloads rest file headed each is (inr broken) =
    let stops = broken.stops in
    let mine = payloads_of format stops.entries in
    let more = flat_map record_of stops.behind ++ rest in
    let whole : file ≡ front_of format broken.head stops.entries ++ (record_of stops.payload ++ more) =
    is
    ∙ (λ i. (broken.header_same i ++ flat_map record_of (stops.is i)) ++ rest)
    ∙ ap (λ (l : List ℕ). (header_of format broken.head ++ l) ++ rest) (flat_map-append record_of mine (stops.payload ∷ stops.behind))
    ∙ ap (λ (l : List ℕ). l ++ rest) (sym (append_assoc (header_of format broken.head) (flat_map record_of mine) (record_of stops.payload ++ flat_map record_of stops.behind)))
    ∙ append_assoc (front_of format broken.head stops.entries) (record_of stops.payload ++ flat_map record_of stops.behind) rest
    ∙ ap (λ (l : List ℕ). front_of format broken.head stops.entries ++ l) (append_assoc (record_of stops.payload) (flat_map record_of stops.behind) rest) in
    inr (record {
      head = broken.head;
      entries = stops.entries;
      behind = record_of stops.payload ++ more;
      head_is = broken.head_is;
      each = stops.each;
      is = whole;
      place = omega (arith, stops.place, header_long format broken.head, length-append (header_of format broken.head) (flat_map record_of mine));
      broken = stopped format stops.payload more (among mine stops.payload stops.behind (subst (AllByRecursion IsPayload) stops.is each)) stops.other;
    })
