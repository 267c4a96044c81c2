-- Entries that are read of payloads, one behind another.
use Rattle.std.proofs.Common.{◌≡◌, ◌≢◌, ℕ, zero, suc, ◌+◌, ◌<◌, List, [], ◌∷◌, ◌++◌, map, length, take, drop, drop-cons, get_or, refl, sym, ◌∙◌, ap, arith}
use Rattle.std.proofs.lemmas.List.{length-append, map-append, take_more, take-append-drop}
use Rattle.std.proofs.lemmas.Grind.{flat_map-append}
use Rattle.std.specs.Borrow.{Bor}
use Rattle.std.specs.List.{AllByRecursion, flat_map}
use Rattle.shop_history.specs.declared.acts.Entry.{Entry}
use Rattle.shop_records.specs.Records.{header_length, record_of}
use Rattle.shop_journal.specs.declared.headers.Format.{Format}
use Rattle.shop_journal.specs.Journals.{StopsAt, payloads_of}
use Rattle.shop_journal.specs.Payloads.{IsEntry, payload_of}

-- so many of the payloads are these entries', and the gate behind their records is at this place
pub record IsRead (format : Format) (payloads : List (List ℕ)) (count : ℕ) (entries : List Entry) (place : ℕ) : Type 0 where
  pub each : AllByRecursion (IsEntry format) entries
  pub read : take count payloads ≡ payloads_of format entries
  pub place_is : place ≡ header_length + length (flat_map record_of (payloads_of format entries))

one_more : (format : Format) (entries : List Entry) (entry : Entry) → AllByRecursion (IsEntry format) entries → IsEntry format entry → AllByRecursion (IsEntry format) (entries ++ entry ∷ [])
one_more format [] entry each is = (is, tt)
one_more format (e ∷ es) entry each is = (each.0, one_more format es entry each.1 is)

pub one_read : (format : Format) (payloads : List (List ℕ)) (count : ℕ) (entries : List Entry) (place next : ℕ) (payload : List ℕ) (entry : Entry) → IsRead format payloads count entries place
    → count < length payloads → payload ≡ get_or payloads count [] → IsEntry format entry → payload ≡ payload_of format entry → next ≡ place + 5 + length payload
    → IsRead format payloads (count + 1) (entries ++ entry ∷ []) next
one_read format payloads count entries place next payload entry so_far less here is same further =
    let mine = payloads_of format entries in
    let one = payload_of format entry in
    let listed : payloads_of format (entries ++ entry ∷ []) ≡ mine ++ one ∷ [] = map-append (payload_of format) entries (entry ∷ []) in
    let records : flat_map record_of (payloads_of format (entries ++ entry ∷ [])) ≡ flat_map record_of mine ++ (record_of one ++ []) =
    ap (flat_map record_of) listed ∙ flat_map-append record_of mine (one ∷ []) in
    record {
      each = one_more format entries entry so_far.each is;
      read = take_more payloads count [] less ∙ (λ i. so_far.read i ++ (sym here ∙ same) i ∷ []) ∙ sym listed;
      place_is = omega (arith, so_far.place_is, further, ap length same, ap length records, length-append (flat_map record_of mine) (record_of one ++ []), length-append (record_of one) []);
    }

pub stop_read : (format : Format) (payloads : List (List ℕ)) (count : ℕ) (entries : List Entry) (place : ℕ) (payload : List ℕ) → IsRead format payloads count entries place
    → count < length payloads → payload ≡ get_or payloads count [] → ((entry : Entry) → IsEntry format entry → payload ≢ payload_of format entry) → StopsAt format place payloads
stop_read format payloads count entries place payload so_far less here other = record {
  entries = entries;
  payload = payload;
  behind = drop (suc count) payloads;
  each = so_far.each;
  is = sym (take-append-drop count payloads) ∙ (λ i. so_far.read i ++ drop count payloads) ∙ ap (λ l. payloads_of format entries ++ l) (drop-cons payloads count [] less ∙ ap (λ p. p ∷ drop (suc count) payloads) (sym here));
  place = so_far.place_is;
  other = other;
}

-- the payload that is borrowed at a place
pub element : (payloads : List (Bor (List ℕ))) (count : ℕ) (d : Bor (List ℕ)) → count < length payloads → (get_or payloads count d).now ≡ get_or (map (λ (p : Bor (List ℕ)). p.now) payloads) count []
element [] count d less = absurd (omega (arith, less))
element (p ∷ payloads) zero d less = refl
element (p ∷ payloads) (suc count) d less = element payloads count d (omega (arith, less))
