-- What a write leaves of a file, whole or torn.
use Rattle.std.proofs.Common.{◌≡◌, ◌≢◌, inl, inr, ℕ, ◌+◌, ◌-◌, ◌<◌, ◌≤◌, List, [], ◌∷◌, ◌++◌, length, get_or, take, drop, refl, sym, ◌∙◌, ap, subst, arith}
use Rattle.std.proofs.lemmas.Bool.{cases_eq}
use Rattle.std.proofs.lemmas.List.{append_assoc, append-nil, length-append, length-drop, length-take-le, take-append-drop, take_at, drop_at, get_or-take, get_or-drop, ext_get_or, drop_more}
use Rattle.std.proofs.lemmas.Grind.{flat_map-append}
use Rattle.std.specs.List.{flat_map, AllByRecursion}
use Rattle.std.specs.Int.{to_be_bytes, w32}
use Rattle.shop_disk.specs.Images.{Holds, Torn}
use Rattle.shop_records.specs.Records.{Keeps, IsPayload, header_length, record_of, front_of}
use Rattle.shop_records.specs.Standing.{KeepsOr}

-- what stands before a torn range stays
pub front_stays : (at count : ℕ) (old new : List ℕ) → Torn at count old new → at ≤ length old → take at new ≡ take at old
front_stays at count old new torn within =
    let new_length : length (take at new) ≡ at = length-take-le at new (omega (arith, torn.no_shorter, within)) in
    let old_length : length (take at old) ≡ at = length-take-le at old within in
    ext_get_or 0 (take at new) (take at old) (new_length ∙ sym old_length) (λ i less.
    let here : i < at = omega (arith, less, new_length) in
    get_or-take at new i 0 here ∙ torn.below i (omega (arith, here, within)) here ∙ sym (get_or-take at old i 0 here))

-- what stands behind it stays, where the file didn't grow
pub back_stays : (at count : ℕ) (old new : List ℕ) → Torn at count old new → at + count ≤ length old → drop (at + count) new ≡ drop (at + count) old
back_stays at count old new torn within =
    let same : length new ≡ length old = omega (arith, torn.no_shorter, torn.no_longer, within) in
    let lengths : length (drop (at + count) new) ≡ length (drop (at + count) old) = omega (arith, length-drop (at + count) new, length-drop (at + count) old, same) in
    ext_get_or 0 (drop (at + count) new) (drop (at + count) old) lengths (λ i less.
    let here : at + count + i < length old = omega (arith, less, length-drop (at + count) new, same) in
    get_or-drop (at + count) new i 0 ∙ torn.above (at + count + i) here (omega arith) ∙ sym (get_or-drop (at + count) old i 0))

-- the file from a place on, where bytes stand there
pub from_held : (at : ℕ) (bytes file : List ℕ) → Holds file at bytes → drop at file ≡ bytes ++ drop (length bytes) (drop at file)
from_held at bytes file holds =
    let rest : length (drop at file) ≡ length file - at = length-drop at file in
    let fits : length bytes ≤ length (drop at file) = omega (arith, rest, holds.within) in
    let lengths : length (take (length bytes) (drop at file)) ≡ length bytes = length-take-le (length bytes) (drop at file) fits in
    let front : take (length bytes) (drop at file) ≡ bytes =
    ext_get_or 0 (take (length bytes) (drop at file)) bytes lengths (λ i less.
    let here : i < length bytes = omega (arith, less, lengths) in
    get_or-take (length bytes) (drop at file) i 0 here ∙ get_or-drop at file i 0 ∙ holds.each i here) in
    sym (take-append-drop (length bytes) (drop at file)) ∙ ap (λ (l : List ℕ). l ++ drop (length bytes) (drop at file)) front

-- behind these bytes come those
pub split_at : (at : ℕ) (front back file : List ℕ) → take at file ≡ front → drop at file ≡ back → file ≡ front ++ back
split_at at front back file is_front is_back =
    sym (take-append-drop at file) ∙ ap (λ (l : List ℕ). l ++ drop at file) is_front ∙ ap (λ (l : List ℕ). front ++ l) is_back

pub each_push : (payloads : List (List ℕ)) (payload : List ℕ) → AllByRecursion IsPayload payloads → IsPayload payload → AllByRecursion IsPayload (payloads ++ payload ∷ [])
each_push [] payload each fits = (fits, tt)
each_push (p ∷ payloads) payload each fits = (each.0, each_push payloads payload each.1 fits)

module _ (header : List ℕ) (payloads : List (List ℕ)) where
  abbrev front : List ℕ
  front = front_of header payloads

  -- with one record more
  pub front_push : (payload : List ℕ) → front_of header (payloads ++ payload ∷ []) ≡ front ++ record_of payload
  front_push payload =
      ap (λ (l : List ℕ). header ++ l) (flat_map-append record_of payloads (payload ∷ []))
      ∙ ap (λ (l : List ℕ). header ++ (flat_map record_of payloads ++ l)) (append-nil (record_of payload))
      ∙ sym (append_assoc header (flat_map record_of payloads) (record_of payload))

  -- a write behind the gate leaves what is kept
  pub behind_the_gate : (count : ℕ) (file image : List ℕ) → Keeps header payloads file → Torn (length front + 1) count file image → Keeps header payloads image
  behind_the_gate count file image keeps torn =
      let at = length front + 1 in
      let regrouped : file ≡ front ++ keeps.gate ∷ [] ++ keeps.behind = keeps.is ∙ sym (append_assoc front (keeps.gate ∷ []) keeps.behind) in
      let size : length (front ++ keeps.gate ∷ []) ≡ at = length-append front (keeps.gate ∷ []) in
      let within : at ≤ length file = omega (arith, ap length regrouped, length-append (front ++ keeps.gate ∷ []) keeps.behind, size) in
      let kept : take at image ≡ front ++ keeps.gate ∷ [] =
      front_stays at count file image torn within ∙ ap (λ (l : List ℕ). take at l) regrouped ∙ take_at (front ++ keeps.gate ∷ []) keeps.behind at size in
      record {
        gate = keeps.gate;
        behind = drop at image;
        headed = keeps.headed;
        shut = keeps.shut;
        each = keeps.each;
        is = split_at at (front ++ keeps.gate ∷ []) (drop at image) image kept refl ∙ append_assoc front (keeps.gate ∷ []) (drop at image);
      }

  -- what is written behind the gate
  abbrev pub tail_of : List ℕ → List ℕ
  tail_of payload = to_be_bytes w32 (length payload) ++ payload ++ 0 ∷ []

  -- a file whose gate has a record behind it, and a shut gate behind that
  pub record IsStaged (payload : List ℕ) (gate : ℕ) (file : List ℕ) : Type 0 where
    pub behind : List ℕ
    pub is : file ≡ front ++ gate ∷ (tail_of payload ++ behind)

  pub staged : (payload file new : List ℕ) (keeps : Keeps header payloads file) → Torn (length front + 1) (length (tail_of payload)) file new → Holds new (length front + 1) (tail_of payload)
      → IsStaged payload keeps.gate new
  staged payload file new keeps torn holds =
      let at = length front + 1 in
      let regrouped : file ≡ front ++ keeps.gate ∷ [] ++ keeps.behind = keeps.is ∙ sym (append_assoc front (keeps.gate ∷ []) keeps.behind) in
      let size : length (front ++ keeps.gate ∷ []) ≡ at = length-append front (keeps.gate ∷ []) in
      let within : at ≤ length file = omega (arith, ap length regrouped, length-append (front ++ keeps.gate ∷ []) keeps.behind, size) in
      let kept : take at new ≡ front ++ keeps.gate ∷ [] =
      front_stays at (length (tail_of payload)) file new torn within ∙ ap (λ (l : List ℕ). take at l) regrouped ∙ take_at (front ++ keeps.gate ∷ []) keeps.behind at size in
      let more = drop (length (tail_of payload)) (drop at new) in
      record {
        behind = more;
        is = split_at at (front ++ keeps.gate ∷ []) (tail_of payload ++ more) new kept (from_held at (tail_of payload) new holds) ∙ append_assoc front (keeps.gate ∷ []) (tail_of payload ++ more);
      }

  -- a write of the gate alone changes nothing else
  pub at_the_gate : (payload file image : List ℕ) (gate : ℕ) → IsStaged payload gate file → Torn (length front) 1 file image → IsStaged payload (get_or image (length front) 0) image
  at_the_gate payload file image gate is_staged torn =
      let at = length front in
      let back = tail_of payload ++ is_staged.behind in
      let regrouped : file ≡ front ++ gate ∷ [] ++ back = is_staged.is ∙ sym (append_assoc front (gate ∷ []) back) in
      let size : length (front ++ gate ∷ []) ≡ at + 1 = length-append front (gate ∷ []) in
      let within : at + 1 ≤ length file = omega (arith, ap length regrouped, length-append (front ++ gate ∷ []) back, size) in
      let before : take at image ≡ front = front_stays at 1 file image torn (omega (arith, within)) ∙ ap (λ (l : List ℕ). take at l) is_staged.is ∙ take_at front (gate ∷ back) at refl in
      let after : drop (at + 1) image ≡ back = back_stays at 1 file image torn within ∙ ap (λ (l : List ℕ). drop (at + 1) l) regrouped ∙ drop_at (front ++ gate ∷ []) back (at + 1) size in
      let here = get_or image at 0 in
      let there : drop at image ≡ here ∷ back = drop_more image at 0 (omega (arith, within, torn.no_shorter)) ∙ ap (λ (l : List ℕ). here ∷ l) after in
      record { behind = is_staged.behind; is = split_at at front (here ∷ back) image before there }

  -- an open gate adds the record
  pub opened : (payload file : List ℕ) → length header ≡ header_length → AllByRecursion IsPayload payloads → IsPayload payload → IsStaged payload 1 file → Keeps header (payloads ++ payload ∷ []) file
  opened payload file headed each fits is_staged =
      let numbered = to_be_bytes w32 (length payload) ++ payload in
      let tail_is : tail_of payload ++ is_staged.behind ≡ numbered ++ 0 ∷ is_staged.behind = append_assoc numbered (0 ∷ []) is_staged.behind in
      record {
        headed = headed;
        gate = 0;
        behind = is_staged.behind;
        shut = omega arith;
        each = each_push payloads payload each fits;
        is = is_staged.is
            ∙ ap (λ (l : List ℕ). front ++ 1 ∷ l) tail_is
            ∙ sym (append_assoc front (record_of payload) (0 ∷ is_staged.behind))
            ∙ ap (λ (l : List ℕ). l ++ 0 ∷ is_staged.behind) (sym (front_push payload));
      }

  -- and any other leaves what is kept
  pub shut : (payload file : List ℕ) (gate : ℕ) → length header ≡ header_length → AllByRecursion IsPayload payloads → gate ≢ 1 → IsStaged payload gate file → Keeps header payloads file
  shut payload file gate headed each is_shut is_staged =
      record { headed = headed; gate = gate; behind = tail_of payload ++ is_staged.behind; shut = is_shut; each = each; is = is_staged.is }

  pub either : (payload file : List ℕ) (gate : ℕ) → length header ≡ header_length → AllByRecursion IsPayload payloads → IsPayload payload → IsStaged payload gate file → KeepsOr header payloads payload file
  either payload file gate headed each fits is_staged = elim (cases_eq gate 1) [
    | inl is_open ↦ inr (opened payload file headed each fits (subst (λ (g : ℕ). IsStaged payload g file) is_open is_staged))
    | inr is_shut ↦ inl (shut payload file gate headed each is_shut is_staged)
  ]
