-- What an append leaves, step by step.
use Rattle.std.proofs.Common.{◌≡◌, inl, ℕ, ◌+◌, ◌≤◌, List, [], ◌∷◌, ◌++◌, length, get_or, Option, Some, None, refl, sym, ◌∙◌, ap, subst, arith}
use Rattle.std.proofs.lemmas.List.{length-append}
use Rattle.std.specs.Option.{ForSome}
use Rattle.std.specs.Int.{to_be_bytes, w32}
use Rattle.shop_disk.specs.Images.{Torn, Holds}
use Rattle.shop_disk.specs.DiskStates.{DiskState, LeavesOnly}
use Rattle.shop_disk.specs.Calls.{WritesAt, IsWithin}
use Rattle.shop_disk.specs.declared.disk.Wrote.TheVariants as wrote
use Rattle.shop_disk.proofs.cited.Moments.{weaker, then_on}
use Rattle.shop_records.specs.Records.{Keeps, IsPayload, record_of, front_of}
use Rattle.shop_records.specs.Standing.{Stands, IsSettled, IsDurable, KeepsOr}
use Rattle.shop_records.proofs.Frames.{behind_the_gate, tail_of, IsStaged, staged, at_the_gate, opened, either, front_push}
use Rattle.shop_records.proofs.Putting.{written_known, known_before}
use Rattle.shop_records.proofs.Spellings.{one_reading}

-- where the gate stands
pub gate_at : (disk : DiskState) (gate : ℕ) (file header : List ℕ) (payloads : List (List ℕ)) → disk.told ≡ Some file → IsSettled disk gate → Keeps header payloads file
    → gate ≡ length (front_of header payloads)
gate_at disk gate file header payloads is settled keeps =
    let same = one_reading settled.header header settled.payloads payloads file (settled.stands.keeps file is) keeps in
    settled.place file is ∙ ap (λ (h : List ℕ). length (front_of h settled.payloads)) same.0 ∙ ap (λ (l : List (List ℕ)). length (front_of header l)) same.1

module _ (header : List ℕ) (payloads : List (List ℕ)) (payload file tail : List ℕ) (gate : ℕ)
    (keeps : Keeps header payloads file) (place : gate ≡ length (front_of header payloads)) (fits : IsPayload payload) (tail_is : tail ≡ tail_of header payloads payload) where
  -- an image of the first write
  first_image : (image : List ℕ) → Torn (gate + 1) (length tail) file image → Keeps header payloads image
  first_image image torn = behind_the_gate header payloads (length tail) file image keeps (subst (λ (g : ℕ). Torn (g + 1) (length tail) file image) place torn)

  -- the file behind it
  pub staged_by : (new : List ℕ) → Torn (gate + 1) (length tail) file new → Holds new (gate + 1) tail → IsStaged header payloads payload keeps.gate new
  staged_by new torn holds =
      staged header payloads payload file new keeps
      (subst (λ (t : List ℕ). Torn (length (front_of header payloads) + 1) (length t) file new) tail_is (subst (λ (g : ℕ). Torn (g + 1) (length tail) file new) place torn))
      (subst (λ (t : List ℕ). Holds new (length (front_of header payloads) + 1) t) tail_is (subst (λ (g : ℕ). Holds new (g + 1) tail) place holds))

  -- an image of the second write
  second_image : (new image : List ℕ) → IsStaged header payloads payload keeps.gate new → Torn gate 1 new image → KeepsOr header payloads payload image
  second_image new image is_staged torn =
      let at = length (front_of header payloads) in
      either header payloads payload image (get_or image at 0) keeps.headed keeps.each fits
      (at_the_gate header payloads payload new image keeps.gate is_staged (subst (λ (g : ℕ). Torn g 1 new image) place torn))

  -- the file behind that
  pub opened_by : (new last : List ℕ) → IsStaged header payloads payload keeps.gate new → Torn gate 1 new last → Holds last gate (1 ∷ []) → Keeps header (payloads ++ payload ∷ []) last
  opened_by new last is_staged torn holds =
      let at = length (front_of header payloads) in
      let there = subst (λ (g : ℕ). Holds last g (1 ∷ [])) place holds in
      let zero_more : at + 0 ≡ at = omega arith in
      let is_open : get_or last at 0 ≡ 1 = ap (λ (i : ℕ). get_or last i 0) (sym zero_more) ∙ there.each 0 (omega arith) in
      opened header payloads payload last keeps.headed keeps.each fits
      (subst (λ (g : ℕ). IsStaged header payloads payload g last) is_open (at_the_gate header payloads payload new last keeps.gate is_staged (subst (λ (g : ℕ). Torn g 1 new last) place torn)))

  pub first_run : (old mid : DiskState) → LeavesOnly old mid (Torn (gate + 1) (length tail) file) → LeavesOnly old mid (KeepsOr header payloads payload)
  first_run old mid run = weaker old mid (Torn (gate + 1) (length tail) file) (KeepsOr header payloads payload) run (λ image torn. inl (first_image image torn))

  pub both_runs : (old mid last : DiskState) (new : List ℕ) → LeavesOnly old mid (Torn (gate + 1) (length tail) file) → IsStaged header payloads payload keeps.gate new
      → LeavesOnly mid last (Torn gate 1 new) → LeavesOnly old last (KeepsOr header payloads payload)
  both_runs old mid last new first is_staged second =
      then_on old mid last (Torn (gate + 1) (length tail) file) (Torn gate 1 new) (KeepsOr header payloads payload) first second
      (λ image torn. inl (first_image image torn)) (λ image torn. second_image new image is_staged torn)

-- a place within the file, where the disk tells it
pub within_known : (told : Option (List ℕ)) (at : ℕ) → ForSome told (λ file. at ≤ length file) → IsWithin told at
within_known None at within = tt
within_known (Some file) at within = within file refl

-- the place behind the gate is within the file
pub past_gate : (disk : DiskState) (gate : ℕ) → IsSettled disk gate → ForSome disk.told (λ file. gate + 1 ≤ length file)
past_gate disk gate settled = λ file is.
    let keeps = settled.stands.keeps file is in
    omega (arith, settled.place file is, ap length keeps.is, length-append (front_of settled.header settled.payloads) (keeps.gate ∷ keeps.behind))

-- all that an append leaves: after the first put, and after both
module _ (disk mid : DiskState) (gate : ℕ) (payload tail : List ℕ) (settled : IsSettled disk gate) (fits : IsPayload payload)
    (tail_is : tail ≡ to_be_bytes w32 (length payload) ++ payload ++ 0 ∷ [])
    (first : (file : List ℕ) → disk.told ≡ Some file → LeavesOnly disk mid (Torn (gate + 1) (length tail) file)) where
  pub after_first : (header : List ℕ) (payloads : List (List ℕ)) (file : List ℕ) → disk.told ≡ Some file → Keeps header payloads file → LeavesOnly disk mid (KeepsOr header payloads payload)
  after_first header payloads file is keeps =
      first_run header payloads payload file tail gate keeps (gate_at disk gate file header payloads is settled keeps) fits tail_is disk mid (first file is)

  module _ (last : DiskState) (writes : WritesAt disk.told mid.told (gate + 1) tail wrote.Done)
      (second : (file : List ℕ) → mid.told ≡ Some file → LeavesOnly mid last (Torn gate 1 file)) where
    pub after_both : (header : List ℕ) (payloads : List (List ℕ)) (file : List ℕ) → disk.told ≡ Some file → Keeps header payloads file → LeavesOnly disk last (KeepsOr header payloads payload)
    after_both header payloads file is keeps =
        let place = gate_at disk gate file header payloads is settled keeps in
        let now = written_known disk.told mid.told file (gate + 1) tail wrote.Done is refl writes in
        let there = staged_by header payloads payload file tail gate keeps place fits tail_is now.now now.torn now.holds in
        both_runs header payloads payload file tail gate keeps place fits tail_is disk mid last now.now (first file is) there (second now.now now.is)

    -- the last file keeps the record too
    module _ (opens : WritesAt mid.told last.told gate (1 ∷ []) wrote.Done) (durable : IsDurable last) where
      kept_at : (header : List ℕ) (payloads : List (List ℕ)) (file : List ℕ) → disk.told ≡ Some file → Keeps header payloads file → ForSome last.told (Keeps header (payloads ++ payload ∷ []))
      kept_at header payloads file here keeps = λ end is_end.
          let place = gate_at disk gate file header payloads here settled keeps in
          let now = written_known disk.told mid.told file (gate + 1) tail wrote.Done here refl writes in
          let then = written_known mid.told last.told now.now gate (1 ∷ []) wrote.Done now.is refl opens in
          let there = staged_by header payloads payload file tail gate keeps place fits tail_is now.now now.torn now.holds in
          let same_end : then.now ≡ end = cc (sym then.is ∙ is_end) in
          subst (Keeps header (payloads ++ payload ∷ [])) same_end (opened_by header payloads payload file tail gate keeps place fits tail_is now.now then.now there then.torn then.holds)

      -- where the last disk tells its file, so did the first
      told_before : (end : List ℕ) → last.told ≡ Some end → (file : List ℕ) × (disk.told ≡ Some file)
      told_before end is =
          let mid_file = known_before mid.told last.told end gate (1 ∷ []) wrote.Done is opens in
          known_before disk.told mid.told mid_file.0 (gate + 1) tail wrote.Done mid_file.1 writes

      pub stands_after : (header : List ℕ) (payloads : List (List ℕ)) → Stands disk header payloads → Stands last header (payloads ++ payload ∷ [])
      stands_after header payloads stands = record {
        keeps = λ end is. let file = told_before end is in kept_at header payloads file.0 file.1 (stands.keeps file.0 file.1) end is;
        durable = durable;
      }

      pub settled_after : (next : ℕ) → next ≡ gate + length tail → IsSettled last next
      settled_after next is_next = record {
        header = settled.header;
        payloads = settled.payloads ++ payload ∷ [];
        stands = stands_after settled.header settled.payloads settled.stands;
        place = λ end is.
            let file = told_before end is in
            let before = settled.place file.0 file.1 in
            omega (arith, is_next, before, ap length tail_is, length-append (to_be_bytes w32 (length payload) ++ payload) (0 ∷ []), length-append (to_be_bytes w32 (length payload)) payload, ap length (front_push settled.header settled.payloads payload), length-append (front_of settled.header settled.payloads) (record_of payload), length-append (to_be_bytes w32 (length payload)) payload);
      }
