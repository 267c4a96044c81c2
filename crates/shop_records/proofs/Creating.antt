-- What a file of records is that was made.
use Rattle.std.proofs.Common.{◌≡◌, ℕ, List, [], ◌∷◌, ◌++◌, length, Option, Some, None, refl, sym, ◌∙◌, ap, subst, arith}
use Rattle.std.proofs.lemmas.List.{append-nil, drop_all}
use Rattle.std.specs.Option.{ForSome}
use Rattle.shop_disk.specs.Images.{Torn, Holds}
use Rattle.shop_disk.specs.DiskStates.{DiskState, IsDisk}
use Rattle.shop_disk.specs.Calls.{Measures, WritesAt}
use Rattle.shop_disk.specs.declared.disk.Length.TheVariants as size
use Rattle.shop_disk.specs.declared.disk.Wrote.TheVariants as wrote
use Rattle.shop_records.specs.Records.{Keeps, header_length}
use Rattle.shop_records.specs.Standing.{Stands, IsSettled, IsDurable}
use Rattle.shop_records.specs.Creating.{IsMade}
use Rattle.shop_records.proofs.Putting.{written_known, known_before}
use Rattle.shop_records.proofs.Frames.{from_held}
use Rattle.shop_records.proofs.Runs.{run_begins}

no_bytes : (file : List ℕ) → 0 ≡ length file → file ≡ []
no_bytes [] none = refl
no_bytes (b ∷ file) none = absurd (omega (arith, none))

pub empty_known : (told : Option (List ℕ)) → Measures told (size.Bytes 0) → ForSome told (λ file. file ≡ [])
empty_known None measures = λ file is. absurd (cc is)
empty_known (Some was) measures = λ file is. let same : was ≡ file = cc is in no_bytes file (subst (λ f. 0 ≡ length f) same measures)

whole : (bytes new : List ℕ) → Torn 0 (length bytes) [] new → Holds new 0 bytes → new ≡ bytes
whole bytes new torn holds =
    from_held 0 bytes new holds ∙ ap (λ (l : List ℕ). bytes ++ l) (drop_all (length bytes) new (omega (arith, torn.no_longer))) ∙ append-nil bytes

module _ (header bytes : List ℕ) (headed : length header ≡ header_length) (bytes_are : bytes ≡ header ++ 0 ∷ [])
    (old mid new : DiskState) (empty : ForSome old.told (λ file. file ≡ [])) (writes : WritesAt old.told mid.told 0 bytes wrote.Done) (same : new.told ≡ mid.told) (durable : IsDurable new) where
  made : ForSome new.told (λ file. file ≡ header ++ 0 ∷ [])
  made = λ file is.
      let before = known_before old.told mid.told file 0 bytes wrote.Done (sym same ∙ is) writes in
      let now = written_known old.told mid.told before.0 0 bytes wrote.Done before.1 refl writes in
      let none = empty before.0 before.1 in
      let is_now : now.now ≡ file = cc (sym now.is ∙ sym same ∙ is) in
      sym is_now ∙ whole bytes now.now (subst (λ f. Torn 0 (length bytes) f now.now) none now.torn) now.holds ∙ bytes_are

  keeps_none : (file : List ℕ) → file ≡ header ++ 0 ∷ [] → Keeps header [] file
  keeps_none file is = record { gate = 0; behind = []; headed = headed; shut = omega arith; each = tt; is = is ∙ ap (λ (l : List ℕ). l ++ 0 ∷ []) (sym (append-nil header)) }

  stands_made : Stands new header []
  stands_made = record { keeps = λ file is. keeps_none file (made file is); durable = durable }

  pub is_made : (before : Option (List ℕ)) → ForSome before (λ file. file ≡ []) → IsDisk new → IsMade before header new
  is_made before none laws = record { empty = none; made = made; stands = stands_made; run = λ tells. run_begins new header [] laws tells stands_made }

  pub settled_made : (gate : ℕ) → gate ≡ header_length → IsSettled new gate
  settled_made gate is = record { header = header; payloads = []; stands = stands_made; place = λ file told. is ∙ sym headed ∙ ap length (sym (append-nil header)) }
