-- A file keeps one list of payloads at most.
use Rattle.std.proofs.Common.{◌≡◌, ◌≢◌, inl, inr, ℕ, ◌<◌, ◌^◌, List, [], ◌∷◌, ◌++◌, length, take, drop, get_or, refl, sym, ◌∙◌, ap, arith}
use Rattle.std.proofs.lemmas.List.{append_assoc, length-append, take_at, drop_at}
use Rattle.std.proofs.lemmas.Nat.{from_be_bytes-to_be_bytes_4}
use Rattle.std.specs.List.{flat_map, AllByRecursion}
use Rattle.std.specs.Int.{to_be_bytes, from_be_bytes, w32}
use Rattle.shop_records.specs.Scanning.{IsBroken, IsNone}
use Rattle.shop_records.specs.Records.{Keeps, IsPayload, record_of, front_of}

length_number : (n : ℕ) → length (to_be_bytes w32 n) ≡ 4
length_number n = refl

same_numbers : (m n : ℕ) → m < 2 ^ 32 → n < 2 ^ 32 → to_be_bytes w32 m ≡ to_be_bytes w32 n → m ≡ n
same_numbers m n less other same =
    sym (from_be_bytes-to_be_bytes_4 m less) ∙ ap (from_be_bytes w32) same ∙ from_be_bytes-to_be_bytes_4 n other

-- the fronts of one list, which are as long, are the same, and so are the rests
pub same_fronts : {A : Type 0} (os bs xs ys : List A) → length os ≡ length bs → os ++ xs ≡ bs ++ ys → (os ≡ bs) × (xs ≡ ys)
same_fronts os bs xs ys lengths same = (
  sym (take_at os xs (length bs) lengths) ∙ ap (take (length bs)) same ∙ take_at bs ys (length bs) refl,
  sym (drop_at os xs (length bs) lengths) ∙ ap (drop (length bs)) same ∙ drop_at bs ys (length bs) refl,
)

-- behind one another, a number, that many bytes, and the rest
pub same_records : (p q xs ys : List ℕ) → IsPayload p → IsPayload q → record_of p ++ xs ≡ record_of q ++ ys → (p ≡ q) × (xs ≡ ys)
same_records p q xs ys fits other same =
    let whole : to_be_bytes w32 (length p) ++ (p ++ xs) ≡ to_be_bytes w32 (length q) ++ (q ++ ys) =
    sym (append_assoc (to_be_bytes w32 (length p)) p xs) ∙ ap (drop 1) same ∙ append_assoc (to_be_bytes w32 (length q)) q ys in
    let parts = same_fronts (to_be_bytes w32 (length p)) (to_be_bytes w32 (length q)) (p ++ xs) (q ++ ys) refl whole in
    same_fronts p q xs ys (same_numbers (length p) (length q) (omega (arith, fits)) (omega (arith, other)) parts.0) parts.1

same_payloads : (ps qs : List (List ℕ)) (g h : ℕ) (xs ys : List ℕ) → AllByRecursion IsPayload ps → AllByRecursion IsPayload qs → g ≢ 1 → h ≢ 1
    → flat_map record_of ps ++ g ∷ xs ≡ flat_map record_of qs ++ h ∷ ys → ps ≡ qs
same_payloads [] [] g h xs ys each others shut closed same = refl
same_payloads [] (q ∷ qs) g h xs ys each others shut closed same = absurd (shut (ap (λ (l : List ℕ). get_or l 0 0) same))
same_payloads (p ∷ ps) [] g h xs ys each others shut closed same = absurd (closed (sym (ap (λ (l : List ℕ). get_or l 0 0) same)))
same_payloads (p ∷ ps) (q ∷ qs) g h xs ys each others shut closed same =
    let regrouped : record_of p ++ (flat_map record_of ps ++ g ∷ xs) ≡ record_of q ++ (flat_map record_of qs ++ h ∷ ys) =
    sym (append_assoc (record_of p) (flat_map record_of ps) (g ∷ xs)) ∙ same ∙ append_assoc (record_of q) (flat_map record_of qs) (h ∷ ys) in
    let parts = same_records p q (flat_map record_of ps ++ g ∷ xs) (flat_map record_of qs ++ h ∷ ys) each.0 others.0 regrouped in
    ap (λ (x : List ℕ). x ∷ ps) parts.0 ∙ ap (λ (l : List (List ℕ)). q ∷ l) (same_payloads ps qs g h xs ys each.1 others.1 shut closed parts.1)

pub one_reading : (header other : List ℕ) (ps qs : List (List ℕ)) (file : List ℕ) → Keeps header ps file → Keeps other qs file → (header ≡ other) × (ps ≡ qs)
one_reading header other ps qs file one two =
    let same : header ++ (flat_map record_of ps ++ one.gate ∷ one.behind) ≡ other ++ (flat_map record_of qs ++ two.gate ∷ two.behind) =
    sym (append_assoc header (flat_map record_of ps) (one.gate ∷ one.behind)) ∙ sym one.is ∙ two.is ∙ append_assoc other (flat_map record_of qs) (two.gate ∷ two.behind) in
    let parts = same_fronts header other (flat_map record_of ps ++ one.gate ∷ one.behind) (flat_map record_of qs ++ two.gate ∷ two.behind) (one.headed ∙ sym two.headed) same in
    (parts.0, same_payloads ps qs one.gate two.gate one.behind two.behind one.each two.each one.shut two.shut parts.1)

-- what keeps records has nothing behind some of them that is broken
not_broken : (ps qs : List (List ℕ)) (h : ℕ) (rest ys : List ℕ) → AllByRecursion IsPayload ps → AllByRecursion IsPayload qs → h ≢ 1 → IsBroken rest
    → flat_map record_of ps ++ rest ≡ flat_map record_of qs ++ h ∷ ys → ⊥
not_broken [] [] h rest ys each others closed broken same = broken.no_gate h ys closed same
not_broken [] (q ∷ qs) h rest ys each others closed broken same =
    broken.no_record q (flat_map record_of qs ++ h ∷ ys) others.0 (same ∙ append_assoc (record_of q) (flat_map record_of qs) (h ∷ ys))
not_broken (p ∷ ps) [] h rest ys each others closed broken same = absurd (closed (sym (ap (λ (l : List ℕ). get_or l 0 0) same)))
not_broken (p ∷ ps) (q ∷ qs) h rest ys each others closed broken same =
    let regrouped : record_of p ++ (flat_map record_of ps ++ rest) ≡ record_of q ++ (flat_map record_of qs ++ h ∷ ys) =
    sym (append_assoc (record_of p) (flat_map record_of ps) rest) ∙ same ∙ append_assoc (record_of q) (flat_map record_of qs) (h ∷ ys) in
    let parts = same_records p q (flat_map record_of ps ++ rest) (flat_map record_of qs ++ h ∷ ys) each.0 others.0 regrouped in
    not_broken ps qs h rest ys each.1 others.1 closed broken parts.1

pub is_none : (at : ℕ) (header : List ℕ) (qs : List (List ℕ)) (file : List ℕ) → Keeps header qs file → IsNone at file → ⊥
is_none at header qs file keeps (inl short) =
    absurd (omega (arith, short.1, keeps.headed, ap length keeps.is, length-append (front_of header qs) (keeps.gate ∷ keeps.behind), length-append header (flat_map record_of qs)))
is_none at header qs file keeps (inr broken) =
    let same : broken.header ++ (flat_map record_of broken.payloads ++ broken.rest) ≡ header ++ (flat_map record_of qs ++ keeps.gate ∷ keeps.behind) =
    sym (append_assoc broken.header (flat_map record_of broken.payloads) broken.rest) ∙ sym broken.is ∙ keeps.is ∙ append_assoc header (flat_map record_of qs) (keeps.gate ∷ keeps.behind) in
    let parts = same_fronts broken.header header (flat_map record_of broken.payloads ++ broken.rest) (flat_map record_of qs ++ keeps.gate ∷ keeps.behind) (broken.headed ∙ sym keeps.headed) same in
    not_broken broken.payloads qs keeps.gate broken.rest keeps.behind broken.each keeps.each keeps.shut broken.broken parts.1
