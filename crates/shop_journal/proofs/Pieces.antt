-- Bytes that are read piece by piece.
use Rattle.std.proofs.Common.{◌≡◌, ℕ, ◌+◌, ◌<◌, ◌≤◌, List, ◌++◌, length, get_or, take, drop, Option, Some, None, refl, sym, ◌∙◌, ap, subst, arith}
use Rattle.std.proofs.lemmas.List.{length-append, length-drop, length-take-le, take-append-drop, get_or-take, get_or-drop, ext_get_or, take_all}
use Rattle.std.proofs.Math.Seq.{take-append-add}
use Rattle.std.specs.Option.{ForSome}
use Rattle.shop_disk.specs.Calls.{ReadsAt}
use Rattle.shop_disk.specs.declared.disk.Got.TheVariants as got

take_add : (m n : ℕ) (file : List ℕ) → m ≤ length file → take (m + n) file ≡ take m file ++ take n (drop m file)
take_add m n file within =
    let size : length (take m file) ≡ m = length-take-le m file within in
    ap (λ (l : List ℕ). take (m + n) l) (sym (take-append-drop m file)) ∙ ap (λ (k : ℕ). take (k + n) (take m file ++ drop m file)) (sym size)
    ∙ take-append-add (take m file) (drop m file) n

pub read_more : (front room file : List ℕ) (count : ℕ) → front ≡ take (length front) file → count ≤ length room → length front + count ≤ length file
    → ((i : ℕ) → i < count → get_or room i 0 ≡ get_or file (length front + i) 0) → front ++ take count room ≡ take (length (front ++ take count room)) file
read_more front room file count is fits within each =
    let at = length front in
    let rest = drop at file in
    let room_length : length (take count room) ≡ count = length-take-le count room fits in
    let rest_length : length (take count rest) ≡ count = length-take-le count rest (omega (arith, length-drop at file, within)) in
    let same : take count room ≡ take count rest =
    ext_get_or 0 (take count room) (take count rest) (room_length ∙ sym rest_length) (λ i less.
    let here : i < count = omega (arith, less, room_length) in
    get_or-take count room i 0 here ∙ each i here ∙ sym (get_or-drop at file i 0) ∙ sym (get_or-take count rest i 0 here)) in
    let whole : length (front ++ take count room) ≡ at + count = omega (arith, length-append front (take count room), room_length) in
    ap (λ (l : List ℕ). l ++ take count room) is ∙ ap (λ (l : List ℕ). take at file ++ l) same ∙ sym (take_add at count file (omega (arith, within))) ∙ ap (λ (n : ℕ). take n file) (sym whole)

pub front_more : (told : Option (List ℕ)) (front room : List ℕ) (count : ℕ) → ForSome told (λ file. front ≡ take (length front) file) → count ≤ length room
    → ReadsAt told (length front) (got.Bytes count) room → ForSome told (λ file. front ++ take count room ≡ take (length (front ++ take count room)) file)
front_more None front room count is fits read = λ file none. absurd (cc none)
front_more (Some was) front room count is fits read = λ file some.
    let same : was ≡ file = cc some in
    subst (λ f. front ++ take count room ≡ take (length (front ++ take count room)) f) same (read_more front room was count (is was refl) fits read.0 read.1)

pub whole_at_end : (told : Option (List ℕ)) (front : List ℕ) → ForSome told (λ file. front ≡ take (length front) file) → (room : List ℕ) → ReadsAt told (length front) got.End room → ForSome told (λ file. front ≡ file)
whole_at_end None front is room read = λ file none. absurd (cc none)
whole_at_end (Some was) front is room read = λ file some.
    let same : was ≡ file = cc some in
    is file some ∙ take_all (length front) file (subst (λ f. length f ≤ length front) same read)
