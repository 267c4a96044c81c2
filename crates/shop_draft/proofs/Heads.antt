-- Bytes that are written over others, and a head that is written right before a text.
use Rattle.std.proofs.Common.{◌≡◌, ℕ, ◌+◌, ◌-◌, ◌≤◌, List, [], ◌∷◌, ◌++◌, length, take, drop, arith, refl, sym, ◌∙◌, append_assoc, length-append, length-take, length-drop}
use Rattle.std.proofs.lemmas.List.{length-take-le, take-append-le, drop-append-le, take-append-drop, drop-take, take_all, drop_all}
use Rattle.std.proofs.Math.Seq.{take-append_seam, take-append-add, drop-append_seam}

-- the bytes with others in place of those from a place on
abbrev pub over : List ℕ → List ℕ → ℕ → List ℕ
over bytes more start = take start bytes ++ more ++ drop (start + length more) bytes

length-over : (bytes more : List ℕ) (start : ℕ) → start + length more ≤ length bytes → length (over bytes more start) ≡ length bytes
length-over bytes more start fits =
    omega (
      arith,
      length-append (take start bytes ++ more) (drop (start + length more) bytes),
      length-append (take start bytes) more,
      length-take-le start bytes (omega arith),
      length-drop (start + length more) bytes,
    )

over-append : (front rest more : List ℕ) (start : ℕ) → start + length more ≤ length front
    → over (front ++ rest) more start ≡ over front more start ++ rest
over-append front rest more start fits =
    rw (take-append-le start front rest (omega arith), drop-append-le (start + length more) front rest fits)
    (sym (append_assoc (take start front ++ more) (drop (start + length more) front) rest))

-- what is written among the first bytes leaves the others
pub over_taken : (bytes more : List ℕ) (start at : ℕ) → start + length more ≤ at → at ≤ length bytes
    → take at (over bytes more start) ≡ over (take at bytes) more start
over_taken bytes more start at fits within =
    let front = take at bytes in
    let long : length front ≡ at = length-take-le at bytes within in
    let inner : start + length more ≤ length front = omega (arith, long) in
    let whole = rw (take-append-drop at bytes) at (over-append front (drop at bytes) more start inner) in
    let size : length (over front more start) ≡ at = length-over front more start inner ∙ long in
    rw whole (rw size at (take-append_seam (over front more start) (drop at bytes)))

front_len : (bytes head : List ℕ) (start room : ℕ) → start + length head ≡ room → room ≤ length bytes
    → length (take start bytes ++ head) ≡ room
front_len bytes head start room ends fits =
    omega (arith, length-append (take start bytes) head, length-take-le start bytes (omega arith))

-- what is written behind a place, and the first bytes of it
pub laid : (bytes more : List ℕ) (at len : ℕ) → at ≤ length bytes → len ≤ length more
    → take (at + len) (over bytes more at) ≡ take at bytes ++ take len more
laid bytes more at len fits within =
    let long = length-take-le at bytes fits in
    rw (take-append-le (at + len) (take at bytes ++ more) (drop (at + length more) bytes) (omega (arith, long, length-append (take at bytes) more)))
    (rw long at (take-append-add (take at bytes) more len))

-- all that is written behind a place
pub laid_all : (bytes more : List ℕ) (at : ℕ) → at ≤ length bytes → take (at + length more) (over bytes more at) ≡ take at bytes ++ more
laid_all bytes more at fits = rw (take_all (length more) more (omega arith)) at (laid bytes more at (length more) fits (omega arith))

-- a byte behind a place, and behind it bytes without the first of them
pub behind : (bytes more : List ℕ) (byte at skip len : ℕ) → at + 1 ≤ length bytes → skip ≤ len → len ≤ length more
    → take (at + 1 + len - skip) (over (over bytes (byte ∷ []) at) (drop skip more) (at + 1)) ≡ take at bytes ++ (byte ∷ drop skip (take len more))
behind bytes more byte at skip len fits le within =
    let one = over bytes (byte ∷ []) at in
    let rest : skip + (len - skip) ≡ len = omega arith in
    let end : at + 1 + len - skip ≡ at + 1 + (len - skip) = omega arith in
    let cut : drop skip (take len more) ≡ take (len - skip) (drop skip more) = rw rest at (drop-take skip (len - skip) more) in
    let long : at + 1 ≤ length one = omega (arith, length-over bytes (byte ∷ []) at fits) in
    rw (
      end,
      cut,
      laid one (drop skip more) (at + 1) (len - skip) long (omega (arith, length-drop skip more)),
      laid bytes (byte ∷ []) at 1 (omega arith) (omega arith),
    )
    (append_assoc (take at bytes) (byte ∷ []) (take (len - skip) (drop skip more)))

-- a head that ends where the text begins
pub head_is : (bytes head : List ℕ) (start room : ℕ) → start + length head ≡ room → room ≤ length bytes
    → drop start (take room (over bytes head start)) ≡ head
head_is bytes head start room ends fits =
    let front = take start bytes in
    let whole : take room (over bytes head start) ≡ front ++ head =
    rw (front_len bytes head start room ends fits) at (take-append_seam (front ++ head) (drop (start + length head) bytes)) in
    let behind : drop start (front ++ head) ≡ head =
    rw (length-take-le start bytes (omega arith)) at (drop-append_seam front head) in
    rw whole behind

-- leaves the text
pub text_is : (bytes head : List ℕ) (start room : ℕ) → start + length head ≡ room → room ≤ length bytes
    → drop room (over bytes head start) ≡ drop room bytes
text_is bytes head start room ends fits =
    let rest = drop (start + length head) bytes in
    let behind : drop room (over bytes head start) ≡ rest =
    rw (front_len bytes head start room ends fits) at (drop-append_seam (take start bytes ++ head) rest) in
    let same : rest ≡ drop room bytes = rw ends refl in
    behind ∙ same

-- both are the bytes from the head's start on
pub both_are : (bytes : List ℕ) (start room : ℕ) → start ≤ room → room ≤ length bytes
    → drop start bytes ≡ drop start (take room bytes) ++ drop room bytes
both_are bytes start room le fits =
    rw (take-append-drop room bytes) at
    (drop-append-le start (take room bytes) (drop room bytes) (omega (arith, length-take-le room bytes fits)))

pub none_behind : (bytes : List ℕ) (room : ℕ) → drop room (take room bytes) ≡ []
none_behind bytes room = drop_all room (take room bytes) (omega (arith, length-take room bytes))
