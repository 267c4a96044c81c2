-- One more byte of a text that is escaped by whole runs of plain bytes.
use Rattle.std.proofs.Common.{◌≡◌, ℕ, ◌+◌, ◌-◌, ◌<◌, ◌≤◌, List, [], ◌∷◌, ◌++◌, length, take, drop, get_or, arith, append_assoc, append-nil}
use Rattle.std.proofs.lemmas.Grind.{flat_map-append}
use Rattle.std.proofs.lemmas.List.{take_more, drop-append-le, drop-take, length-take-le}
use Rattle.std.proofs.Math.ListN.{drop_of_length-le}
use Rattle.shop_text.specs.Escape.{escape_byte, escape}

escape_more : (bytes : List ℕ) (at : ℕ) → at < length bytes
    → escape (take (at + 1) bytes) ≡ escape (take at bytes) ++ escape_byte (get_or bytes at 0)
escape_more bytes at lt =
    let byte = get_or bytes at 0 in
    rw (take_more bytes at 0 lt, flat_map-append escape_byte (take at bytes) (byte ∷ []), append-nil (escape_byte byte))

run_more : (bytes : List ℕ) (start at : ℕ) → start ≤ at → at < length bytes
    → drop start (take (at + 1) bytes) ≡ drop start (take at bytes) ++ get_or bytes at 0 ∷ []
run_more bytes start at le lt =
    let long : length (take at bytes) ≡ at = length-take-le at bytes (omega arith) in
    rw (take_more bytes at 0 lt)
    (drop-append-le start (take at bytes) (get_or bytes at 0 ∷ []) (omega (arith, long)))

-- a plain byte lengthens the run
pub plain_step : (before text bytes : List ℕ) (start at : ℕ) → start ≤ at → at < length bytes
    → escape_byte (get_or bytes at 0) ≡ get_or bytes at 0 ∷ []
    → text ++ drop start (take at bytes) ≡ before ++ escape (take at bytes)
    → text ++ drop start (take (at + 1) bytes) ≡ before ++ escape (take (at + 1) bytes)
plain_step before text bytes start at le lt plain so_far =
    let byte = get_or bytes at 0 in
    let run = drop start (take at bytes) in
    rw (run_more bytes start at le lt, escape_more bytes at lt, plain, ← append_assoc text run (byte ∷ []), so_far)
    (append_assoc before (escape (take at bytes)) (byte ∷ []))

-- an entity follows the run, and a new run begins
pub entity_step : (before text name bytes now : List ℕ) (start at : ℕ) → start ≤ at → at < length bytes
    → escape_byte (get_or bytes at 0) ≡ name
    → now ≡ text ++ take (at - start) (drop start bytes) ++ name
    → text ++ drop start (take at bytes) ≡ before ++ escape (take at bytes)
    → now ++ drop (at + 1) (take (at + 1) bytes) ≡ before ++ escape (take (at + 1) bytes)
entity_step before text name bytes now start at le lt entity is so_far =
    let long : length (take (at + 1) bytes) ≡ at + 1 = length-take-le (at + 1) bytes (omega arith) in
    let none : drop (at + 1) (take (at + 1) bytes) ≡ [] =
    drop_of_length-le (take (at + 1) bytes) (omega (arith, long)) in
    let ends : start + (at - start) ≡ at = omega arith in
    let run : drop start (take at bytes) ≡ take (at - start) (drop start bytes) =
    rw ends at (drop-take start (at - start) bytes) in
    rw (none, append-nil now, is, ← run, so_far, escape_more bytes at lt, entity)
    (append_assoc before (escape (take at bytes)) name)
