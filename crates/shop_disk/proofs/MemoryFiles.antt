-- Writes over a file, whole or torn, one behind another.
use Rattle.std.proofs.Common.{◌≡◌, ◌≢◌, inl, inr, ⊎_elim, ℕ, ◌+◌, ◌-◌, ◌<◌, ◌≤◌, min, List, [], ◌∷◌, ◌++◌, length, get_or, take, drop, Some, refl, sym, ◌∙◌, ap, subst, arith}
use Rattle.std.proofs.lemmas.List.{length-append, length-drop, length-take, get_or-take, get_or-drop, get_or_append_left, get_or-append_right, take_min}
use Rattle.shop_disk.specs.Images.{Torn, Holds}
use Rattle.shop_disk.specs.declared.disk.Wrote.{Wrote}
use Rattle.shop_disk.specs.declared.disk.Wrote.TheVariants as wrote
use Rattle.shop_disk.specs.declared.memory_disk.Call.{Call}
use Rattle.shop_disk.specs.declared.memory_disk.Call.TheVariants as call
use Rattle.shop_disk.specs.MemoryFiles.{Written, FileState, overwritten, after, after_all, TornBy, MayLeave, laid, crashed, size_of, Replays}
use Rattle.shop_disk.specs.Calls.{WritesAt, SyncsAs}
use Rattle.shop_disk.proofs.cited.Torn.{torn_same, torn_wider}

module _ (file : List ℕ) (at : ℕ) (bytes : List ℕ) where
  abbrev back : List ℕ
  back = drop (at + length bytes) file

  front : length (take at file) ≡ min at (length file)
  front = length-take at file

  both : length (take at file ++ bytes) ≡ min at (length file) + length bytes
  both = omega (arith, length-append (take at file) bytes, front)

  size : length (overwritten file at bytes) ≡ min at (length file) + length bytes + (length file - (at + length bytes))
  size = omega (arith, length-append (take at file ++ bytes) back, both, length-drop (at + length bytes) file)

  pub torn_by : Torn at (length bytes) file (overwritten file at bytes)
  torn_by = record {
    no_shorter = omega (arith, size);
    no_longer = omega (arith, size);
    below = λ i less before.
        get_or_append_left (take at file ++ bytes) back 0 i (omega (arith, both, before, less))
        ∙ get_or_append_left (take at file) bytes 0 i (omega (arith, front, before, less)) ∙ get_or-take at file i 0 before;
    above = λ i less behind.
        let place : at + length bytes + (i - (at + length bytes)) ≡ i = omega (arith, behind) in
        get_or-append_right (take at file ++ bytes) back (at + length bytes) i 0 (omega (arith, both, less, behind)) behind
        ∙ get_or-drop (at + length bytes) file (i - (at + length bytes)) 0 ∙ ap (λ (k : ℕ). get_or file k 0) place;
  }

  pub held_by : at ≤ length file → Holds (overwritten file at bytes) at bytes
  held_by within = record {
    within = omega (arith, size, within);
    each = λ i less.
        let place : at + i - at ≡ i = omega arith in
        get_or_append_left (take at file ++ bytes) back 0 (at + i) (omega (arith, both, less, within))
        ∙ get_or-append_right (take at file) bytes at (at + i) 0 (omega (arith, front, within)) (omega arith) ∙ ap (λ (k : ℕ). get_or bytes k 0) place;
  }

-- the last of what was written
torn_last : (earlier : List Written) (last : Written) (file image : List ℕ) → TornBy (earlier ++ last ∷ []) file image
    → (mid : List ℕ) × TornBy earlier file mid × Torn last.at (length last.bytes) mid image
torn_last [] last file image torn = (file, refl, subst (λ i. Torn last.at (length last.bytes) file i) (sym torn.2) torn.1)
torn_last (first ∷ earlier) last file image torn =
    let rest = torn_last earlier last torn.0 image torn.2 in
    (rest.0, (torn.0, torn.1, rest.1), rest.2)

-- each image behind a write is an image before it, torn
pub write_images : (file : FileState) (at : ℕ) (bytes : List ℕ) (answer : Wrote) (image : List ℕ) → MayLeave (after file (call.Write at bytes answer)) image
    → (from : List ℕ) × MayLeave file from × Torn at (length bytes) from image
write_images file at bytes wrote.Done image (inl same) = (file.bytes, inl refl, subst (λ i. Torn at (length bytes) file.bytes i) (sym same) (torn_by file.bytes at bytes))
write_images file at bytes wrote.Failed image (inl same) = (file.bytes, inl refl, subst (λ i. Torn at (length bytes) file.bytes i) (sym same) (torn_same at (length bytes) file.bytes))
write_images file at bytes wrote.Done image (inr torn) =
    let last = torn_last file.written (record { at = at; bytes = bytes }) file.synced image torn in
    (last.0, inr last.1, last.2)
write_images file at bytes wrote.Failed image (inr torn) =
    let last = torn_last file.written (record { at = at; bytes = bytes }) file.synced image torn in
    (last.0, inr last.1, last.2)

-- one call more
pub after_last : (file : FileState) (calls : List Call) (call : Call) → after_all file (calls ++ call ∷ []) ≡ after (after_all file calls) call
after_last file [] call = refl
after_last file (first ∷ calls) call = after_last (after file first) calls call

-- what is laid over a file tears it
laid_torn : (keep : ℕ) (written : List Written) (file : List ℕ) → TornBy written file (laid keep written file)
laid_torn keep [] file = refl
laid_torn keep (first ∷ later) file =
    let over = overwritten file first.at (take keep first.bytes) in
    let torn = torn_wider first.at (length (take keep first.bytes)) (length first.bytes) file over (omega (arith, length-take keep first.bytes)) (torn_by file first.at (take keep first.bytes)) in
    (over, torn, laid_torn (keep - length first.bytes) later over)

pub crashed_left : (keep : ℕ) (file : FileState) → MayLeave file (crashed keep file)
crashed_left keep file = inr (laid_torn keep file.written file.synced)

-- a write more
pub laid_last : (keep : ℕ) (earlier : List Written) (last : Written) (file : List ℕ)
    → laid keep (earlier ++ last ∷ []) file ≡ overwritten (laid keep earlier file) last.at (take (keep - size_of earlier) last.bytes)
laid_last keep [] last file = ap (λ (n : ℕ). overwritten file last.at (take n last.bytes)) (omega arith)
laid_last keep (first ∷ earlier) last file =
    laid_last (keep - length first.bytes) earlier last (overwritten file first.at (take keep first.bytes))
    ∙ ap (λ (n : ℕ). overwritten (laid keep (first ∷ earlier) file) last.at (take n last.bytes)) (omega arith)

pub size_last : (earlier : List Written) (last : Written) → size_of (earlier ++ last ∷ []) ≡ size_of earlier + length last.bytes
size_last [] last = omega arith
size_last (first ∷ earlier) last = omega (arith, size_last earlier last)

-- what a write and a sync make of a file
pub written : (file : FileState) (at : ℕ) (bytes : List ℕ) (answer : Wrote) → at ≤ length file.bytes
    → WritesAt (Some file.bytes) (Some (after file (call.Write at bytes answer)).bytes) at bytes answer
written file at bytes wrote.Done within = (torn_by file.bytes at bytes, held_by file.bytes at bytes within)
written file at bytes wrote.Failed within = torn_same at (length bytes) file.bytes

pub synced_bytes : (file : FileState) (answer : Wrote) → (after file (call.Sync answer)).bytes ≡ file.bytes
synced_bytes file wrote.Done = refl
synced_bytes file wrote.Failed = refl

pub synced_leaves : (file : FileState) (answer : Wrote) (image : List ℕ) → MayLeave (after file (call.Sync answer)) image → MayLeave file image
synced_leaves file wrote.Done image (inl same) = inl same
synced_leaves file wrote.Done image (inr same) = inl same
synced_leaves file wrote.Failed image left = left

pub durable : (file : FileState) (answer : Wrote) → SyncsAs (Some file.bytes) (MayLeave (after file (call.Sync answer))) answer
durable file wrote.Done = λ image left. ⊎_elim (λ same. same) (λ same. same) left
durable file wrote.Failed = tt

-- bytes that are read at a place
pub read_front : (whole front behind : List ℕ) (at n : ℕ) → at ≤ length whole → n ≤ length (take (length whole - at) (drop at whole)) → front ≡ take n (take (length whole - at) (drop at whole))
    → (at + n ≤ length whole) × ((i : ℕ) → i < n → get_or (front ++ behind) i 0 ≡ get_or whole (at + i) 0)
read_front whole front behind at n within fits is =
    let rest = take (length whole - at) (drop at whole) in
    let fewer : n ≤ length whole - at = omega (arith, fits, length-take (length whole - at) (drop at whole)) in
    let long : length front ≡ n = ap length is ∙ omega (arith, length-take n rest, fits) in (
      omega (arith, within, fewer),
      λ i less.
          get_or_append_left front behind 0 i (omega (arith, less, long)) ∙ ap (λ (l : List ℕ). get_or l i 0) is ∙ get_or-take n rest i 0 less
          ∙ get_or-take (length whole - at) (drop at whole) i 0 (omega (arith, less, fewer)) ∙ get_or-drop at whole i 0,
    )

-- a replay goes on with a write
pub replayed : (keep : ℕ) (file : FileState) (bytes image more over : List ℕ) (left count at : ℕ) (from : List ℕ) (answer : Wrote) → Replays keep file bytes image left
    → count ≡ min left (length from) → over ≡ overwritten image at (take count from) → more ≡ (after (record file { bytes = bytes }) (call.Write at from answer)).bytes
    → Replays keep (after file (call.Write at from answer)) more over (left - count)
replayed keep file bytes image more over left count at from answer so_far counted is_over is_more =
    let last : Written = record { at = at; bytes = from } in
    let front : take count from ≡ take left from = ap (λ (n : ℕ). take n from) counted ∙ take_min left from in
    record {
      bytes_are = is_more ∙ same_bytes answer;
      image_is = is_over ∙ ap (overwritten image at) front ∙ ap (λ (l : List ℕ). overwritten l at (take left from)) so_far.image_is
          ∙ ap (λ (n : ℕ). overwritten (crashed keep file) at (take n from)) so_far.left_is ∙ sym (laid_last keep file.written last file.synced) ∙ same_image answer;
      left_is = omega (arith, counted, so_far.left_is, size_last file.written last) ∙ same_left answer;
    }
  where
    same_bytes : (answer : Wrote) → (after (record file { bytes = bytes }) (call.Write at from answer)).bytes ≡ (after file (call.Write at from answer)).bytes
    same_bytes wrote.Done = ap (λ (l : List ℕ). overwritten l at from) so_far.bytes_are
    same_bytes wrote.Failed = so_far.bytes_are

    same_image : (answer : Wrote) → laid keep (file.written ++ record { at = at; bytes = from } ∷ []) file.synced ≡ crashed keep (after file (call.Write at from answer))
    same_image wrote.Done = refl
    same_image wrote.Failed = refl

    same_left : (answer : Wrote) → keep - size_of (file.written ++ record { at = at; bytes = from } ∷ []) ≡ keep - size_of (after file (call.Write at from answer)).written
    same_left wrote.Done = refl
    same_left wrote.Failed = refl

-- where a write isn't done it failed
pub not_done : (file : FileState) (at : ℕ) (bytes : List ℕ) (answer : Wrote) → answer ≢ wrote.Done → file.bytes ≡ (after file (call.Write at bytes answer)).bytes
not_done file at bytes wrote.Done other = absurd (other refl)
not_done file at bytes wrote.Failed other = refl
