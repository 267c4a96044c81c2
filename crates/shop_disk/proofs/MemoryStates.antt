-- A call more on the list of a disk in memory.
use Rattle.std.proofs.Common.{◌≡◌, inl, inr, ⊎_elim, ℕ, ◌+◌, ◌<◌, ◌≤◌, Bool, true, false, List, [], ◌∷◌, ◌++◌, length, get_or, take, Some, sym, ◌∙◌, ap, subst, arith}
use Rattle.std.specs.Prelude.{◌==◌}
use Rattle.std.specs.List.{list_any}
use Rattle.shop_edges.specs.Causes.{count_up}
use Rattle.std.proofs.lemmas.Bool.{cases_eq}
use Rattle.std.proofs.lemmas.List.{length-append, take-append-le, take_all, take_more}
use Rattle.shop_disk.specs.declared.memory_disk.Call.{Call}
use Rattle.shop_disk.specs.declared.memory_disk.Call.TheVariants as call
use Rattle.shop_disk.specs.declared.disk.Wrote.{Wrote}
use Rattle.shop_disk.specs.Images.{Torn}
use Rattle.shop_disk.specs.DiskStates.{Elapses, NoMore, Follows}
use Rattle.shop_disk.specs.Calls.{WritesAt, SyncsAs}
use Rattle.shop_disk.specs.MemoryFiles.{FileState, MayLeave, after, synced_file}
use Rattle.shop_disk.specs.MemoryStates.{MemoryState, Asks, IsLook, disk_of, file_of, file_after, fails_next, listed, refused, write_fails}
use Rattle.shop_disk.proofs.MemoryFiles.{after_last, write_images, written, synced_bytes, synced_leaves, durable}

pub listed_file : (call : Call) (fails : Bool) (disk : MemoryState) → file_of (listed call fails disk) ≡ after (file_of disk) call
listed_file call fails disk = after_last (synced_file disk.first) disk.calls call

-- a moment more
pub listed_elapses : (call : Call) (fails : Bool) (disk : MemoryState) → Elapses (disk_of disk) (disk_of (listed call fails disk))
listed_elapses call fails disk =
    let first = disk.first in
    let calls = disk.calls in
    let longer : length (calls ++ call ∷ []) ≡ length calls + 1 = length-append calls (call ∷ []) in
    record {
      later = omega (arith, longer);
      nothing_else = λ at image le since. elim (cases_eq since.count (length calls + 1)) [
        | inl last ↦ inr (subst (λ cs. MayLeave (file_after first cs) image) (take_all since.count (calls ++ call ∷ []) (omega (arith, longer, last))) since.left)
        | inr earlier ↦
            let within : since.count ≤ length calls = omega (arith, earlier, since.until, longer) in
            inl (record {
              count = since.count;
              since = since.since;
              until = within;
              left = subst (λ cs. MayLeave (file_after first cs) image) (take-append-le since.count calls (call ∷ []) within) since.left;
            })
      ];
      keeps = λ at image le since. record {
        count = since.count;
        since = since.since;
        until = omega (arith, since.until, longer);
        left = subst (λ cs. MayLeave (file_after first cs) image) (sym (take-append-le since.count calls (call ∷ []) since.until)) since.left;
      };
    }

refused_elapses : (disk : MemoryState) → Elapses (disk_of disk) (disk_of (refused disk))
refused_elapses disk = record { later = omega arith; nothing_else = λ at image le since. inl since; keeps = λ at image le since. since }

module _ (call : Call) (fails : Bool) (old new : MemoryState) (asks : Asks call fails old new) where
  pub asks_elapses : Elapses (disk_of old) (disk_of new)
  asks_elapses = ⊎_elim (λ is. subst (λ m. Elapses (disk_of old) (disk_of m)) (sym is.1) (listed_elapses call fails old))
      (λ is. subst (λ m. Elapses (disk_of old) (disk_of m)) (sym is.1) (refused_elapses old)) asks

  pub look_file : IsLook call → file_of new ≡ file_of old
  look_file look = ⊎_elim (λ is. ap file_of is.1 ∙ listed_file call fails old ∙ look (file_of old)) (λ is. ap file_of is.1) asks

  pub look_told : IsLook call → (disk_of new).told ≡ (disk_of old).told
  look_told look = ap (λ (f : FileState). Some f.bytes) (look_file look)

  pub look_leaves : IsLook call → NoMore (disk_of old) (disk_of new)
  look_leaves look = λ image left. subst (λ f. MayLeave f image) (look_file look) left

-- the same of the parts of a disk
module _ (call : Call) (first : List ℕ) (calls later : List Call) (list : List ℕ) (faults : ℕ) (old : MemoryState)
    (view : record { first = first; calls = calls; fails = list; faults = faults } ≡ old) (more : later ≡ calls ++ call ∷ []) where
  pub listed_failing : (now : ℕ) → now ≡ count_up faults → record { first = first; calls = later; fails = list; faults = now } ≡ listed call true old
  listed_failing now counted =
      subst (λ (m : MemoryState). record { first = first; calls = later; fails = list; faults = now } ≡ listed call true m) view
      (ap (λ (l : List Call). record { first = first; calls = l; fails = list; faults = now }) more
      ∙ ap (λ (n : ℕ). record { first = first; calls = calls ++ call ∷ []; fails = list; faults = n }) counted)

  pub listed_done : record { first = first; calls = later; fails = list; faults = faults } ≡ listed call false old
  listed_done =
      subst (λ (m : MemoryState). record { first = first; calls = later; fails = list; faults = faults } ≡ listed call false m) view
      (ap (λ (l : List Call). record { first = first; calls = l; fails = list; faults = faults }) more)

  pub next_of : (fails : Bool) → fails ≡ list_any (λ n. n == count_up (length calls)) list → fails ≡ fails_next old
  next_of fails is = is ∙ ap fails_next view

-- the bytes of the file behind a call more
pub bytes_more : (bytes first : List ℕ) (calls later : List Call) (call : Call) → later ≡ calls ++ call ∷ [] → bytes ≡ (after (file_after first calls) call).bytes
    → bytes ≡ (file_after first later).bytes
bytes_more bytes first calls later call more is =
    is ∙ ap (λ (f : FileState). f.bytes) (sym (after_last (synced_file first) calls call)) ∙ ap (λ (l : List Call). (file_after first l).bytes) (sym more)

-- a write that is listed
module _ (old new : MemoryState) (at : ℕ) (bytes : List ℕ) (answer : Wrote) (is : new ≡ listed (call.Write at bytes answer) (write_fails answer) old) where
  write_file : file_of new ≡ after (file_of old) (call.Write at bytes answer)
  write_file = ap file_of is ∙ listed_file (call.Write at bytes answer) (write_fails answer) old

  pub write_torn : Follows (Torn at (length bytes)) (disk_of old) (disk_of new)
  write_torn = λ image left. write_images (file_of old) at bytes answer image (subst (λ f. MayLeave f image) write_file left)

  pub write_written : at ≤ length (file_of old).bytes → WritesAt (disk_of old).told (disk_of new).told at bytes answer
  write_written within = subst (λ (f : FileState). WritesAt (disk_of old).told (Some f.bytes) at bytes answer) (sym write_file) (written (file_of old) at bytes answer within)

-- a sync that is listed
module _ (old new : MemoryState) (answer : Wrote) (is : new ≡ listed (call.Sync answer) (write_fails answer) old) where
  sync_file : file_of new ≡ after (file_of old) (call.Sync answer)
  sync_file = ap file_of is ∙ listed_file (call.Sync answer) (write_fails answer) old

  pub sync_told : (disk_of new).told ≡ (disk_of old).told
  sync_told = ap (λ (f : FileState). Some f.bytes) sync_file ∙ ap Some (synced_bytes (file_of old) answer)

  pub sync_leaves : NoMore (disk_of old) (disk_of new)
  sync_leaves = λ image left. synced_leaves (file_of old) answer image (subst (λ f. MayLeave f image) sync_file left)

  pub sync_durable : SyncsAs (disk_of old).told (disk_of new).may_leave answer
  sync_durable = subst (λ f. SyncsAs (disk_of old).told (MayLeave f) answer) (sym sync_file) (durable (file_of old) answer)

-- the file behind the next of its calls
pub file_more : (first : List ℕ) (calls : List Call) (index : ℕ) (item : Call) → index < length calls → item ≡ get_or calls index item
    → file_after first (take (index + 1) calls) ≡ after (file_after first (take index calls)) item
file_more first calls index item within is =
    ap (file_after first) (take_more calls index item within) ∙ after_last (synced_file first) (take index calls) (get_or calls index item)
    ∙ ap (after (file_after first (take index calls))) (sym is)
