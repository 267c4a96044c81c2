-- A run of appends of entries, and what is found of it.
use Rattle.std.proofs.Common.{◌≡◌, ℕ, zero, suc, List, [], ◌∷◌, ◌++◌, length, take, Option, Some, None, is_some, true, refl, sym, ◌∙◌, ap, subst, arith}
use Rattle.std.proofs.lemmas.List.{map-append, length-map}
use Rattle.std.specs.List.{AllByRecursion}
use Rattle.shop_history.specs.declared.acts.Entry.{Entry}
use Rattle.shop_disk.specs.DiskStates.{DiskState}
use Rattle.shop_records.specs.Records as records
use Rattle.shop_records.specs.Runs as runs
use Rattle.shop_records.specs.Standing as standing
use Rattle.shop_journal.specs.declared.headers.Format.TheVariants.{Second}
use Rattle.shop_journal.specs.declared.headers.Head.{Head}
use Rattle.shop_journal.specs.declared.opening.Found.{Found}
use Rattle.shop_journal.specs.declared.opening.Found.TheVariants as found
use Rattle.shop_journal.specs.Appending.{Stands}
use Rattle.shop_journal.specs.Headers.{header_of}
use Rattle.shop_journal.specs.Journals.{Keeps, payloads_of}
use Rattle.shop_journal.specs.Opening.{Finds, FindsJust, FindsFront}
use Rattle.shop_journal.specs.Payloads.{IsEntry, payload_of}
use Rattle.shop_journal.specs.Runs.{IsFrontOf, IsRun, Leaves, MayBeLeft, Run, Standing, records_of, with_begun, with_done}

-- ---- lists

more_payloads : (entries : List Entry) (entry : Entry) → payloads_of Second entries ++ payload_of Second entry ∷ [] ≡ payloads_of Second (entries ++ entry ∷ [])
more_payloads entries entry = sym (map-append (payload_of Second) entries (entry ∷ []))

all_both : (xs ys : List Entry) → AllByRecursion (IsEntry Second) xs → AllByRecursion (IsEntry Second) ys → AllByRecursion (IsEntry Second) (xs ++ ys)
all_both [] ys each others = others
all_both (x ∷ xs) ys each others = (each.0, all_both xs ys each.1 others)

all_taken : (count : ℕ) (xs : List Entry) → AllByRecursion (IsEntry Second) xs → AllByRecursion (IsEntry Second) (take count xs)
all_taken zero xs each = tt
all_taken (suc count) [] each = tt
all_taken (suc count) (x ∷ xs) each = (each.0, all_taken count xs each.1)

payloads_taken : (count : ℕ) (xs : List Entry) → take count (payloads_of Second xs) ≡ payloads_of Second (take count xs)
payloads_taken zero xs = refl
payloads_taken (suc count) [] = refl
payloads_taken (suc count) (x ∷ xs) = ap (λ (l : List (List ℕ)). payload_of Second x ∷ l) (payloads_taken count xs)

-- ---- an append

-- what stands behind one entry more
pub stands_more : (disk : DiskState) (head : Head) (entries : List Entry) (entry : Entry) → standing.Stands disk (header_of Second head) (payloads_of Second entries ++ payload_of Second entry ∷ [])
    → Stands disk head (entries ++ entry ∷ [])
stands_more disk head entries entry stands = subst (λ (l : List (List ℕ)). standing.Stands disk (header_of Second head) l) (more_payloads entries entry) stands

run_more : (run : Run) (entry : Entry) → IsRun run → IsEntry Second entry → IsRun (with_begun entry run)
run_more run entry is kept = record { head = is.head; first = is.first; begun = all_both run.begun (entry ∷ []) is.begun (kept, tt) }

pub standing_more : (now : DiskState) (run : Run) (entry : Entry) (moment : ℕ) → IsRun run → IsEntry Second entry
    → runs.Standing now (runs.with_done (payload_of Second entry) moment (records_of run)) → Standing now (with_done entry moment run)
standing_more now run entry moment is kept stands =
    let all = run_more run entry is kept in
    record {
      entries = record { head = all.head; first = all.first; begun = all.begun };
      records_stand = subst (λ (l : List (List ℕ)). runs.Standing now (record (records_of run) { begun = l; moments = run.moments ++ moment ∷ [] })) (more_payloads run.begun entry) stands;
    }

pub leaves_more : (now : DiskState) (run : Run) (entry : Entry) → IsRun run → IsEntry Second entry
    → runs.Leaves now (runs.with_begun (payload_of Second entry) (records_of run)) → Leaves now (with_begun entry run)
leaves_more now run entry is kept left = record {
  entries = run_more run entry is kept;
  records_left = subst (λ (l : List (List ℕ)). runs.Leaves now (record (records_of run) { begun = l })) (more_payloads run.begun entry) left;
}

-- ---- what is found

pub finds_weaker : {D : Type 0} (P Q : Head → List Entry → Type 0) → ((head : Head) (entries : List Entry) → P head entries → Q head entries) → (what : Found D) → Finds P what → Finds Q what
finds_weaker P Q to (found.Open journal head entries) is = to head entries.items is
finds_weaker P Q to (found.OldFormat disk) is = is
finds_weaker P Q to (found.NotAJournal disk at) is = is
finds_weaker P Q to (found.Failed disk) is = is
finds_weaker P Q to (found.Memory disk) is = is

-- the entries of a file that keeps a run's records
pub kept_front : (run : Run) (least : ℕ) (file : List ℕ) → IsRun run → (kept : runs.KeepsAtLeast least (records_of run) file)
    → Keeps Second run.head (run.first ++ take kept.count run.begun) file
kept_front run least file is kept =
    let same : payloads_of Second run.first ++ take kept.count (payloads_of Second run.begun) ≡ payloads_of Second (run.first ++ take kept.count run.begun) =
    ap (λ (l : List (List ℕ)). payloads_of Second run.first ++ l) (payloads_taken kept.count run.begun) ∙ sym (map-append (payload_of Second) run.first (take kept.count run.begun)) in
    record {
      head_is = is.head;
      each = all_both run.first (take kept.count run.begun) is.first (all_taken kept.count run.begun is.begun);
      keeps = subst (λ (l : List (List ℕ)). records.Keeps (header_of Second run.head) l file) same kept.keeps;
    }

pub front_found : {D : Type 0} (run : Run) (least : ℕ) (file : List ℕ) → IsRun run → (kept : runs.KeepsAtLeast least (records_of run) file) → (what : Found D)
    → FindsJust run.head (run.first ++ take kept.count run.begun) what → FindsFront run least what
front_found run least file is kept what just =
    finds_weaker (λ h es. (h ≡ run.head) × (es ≡ run.first ++ take kept.count run.begun)) (IsFrontOf run least)
    (λ h es same. record {
      same = same.0;
      count = kept.count;
      enough = kept.enough;
      begun = omega (arith, kept.begun, length-map run.begun (payload_of Second));
      is = same.1;
    })
    what just

pub told_file : (told : Option (List ℕ)) → is_some told ≡ true → (file : List ℕ) × (told ≡ Some file)
told_file None tells = absurd (cc tells)
told_file (Some file) tells = (file, refl)

-- what is kept is found, so what a crash left is
pub survives : {D : Type 0} (result : Found D) (told : Option (List ℕ))
    → ((head : Head) (entries : List Entry) (file : List ℕ) → told ≡ Some file → Keeps Second head entries file → FindsJust head entries result)
    → (before : DiskState) (run : Run) (at : ℕ) (image : List ℕ) → MayBeLeft before run at image → told ≡ Some image → FindsFront run (runs.done_by at run.moments) result
survives result told exact before run at image left is =
    let kept = left.leaves.records_left.crash at image left.since left.until left.left in
    let entries = left.leaves.entries in
    front_found run (runs.done_by at run.moments) image entries kept result
    (exact run.head (run.first ++ take kept.count run.begun) image is (kept_front run (runs.done_by at run.moments) image entries kept))

pub again : {D : Type 0} (result : Found D) (now : DiskState)
    → ((head : Head) (entries : List Entry) (file : List ℕ) → now.told ≡ Some file → Keeps Second head entries file → FindsJust head entries result)
    → (run : Run) → Leaves now run → is_some now.told ≡ true → FindsFront run (length run.moments) result
again result now exact run leaves tells =
    let file = told_file now.told tells in
    let kept = leaves.records_left.read file.0 file.1 in
    front_found run (length run.moments) file.0 leaves.entries kept result
    (exact run.head (run.first ++ take kept.count run.begun) file.0 file.1 (kept_front run (length run.moments) file.0 leaves.entries kept))
