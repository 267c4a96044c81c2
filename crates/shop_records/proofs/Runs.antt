-- A run begins, an append more goes on with it, and so does an opening.
use Rattle.std.proofs.Common.{◌≡◌, inl, inr, ⊎_elim, ℕ, ◌+◌, ◌<◌, ◌≤◌, List, [], ◌∷◌, ◌++◌, length, Option, Some, None, true, refl, sym, ◌∙◌, subst, cond, arith}
use Rattle.std.specs.Prelude.{is_some, nat_le}
use Rattle.std.proofs.lemmas.Bool.{cases_lt}
use Rattle.std.proofs.lemmas.List.{append-nil, append_assoc, length-append, take_all, take-append-le}
use Rattle.std.proofs.lemmas.List.Sums.{sum_by-append, sum_by-cons, count_by-le-length}
use Rattle.shop_disk.specs.DiskStates.{DiskState, IsDisk, LeavesOnly}
use Rattle.shop_records.specs.Records.{Keeps}
use Rattle.shop_records.specs.Standing.{Stands, KeepsOr}
use Rattle.shop_records.specs.Runs.{Run, KeepsAtLeast, Leaves, Standing, done_by, run_from, with_begun, with_done}

one_later : (early late m : ℕ) → early ≤ late → cond (nat_le m early) 1 0 ≤ cond (nat_le m late) 1 0
one_later early late m le = grind arith

-- more are acknowledged at a later moment
done_more : (early late : ℕ) (moments : List ℕ) → early ≤ late → done_by early moments ≤ done_by late moments
done_more early late [] le = omega arith
done_more early late (m ∷ moments) le =
    omega (arith, sum_by-cons (λ (x : ℕ). cond (nat_le x early) 1 0) m moments, sum_by-cons (λ (x : ℕ). cond (nat_le x late) 1 0) m moments, one_later early late m le, done_more early late moments le)

done_last : (at : ℕ) (moments : List ℕ) (m : ℕ) → done_by at (moments ++ m ∷ []) ≡ done_by at moments + done_by at (m ∷ [])
done_last at moments m = sum_by-append (λ (x : ℕ). cond (nat_le x at) 1 0) moments (m ∷ [])

at_last : (at m : ℕ) → m ≤ at → done_by at (m ∷ []) ≡ 1
at_last at m le = grind arith

before_last : (at m : ℕ) → at < m → done_by at (m ∷ []) ≡ 0
before_last at m less = grind arith

all_done : (now new : ℕ) (moments : List ℕ) → now ≤ new → done_by now moments ≡ length moments → done_by new moments ≡ length moments
all_done now new moments le past = omega (arith, done_more now new moments le, past, count_by-le-length (λ m. nat_le m new) moments)

-- an append more was begun
begun_more : (least : ℕ) (run : Run) (payload file : List ℕ) → KeepsAtLeast least run file → KeepsAtLeast least (with_begun payload run) file
begun_more least run payload file kept = record {
  count = kept.count;
  enough = kept.enough;
  begun = omega (arith, kept.begun, length-append run.begun (payload ∷ []));
  keeps = subst (λ (l : List (List ℕ)). Keeps run.header (run.first ++ l) file) (sym (take-append-le kept.count run.begun (payload ∷ []) kept.begun)) kept.keeps;
}

all_kept : (least : ℕ) (run : Run) (file : List ℕ) → least ≤ length run.begun → Keeps run.header (run.first ++ run.begun) file → KeepsAtLeast least run file
all_kept least run file le keeps = record {
  count = length run.begun;
  enough = le;
  begun = omega arith;
  keeps = subst (λ (l : List (List ℕ)). Keeps run.header (run.first ++ l) file) (sym (take_all (length run.begun) run.begun (omega arith))) keeps;
}

-- the payloads with the one begun, or without it
either_kept : (least : ℕ) (run : Run) (payload file : List ℕ) → least ≤ length run.begun → KeepsOr run.header (run.first ++ run.begun) payload file → KeepsAtLeast least (with_begun payload run) file
either_kept least run payload file le (inl keeps) = begun_more least run payload file (all_kept least run file le keeps)
either_kept least run payload file le (inr keeps) =
    all_kept least (with_begun payload run) file (omega (arith, le, length-append run.begun (payload ∷ [])))
    (subst (λ (l : List (List ℕ)). Keeps run.header l file) (append_assoc run.first run.begun (payload ∷ [])) keeps)

told_file : (told : Option (List ℕ)) → is_some told ≡ true → (file : List ℕ) × (told ≡ Some file)
told_file None tells = absurd (cc tells)
told_file (Some file) tells = (file, refl)

-- a crash leaves what stands there
image_kept : (disk : DiskState) (header : List ℕ) (payloads : List (List ℕ)) → is_some disk.told ≡ true → Stands disk header payloads
    → (image : List ℕ) → disk.may_leave image → Keeps header payloads image
image_kept disk header payloads tells stands image left =
    let file = told_file disk.told tells in
    subst (Keeps header payloads) (sym (stands.durable file.0 file.1 image left)) (stands.keeps file.0 file.1)

-- at the start
pub run_begins : (disk : DiskState) (header : List ℕ) (payloads : List (List ℕ)) → IsDisk disk → is_some disk.told ≡ true → Stands disk header payloads
    → Standing disk (run_from disk.moment header payloads)
run_begins disk header payloads laws tells stands =
    let all = subst (λ (l : List (List ℕ)). Stands disk header l) (sym (append-nil payloads)) stands in
    let run = run_from disk.moment header payloads in
    record {
      tells = tells;
      stands = all;
      done = refl;
      leaves = record {
        later = omega arith;
        past = refl;
        crash = λ at image from until left.
            let same : at ≡ disk.moment = omega (arith, from, until) in
            let here = laws.only_now image (subst (λ (t : ℕ). disk.left_since t image) same left) in
            all_kept 0 run image (omega arith) (image_kept disk header (payloads ++ []) tells all image here);
        read = λ file is. all_kept 0 run file (omega arith) (all.keeps file is);
      };
    }

-- behind one append
module _ (self new : DiskState) (run : Run) (payload : List ℕ) (so_far : Standing self run)
    (any : (header : List ℕ) (payloads : List (List ℕ)) (file : List ℕ) → self.told ≡ Some file → Keeps header payloads file → LeavesOnly self new (KeepsOr header payloads payload))
    (laws : IsDisk new) where
  one : LeavesOnly self new (KeepsOr run.header (run.first ++ run.begun) payload)
  one = let file = told_file self.told so_far.tells in any run.header (run.first ++ run.begun) file.0 file.1 (so_far.stands.keeps file.0 file.1)

  within : (at : ℕ) → done_by at run.moments ≤ length run.begun
  within at = omega (arith, count_by-le-length (λ m. nat_le m at) run.moments, so_far.done)

  crash_on : (at : ℕ) (image : List ℕ) → run.start ≤ at → at ≤ new.moment → new.left_since at image → KeepsAtLeast (done_by at run.moments) (with_begun payload run) image
  crash_on at image from until left = elim (cases_lt self.moment at) [
    | inl behind ↦ either_kept (done_by at run.moments) run payload image (within at) (one.each image (laws.narrows self.moment at image (omega (arith, behind)) left))
    | inr before ↦ ⊎_elim (λ was. begun_more (done_by at run.moments) run payload image (so_far.leaves.crash at image from before was))
        (λ now. either_kept (done_by at run.moments) run payload image (within at) now) (one.before at image before left)
  ]

  pub failed_on : Leaves new (with_begun payload run)
  failed_on = record {
    later = omega (arith, so_far.leaves.later, one.later);
    past = all_done self.moment new.moment run.moments one.later so_far.leaves.past;
    crash = crash_on;
    read = λ file is.
        either_kept (length run.moments) run payload file (omega (arith, so_far.done))
        (one.each file (laws.counts_now self.moment file one.later (laws.reads_as_image file is)));
  }

  module _ (still : is_some new.told ≡ is_some self.told)
      (kept : (header : List ℕ) (payloads : List (List ℕ)) → Stands self header payloads → Stands new header (payloads ++ payload ∷ [])) where
    tells : is_some new.told ≡ true
    tells = still ∙ so_far.tells

    all : Stands new run.header (run.first ++ (run.begun ++ payload ∷ []))
    all = subst (λ (l : List (List ℕ)). Stands new run.header l) (append_assoc run.first run.begun (payload ∷ [])) (kept run.header (run.first ++ run.begun) so_far.stands)

    longer : length (run.moments ++ new.moment ∷ []) ≡ length (run.begun ++ payload ∷ [])
    longer = omega (arith, so_far.done, length-append run.moments (new.moment ∷ []), length-append run.begun (payload ∷ []))

    -- the last moment, or one before
    crash_done : (at : ℕ) (image : List ℕ) → run.start ≤ at → at ≤ new.moment → new.left_since at image
        → KeepsAtLeast (done_by at (run.moments ++ new.moment ∷ [])) (with_done payload new.moment run) image
    crash_done at image from until left = elim (cases_lt at new.moment) [
      | inl before ↦
          let none : done_by at (run.moments ++ new.moment ∷ []) ≡ done_by at run.moments = omega (arith, done_last at run.moments new.moment, before_last at new.moment before) in
          again (done_by at (run.moments ++ new.moment ∷ [])) image (subst (λ (n : ℕ). KeepsAtLeast n (with_begun payload run) image) (sym none) (crash_on at image from until left))
      | inr last ↦
          let same : at ≡ new.moment = omega (arith, last, until) in
          let here = laws.only_now image (subst (λ (t : ℕ). new.left_since t image) same left) in
          again (done_by at (run.moments ++ new.moment ∷ [])) image
          (all_kept (done_by at (run.moments ++ new.moment ∷ [])) (with_begun payload run) image
          (omega (arith, longer, count_by-le-length (λ m. nat_le m at) (run.moments ++ new.moment ∷ [])))
          (image_kept new run.header (run.first ++ (run.begun ++ payload ∷ [])) tells all image here))
    ]
      where
        again : (least : ℕ) (image : List ℕ) → KeepsAtLeast least (with_begun payload run) image → KeepsAtLeast least (with_done payload new.moment run) image
        again least image kept = record { count = kept.count; enough = kept.enough; begun = kept.begun; keeps = kept.keeps }

    pub done_on : Standing new (with_done payload new.moment run)
    done_on = record {
      tells = tells;
      stands = all;
      done = longer;
      leaves = record {
        later = omega (arith, so_far.leaves.later, one.later);
        past = omega (arith, done_last new.moment run.moments new.moment, at_last new.moment new.moment (omega arith), all_done self.moment new.moment run.moments one.later so_far.leaves.past, length-append run.moments (new.moment ∷ []));
        crash = crash_done;
        read = λ file is.
            let kept = all_kept (length (run.moments ++ new.moment ∷ [])) (with_begun payload run) file (omega (arith, longer)) (all.keeps file is) in
            record { count = kept.count; enough = kept.enough; begun = kept.begun; keeps = kept.keeps };
      };
    }

-- behind an opening, which adds no image
pub opened_on : (self new : DiskState) (run : Run) → Leaves self run → LeavesOnly self new self.may_leave → new.told ≡ self.told → IsDisk self → IsDisk new → Leaves new run
opened_on self new run so_far one told before laws =
    record {
      later = omega (arith, so_far.later, one.later);
      past = all_done self.moment new.moment run.moments one.later so_far.past;
      crash = λ at image from until left. elim (cases_lt self.moment at) [
        | inl behind ↦ at_self at image (one.each image (laws.narrows self.moment at image (omega (arith, behind)) left))
        | inr early ↦ ⊎_elim (λ was. so_far.crash at image from early was) (λ now. at_self at image now) (one.before at image early left)
      ];
      read = λ file is. so_far.read file (sym told ∙ is);
    }
  where
    -- what a crash now may leave has all that was acknowledged
    at_self : (at : ℕ) (image : List ℕ) → self.may_leave image → KeepsAtLeast (done_by at run.moments) run image
    at_self at image left =
        let kept = so_far.crash self.moment image so_far.later (omega arith) (before.counts_now self.moment image (omega arith) left) in
        record { count = kept.count; enough = omega (arith, kept.enough, so_far.past, count_by-le-length (λ m. nat_le m at) run.moments); begun = kept.begun; keeps = kept.keeps }
