-- The places of subjects in the list of subjects.
use Rattle.std.proofs.Common.{◌≡◌, ◌≢◌, ℕ, ◌+◌, ◌-◌, ◌<◌, List, length, map, get_or, Some, slice_get, refl, sym, ◌∙◌, ap, arith}
use Rattle.std.specs.List.{range_with_len}
use Rattle.std.proofs.lemmas.List.{get_or-map}
use Rattle.std.proofs.lemmas.List.FromFn.{get_or-range_with_len}
use Rattle.std.proofs.lemmas.Option.{slice_get_within, get_or_from_slice_get}
use Rattle.shop_model.specs.declared.subject.Subject.{Subject}
use Rattle.shop_model.specs.declared.subject.Subject.TheVariants as subject
use Rattle.shop_model.specs.rows.Sound.{Has}
use Rattle.shop_model.specs.rows.Subjects.{subjects, subject_name}
use Rattle.shop_book.specs.Places.{subject_id}

pub there : (s : Subject) → slice_get subjects (subject_id s - 1) ≡ Some s
unfolding subjects subject_name subject_id
there subject.Arts = refl
there subject.Biographies = refl
there subject.Business = refl
there subject.Children = refl
there subject.Computers = refl
there subject.Cooking = refl
there subject.Health = refl
there subject.History = refl
there subject.Home = refl
there subject.Humor = refl
there subject.Literature = refl
there subject.Mystery = refl
there subject.NonFiction = refl
there subject.Parenting = refl
there subject.Politics = refl
there subject.Reference = refl
there subject.Religion = refl
there subject.Romance = refl
there subject.SelfHelp = refl
there subject.ScienceNature = refl
there subject.ScienceFiction = refl
there subject.Sports = refl
there subject.Youth = refl
there subject.Travel = refl

size : length subjects ≡ 24
unfolding subjects
size = refl

above : (s : Subject) → 0 < subject_id s
unfolding subject_id
above s = omega arith

pub subject_has : (s : Subject) → Has 24 (subject_id s)
subject_has s =
    let within = slice_get_within subjects (subject_id s - 1) s (there s) in
    record { first = above s; last = omega (arith, within, size, above s) }

ids_run : map subject_id subjects ≡ range_with_len 1 24
unfolding subjects subject_name subject_id
ids_run = refl

-- the subject at a place
pub subject_at_place : (place : ℕ) (s : Subject) → slice_get subjects place ≡ Some s → subject_id s ≡ place + 1
subject_at_place place s is =
    let within : place < 24 = omega (arith, slice_get_within subjects place s is, size) in
    let here : get_or subjects place s ≡ s = get_or_from_slice_get subjects place s s is in
    sym (ap subject_id here)
    ∙ sym (get_or-map subject_id subjects place s 0 (omega (arith, within, size)))
    ∙ ap (λ (ids : List ℕ). get_or ids place 0) ids_run
    ∙ get_or-range_with_len 1 24 place 0 within
    ∙ omega arith

pub subjects_apart : (one other : Subject) → one ≢ other → subject_id one ≢ subject_id other
subjects_apart one other apart same =
    let both : Some one ≡ Some other = sym (there one) ∙ ap (λ n. slice_get subjects (n - 1)) same ∙ there other in
    apart cc
