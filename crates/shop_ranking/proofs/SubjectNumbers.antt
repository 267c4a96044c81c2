-- The numbers of the subjects.
use Rattle.std.proofs.Common.{◌≡◌, ℕ, ◌<◌, true, map, get_or, length, option_map, refl, sym, ap, ◌∙◌, arith, Some}
use Rattle.std.specs.List.{slice_get, range_with_len, position_or_len}
use Rattle.std.proofs.lemmas.List.FromFn.{get_or-range_with_len, length-range_with_len}
use Rattle.std.proofs.lemmas.Option.{slice_get-map, slice_get_within, slice_get-get_or, same_Some}
use Rattle.std.proofs.lemmas.Slice.Eq.{bytes_eq-Decides}
use Rattle.shop_model.specs.declared.subject.Subject.{Subject}
use Rattle.shop_model.specs.rows.Subjects.{subjects, subject_name}
use Rattle.shop_ranking.specs.Standing.{is_under}

-- the place of the first subject with the name of this one
place_of : Subject → ℕ
place_of subject = position_or_len (is_under subject) subjects

places : map place_of subjects ≡ range_with_len 0 24
unfolding place_of subjects subject_name
places = refl

place_is : (number : ℕ) (subject : Subject) → slice_get subjects number ≡ Some subject → place_of subject ≡ number
place_is number subject is =
    let mapped : slice_get (map place_of subjects) number ≡ Some (place_of subject) =
    slice_get-map place_of subjects number ∙ ap (option_map place_of) is in
    let there : slice_get (range_with_len 0 24) number ≡ Some (place_of subject) = rw places at mapped in
    let within : number < length (range_with_len 0 24) = slice_get_within (range_with_len 0 24) number (place_of subject) there in
    let low : number < 24 = omega (arith, length-range_with_len 0 24) in
    let same = same_Some (place_of subject) (get_or (range_with_len 0 24) number 0)
    (sym there ∙ slice_get-get_or (range_with_len 0 24) number 0 within) in
    omega (arith, same, get_or-range_with_len 0 24 number 0 low)

-- subjects with one name have one number
pub same_number : (m n : ℕ) (a b : Subject) → slice_get subjects m ≡ Some a → slice_get subjects n ≡ Some b
    → is_under a b ≡ true → m ≡ n
unfolding place_of
same_number m n a b here there same =
    let names : subject_name b ≡ subject_name a = (bytes_eq-Decides (subject_name b) (subject_name a)).0 same in
    let places : place_of b ≡ place_of a = rw names refl in
    sym (place_is m a here) ∙ sym places ∙ place_is n b there
