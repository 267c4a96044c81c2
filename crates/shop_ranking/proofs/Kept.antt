-- The lists of the subjects, as what stands of one item changes.
use Rattle.std.proofs.Common.{◌≡◌, ◌≢◌, ℕ, suc, ◌<◌, Bool, true, false, cond, List, ◌∷◌, length, get_or, set, refl, sym, ap, ◌∙◌, inl, inr, arith, Some, Vec, vec_capacity}
use Rattle.std.specs.Cmp.{IsTotalOrder}
use Rattle.std.specs.List.{All, remove, slice_get}
use Rattle.std.specs.List.Sorted.{IsSorted}
use Rattle.std.specs.declared.cmp.Ordering.{Ordering}
use Rattle.std.proofs.lemmas.Bool.Decides.{eqb_tells}
use Rattle.std.proofs.lemmas.List.{length-set, take-set, drop-set-lt, get_or-set_same, get_or-set_other}
use Rattle.std.proofs.lemmas.Option.{slice_get_within, same_Some}
use Rattle.std.proofs.lemmas.Slice.Eq.{bytes_eq-Decides}
use Rattle.shop_model.specs.declared.subject.Subject.{Subject}
use Rattle.shop_model.specs.rows.Subjects.{subjects, subject_name}
use Rattle.shop_model.specs.lists.Rankings.{put_among, in_order}
use Rattle.shop_ranking.specs.Order.{IsStrict, put_shown}
use Rattle.shop_ranking.specs.Standing.{is_under, listed, AreRoomy, AreNew, AreKept}
use Rattle.shop_ranking.proofs.cited.Order.{is_in_order}
use Rattle.shop_ranking.proofs.SubjectNumbers.{same_number}
use Rattle.shop_ranking.proofs.Listed.{besides, listed_at, listed_other, length_besides, none_listed}
use Rattle.shop_ranking.proofs.cited.Putting.{length_in_order}

sorted_by : {A : Type 0} (order : A → A → Ordering) → IsTotalOrder order → (b : Bool) (x : A) (xs : List A)
    → IsSorted order (cond b (put_among order x (in_order order xs)) (in_order order xs))
unfolding in_order
sorted_by order total true x xs = (is_in_order order total (x ∷ xs)).sorted
sorted_by order total false x xs = (is_in_order order total xs).sorted

-- elements stay sorted, whether or not one more is shown
pub sorted_shown : {A : Type 0} (shown : A → Bool) (order : A → A → Ordering) → IsTotalOrder order → (x : A) (xs : List A)
    → IsSorted order (put_shown shown order x (in_order order xs))
sorted_shown shown order total x xs = sorted_by order total (shown x) x xs

pub under_itself : (own : Subject) → is_under own own ≡ true
under_itself own = (bytes_eq-Decides (subject_name own) (subject_name own)).1 refl

-- an item, and the list that it stands in
pub record Stands {A Memory : Type 0} (shown : A → Bool) (order : A → A → Ordering) (owns : List Subject) (elements : List A) (lists : List (Vec A Memory)) (k number : ℕ) (own : Subject) : Type 0 where
  pub kept : AreKept shown order owns elements lists
  pub within : k < length owns
  pub is : own ≡ get_or owns k own
  pub here : slice_get subjects number ≡ Some own

pub list_within : {A Memory : Type 0} (shown : A → Bool) (order : A → A → Ordering) (owns : List Subject) (elements : List A) (lists : List (Vec A Memory)) (k number : ℕ) (own : Subject)
    → Stands shown order owns elements lists k number own → number < length lists
list_within shown order owns elements lists k number own s =
    omega (arith, slice_get_within subjects number own s.here, s.kept.rankings.size)

-- there it stands among the others
pub list_at : {A Memory : Type 0} (shown : A → Bool) (order : A → A → Ordering) → IsStrict order → (owns : List Subject) (elements : List A) (lists : List (Vec A Memory)) (k number : ℕ) (own : Subject) (x : A) (list : Vec A Memory)
    → Stands shown order owns elements lists k number own
    → (get_or lists number list).items ≡ put_shown shown order (get_or elements k x) (in_order order (besides shown own owns elements k))
list_at shown order strict owns elements lists k number own x list s =
    let under : is_under own (get_or owns k own) ≡ true = rw (← s.is) (under_itself own) in
    s.kept.rankings.each number own list s.here
    ∙ listed_at shown order strict own own owns x elements k s.within (omega (arith, s.within, s.kept.same)) under

-- besides it there is room
pub room_besides : {A Memory : Type 0} (shown : A → Bool) (order : A → A → Ordering) (owns : List Subject) (elements : List A) (lists : List (Vec A Memory)) (k number : ℕ) (own : Subject) (list : Vec A Memory)
    → Stands shown order owns elements lists k number own
    → length (in_order order (besides shown own owns elements k)) < vec_capacity (get_or lists number list)
room_besides shown order owns elements lists k number own list s =
    let under : is_under own (get_or owns k own) ≡ true = rw (← s.is) (under_itself own) in
    let few = length_besides shown own own owns elements k s.within (omega (arith, s.within, s.kept.same)) under in
    omega (arith, few, length_in_order order (besides shown own owns elements k), s.kept.room.each number own list s.here)

remove_set : {A : Type 0} (xs : List A) (k : ℕ) (x : A) → remove (set xs k x) k ≡ remove xs k
remove_set xs k x = rw (take-set, drop-set-lt (suc k) xs k x (omega arith)) refl

changed_here : {A Memory : Type 0} (shown : A → Bool) (order : A → A → Ordering) → IsStrict order → (owns : List Subject) (elements : List A) (lists : List (Vec A Memory)) (k number : ℕ) (own : Subject) (x : A)
    → Stands shown order owns elements lists k number own
    → in_order order (listed shown own owns (set elements k x)) ≡ put_shown shown order x (in_order order (besides shown own owns elements k))
changed_here shown order strict owns elements lists k number own x s =
    let under : is_under own (get_or owns k own) ≡ true = rw (← s.is) (under_itself own) in
    let within : k < length elements = omega (arith, s.within, s.kept.same) in
    listed_at shown order strict own own owns x (set elements k x) k s.within (rw length-set within) under
    ∙ ap (λ y. put_shown shown order y (in_order order (besides shown own owns (set elements k x) k))) (get_or-set_same elements k x x within)
    ∙ ap (λ ys. put_shown shown order x (in_order order (listed shown own (remove owns k) ys))) (remove_set elements k x)

other_by : (b : Bool) (m n : ℕ) (a o : Subject) → slice_get subjects m ≡ Some a → slice_get subjects n ≡ Some o
    → m ≢ n → is_under a o ≡ b → is_under a o ≡ false
other_by true m n a o here there apart same = absurd (apart (same_number m n a o here there same))
other_by false m n a o here there apart same = same

-- of another number, the subject is another
pub other_subject : (m n : ℕ) (a o : Subject) → slice_get subjects m ≡ Some a → slice_get subjects n ≡ Some o → m ≢ n → is_under a o ≡ false
other_subject m n a o here there apart = other_by (is_under a o) m n a o here there apart refl

-- there is as much room in the lists when one is another that has as much
pub roomy_changed : {A Memory : Type 0} (owns : List Subject) (lists : List (Vec A Memory)) (number : ℕ) (own : Subject) (was now : Vec A Memory)
    → slice_get subjects number ≡ Some own → number < length lists → was ≡ get_or lists number was → vec_capacity now ≡ vec_capacity was
    → AreRoomy owns lists → AreRoomy owns (set lists number now)
roomy_changed owns lists number own was now there within before capacity room = record {
  each = λ m subject list here.
      elim (eqb_tells m number) [
        | inl same ↦
            let own_is : subject ≡ own = same_Some subject own (sym here ∙ ap (slice_get subjects) same.1 ∙ there) in
            rw (same.1, own_is, get_or-set_same lists number now list within)
            (omega (arith, capacity, ap vec_capacity before, room.each number own was there))
        | inr other ↦ rw (get_or-set_other lists number m now list other.1) (room.each m subject list here)
      ];
}

-- the lists as this item changes
pub kept_changed : {A Memory : Type 0} (shown : A → Bool) (order : A → A → Ordering) → IsStrict order → (owns : List Subject) (elements : List A) (lists : List (Vec A Memory)) (k number : ℕ) (own : Subject) (x : A) (was now : Vec A Memory)
    → Stands shown order owns elements lists k number own → was ≡ get_or lists number was
    → now.items ≡ put_shown shown order x (in_order order (besides shown own owns elements k))
    → vec_capacity now ≡ vec_capacity was
    → AreKept shown order owns (set elements k x) (set lists number now)
kept_changed {A} {Memory} shown order strict owns elements lists k number own x was now s before is capacity =
    let within = list_within shown order owns elements lists k number own s in
    record {
      same = rw length-set s.kept.same;
      rankings = record {
        size = rw length-set s.kept.rankings.size;
        each = λ m subject list here.
            elim (eqb_tells m number) [
              | inl same ↦
                  let own_is : subject ≡ own = same_Some subject own (sym here ∙ ap (slice_get subjects) same.1 ∙ s.here) in
                  rw (same.1, own_is, get_or-set_same lists number now list within)
                  (is ∙ sym (changed_here shown order strict owns elements lists k number own x s))
              | inr other ↦
                  let apart : is_under subject (get_or owns k own) ≡ false = rw (← s.is) (other_subject m number subject own here s.here other.1) in
                  rw (get_or-set_other lists number m now list other.1)
                  (s.kept.rankings.each m subject list here ∙ ap (in_order order) (sym (listed_other shown subject own owns x elements k s.within apart)))
            ];
      };
      room = roomy_changed owns lists number own was now s.here within before capacity s.kept.room;
    }

-- the lists before any element is shown
pub kept_new : {A Memory : Type 0} (shown : A → Bool) (order : A → A → Ordering) (owns : List Subject) (elements : List A) (lists : List (Vec A Memory))
    → length elements ≡ length owns → All (λ x. shown x ≡ false) elements → AreNew owns lists
    → AreKept shown order owns elements lists
unfolding in_order
kept_new shown order owns elements lists same hidden new = record {
  same = same;
  rankings = record {
    size = new.size;
    each = λ number subject list here.
        rw (none_listed shown subject owns elements hidden)
        (new.none number list (omega (arith, slice_get_within subjects number subject here, new.size)));
  };
  room = new.room;
}
