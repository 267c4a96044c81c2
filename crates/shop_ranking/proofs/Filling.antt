-- The lists of the subjects as the items come in, from the last to the first.
use Rattle.std.proofs.Common.{◌≡◌, ℕ, zero, suc, ◌-◌, ◌<◌, ◌≤◌, Bool, true, false, cond, List, [], ◌∷◌, length, filter, drop, get_or, set, refl, sym, ap, ◌∙◌, inl, inr, arith, Some, Vec, vec_capacity}
use Rattle.std.specs.List.{slice_get}
use Rattle.std.specs.declared.cmp.Ordering.{Ordering}
use Rattle.std.proofs.Math.Seq.{drop-length}
use Rattle.std.proofs.lemmas.Bool.Decides.{eqb_tells}
use Rattle.std.proofs.lemmas.List.{length-set, get_or-set_same, get_or-set_other}
use Rattle.std.proofs.lemmas.Option.{slice_get_within, same_Some}
use Rattle.shop_text.proofs.cited.Lists.{drop_before}
use Rattle.shop_model.specs.declared.subject.Subject.{Subject}
use Rattle.shop_model.specs.rows.Subjects.{subjects}
use Rattle.shop_model.specs.lists.Rankings.{put_among, in_order}
use Rattle.shop_ranking.specs.Standing.{always, is_under, listed, AreRankings, AreRoomy, AreNew, AreKept}
use Rattle.shop_ranking.proofs.Kept.{other_subject, under_itself, roomy_changed}
use Rattle.shop_ranking.proofs.Listed.{length_listed}
use Rattle.shop_ranking.proofs.cited.Putting.{length_in_order}

-- the items from a place on are listed, and there is room for all
pub record AreFilled {A Memory : Type 0} (order : A → A → Ordering) (place : ℕ) (owns : List Subject) (elements : List A) (lists : List (Vec A Memory)) : Type 0 where
  pub rankings : AreRankings always order (drop place owns) (drop place elements) lists
  pub room : AreRoomy owns lists

-- none of them
pub none_filled : {A Memory : Type 0} (order : A → A → Ordering) (owns : List Subject) (elements : List A) (lists : List (Vec A Memory))
    → length elements ≡ length owns → AreNew owns lists → AreFilled order (length elements) owns elements lists
unfolding in_order listed
none_filled order owns elements lists same new = record {
  rankings = record {
    size = new.size;
    each = λ number subject list here.
        rw (same, drop-length owns) (new.none number list (omega (arith, slice_get_within subjects number subject here, new.size)));
  };
  room = new.room;
}

-- all of them
pub all_filled : {A Memory : Type 0} (order : A → A → Ordering) (place : ℕ) (owns : List Subject) (elements : List A) (lists : List (Vec A Memory))
    → place ≤ 0 → length elements ≡ length owns → AreFilled order place owns elements lists → AreKept always order owns elements lists
all_filled order zero owns elements lists none same filled = record { same = same; rankings = filled.rankings; room = filled.room }
all_filled order (suc place) owns elements lists none same filled = absurd (omega arith)

listed_more : {A : Type 0} (subject own : Subject) (owns : List Subject) (x : A) (xs : List A) → is_under subject own ≡ true
    → listed always subject (own ∷ owns) (x ∷ xs) ≡ x ∷ listed always subject owns xs
unfolding listed
listed_more subject own owns x xs under = rw under refl

listed_same : {A : Type 0} (subject own : Subject) (owns : List Subject) (x : A) (xs : List A) → is_under subject own ≡ false
    → listed always subject (own ∷ owns) (x ∷ xs) ≡ listed always subject owns xs
unfolding listed
listed_same subject own owns x xs under = rw under refl

keeps_by : {A : Type 0} (b : Bool) (x : A) (xs : List A) (n : ℕ) → n ≤ length xs → n ≤ length (cond b (x ∷ xs) xs)
keeps_by true x xs n few = omega arith
keeps_by false x xs n few = few

filter_drop : {A : Type 0} (p : A → Bool) (k : ℕ) (xs : List A) → length (filter p (drop k xs)) ≤ length (filter p xs)
filter_drop p zero xs = omega arith
filter_drop p (suc k) [] = omega arith
filter_drop p (suc k) (x ∷ xs) = keeps_by (p x) x (filter p xs) _ (filter_drop p k xs)

-- an item that comes in next, and its list
pub record IsNext {A Memory : Type 0} (order : A → A → Ordering) (place : ℕ) (owns : List Subject) (elements : List A) (lists : List (Vec A Memory)) (number : ℕ) (own : Subject) (x : A) (list : Vec A Memory) : Type 0 where
  pub filled : AreFilled order place owns elements lists
  pub some : 0 < place
  pub within : place ≤ length owns
  pub same : length elements ≡ length owns
  pub own_is : own ≡ get_or owns (place - 1) own
  pub is : x ≡ get_or elements (place - 1) x
  pub here : slice_get subjects number ≡ Some own
  pub list_is : list ≡ get_or lists number list

-- what its list has
pub next_list : {A Memory : Type 0} (order : A → A → Ordering) (place : ℕ) (owns : List Subject) (elements : List A) (lists : List (Vec A Memory)) (number : ℕ) (own : Subject) (x : A) (list : Vec A Memory)
    → IsNext order place owns elements lists number own x list
    → list.items ≡ in_order order (listed always own (drop place owns) (drop place elements))
next_list {A} {Memory} order place owns elements lists number own x list next =
    ap (λ (l : Vec A Memory). l.items) next.list_is ∙ next.filled.rankings.each number own list next.here

next_more : {A Memory : Type 0} (order : A → A → Ordering) (place : ℕ) (owns : List Subject) (elements : List A) (lists : List (Vec A Memory)) (number : ℕ) (own : Subject) (x : A) (list : Vec A Memory)
    → IsNext order place owns elements lists number own x list → (subject : Subject)
    → listed always subject (drop (place - 1) owns) (drop (place - 1) elements) ≡ listed always subject (own ∷ drop place owns) (x ∷ drop place elements)
next_more order place owns elements lists number own x list next subject =
    let subjects_more : drop (place - 1) owns ≡ own ∷ drop place owns =
    drop_before owns place own next.some next.within ∙ ap (λ (o : Subject). o ∷ drop place owns) (sym next.own_is) in
    let elements_more = drop_before elements place x next.some (omega (arith, next.within, next.same)) ∙ ap (λ y. y ∷ drop place elements) (sym next.is) in
    rw (subjects_more, elements_more) refl

-- and the room that is left there
pub next_room : {A Memory : Type 0} (order : A → A → Ordering) (place : ℕ) (owns : List Subject) (elements : List A) (lists : List (Vec A Memory)) (number : ℕ) (own : Subject) (x : A) (list : Vec A Memory)
    → IsNext order place owns elements lists number own x list → length list.items < vec_capacity list
next_room order place owns elements lists number own x list next =
    let here = next_list order place owns elements lists number own x list next in
    let more = next_more order place owns elements lists number own x list next own
    ∙ listed_more own own (drop place owns) x (drop place elements) (under_itself own) in
    let few = length_listed always own (drop (place - 1) owns) (drop (place - 1) elements) in
    omega (
      arith,
      ap length here,
      length_in_order order (listed always own (drop place owns) (drop place elements)),
      ap length more,
      few,
      filter_drop (is_under own) (place - 1) owns,
      next.filled.room.each number own list next.here,
      ap vec_capacity next.list_is,
    )

-- the lists with it
pub filled_more : {A Memory : Type 0} (order : A → A → Ordering) (place : ℕ) (owns : List Subject) (elements : List A) (lists : List (Vec A Memory)) (number : ℕ) (own : Subject) (x : A) (list now : Vec A Memory)
    → IsNext order place owns elements lists number own x list
    → now.items ≡ put_among order x list.items → vec_capacity now ≡ vec_capacity list
    → AreFilled order (place - 1) owns elements (set lists number now)
unfolding in_order
filled_more order place owns elements lists number own x list now next is capacity =
    let size = next.filled.rankings.size in
    let within : number < length lists = omega (arith, slice_get_within subjects number own next.here, size) in
    record {
      rankings = record {
        size = rw length-set size;
        each = λ m subject l here.
            elim (eqb_tells m number) [
              | inl same ↦
                  let own_is : subject ≡ own = same_Some subject own (sym here ∙ ap (slice_get subjects) same.1 ∙ next.here) in
                  let more = next_more order place owns elements lists number own x list next own
                  ∙ listed_more own own (drop place owns) x (drop place elements) (under_itself own) in
                  rw (same.1, own_is, get_or-set_same lists number now l within, more)
                  (is ∙ ap (put_among order x) (next_list order place owns elements lists number own x list next))
              | inr other ↦
                  let more = next_more order place owns elements lists number own x list next subject
                  ∙ listed_same subject own (drop place owns) x (drop place elements) (other_subject m number subject own here next.here other.1) in
                  rw (get_or-set_other lists number m now l other.1, more) (next.filled.rankings.each m subject l here)
            ];
      };
      room = roomy_changed owns lists number own list now next.here within next.list_is capacity next.filled.room;
    }
