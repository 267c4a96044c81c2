-- What opens a shop, and what a look tells that closes it.
use Rattle.std.proofs.Common.{◌≡◌, ℕ, zero, ◌+◌, ◌≤◌, List, [], ◌∷◌, ◌++◌, length, sym, subst, arith, ◌∙◌, ap, refl, inl, inr, ⊎_elim, suc, drop, append_assoc, ◌⊎◌, map}
use Rattle.std.proofs.lemmas.List.{append-nil}
use Rattle.std.proofs.lemmas.List.Elements.{All-head, All-weaker, All-push, All-nil, All-cons, All-tail, All-contains, All-contains_itself, Contains-append_left, Contains-append_right, Contains-append_cases}
use Rattle.std.specs.List.{All, Contains}
use Rattle.shop_text.proofs.cited.Lists.{contains_first, contains_later, contains_map}
use Rattle.atomic_table.specs.Seated.{TableId}
use Rattle.shop_history.specs.declared.acts.Entry.{Entry}
use Rattle.shop_attempt.specs.Marks.{AreMarks}
use Rattle.shop_attempt.specs.Seats.{IsSeat}
use Rattle.shop_book.specs.Books.{BookValue, IsBook}
use Rattle.shop_turn.specs.declared.rule.Part.{Part}
use Rattle.shop_turn.specs.declared.rule.Start.{Start}
use Rattle.shop_turn.specs.declared.rule.View.{View}
use Rattle.shop_turn.specs.Views.{opening_view, named_as, taking, copy, together}
use Rattle.shop_turn.specs.Marks.{MarkFits}
use Rattle.shop_turn.specs.Plays.{AtTable, PartTold, StampTold}
use Rattle.shop_turn.specs.Desks.{DeskValue, desk_value, seat_of, marks_of}
use Rattle.shop_turn.specs.Joined.{part_of, all_marks, joined, IsSeated}
use Rattle.shop_turn.specs.Seats.{Place, SeatIs, Found}
use Rattle.shop_turn.specs.Shops.{IsLaid, new_desk, new_desks, Opens, Outlasts, IsMomentOf, Closes}
use Rattle.shop_turn.proofs.Desks.{own_same, marks_told, seat_valid}

pub opened_more : (table : TableId) (b : BookValue) (callers i : ℕ) (ds more : List DeskValue) (d : DeskValue) → ds ≡ new_desks table b callers i → more ≡ ds ++ d ∷ [] → d ≡ new_desk table b callers (i + 1) → more ≡ new_desks table b callers (i + 1)
opened_more table b callers i ds more d are pushed is =
    let s : suc i ≡ i + 1 = omega arith in
    pushed ∙ (λ j. are j ++ is j ∷ []) ∙ subst (λ k. new_desks table b callers i ++ new_desk table b callers k ∷ [] ≡ new_desks table b callers k) s refl

-- a step of the first seat leaves the table laid
pub laid_again : (b : BookValue) (callers : ℕ) (id : TableId) (key : Start) (root root' : Place) → IsLaid b callers id key root → SeatIs root root.me root' → IsLaid b callers id key root'
laid_again b callers id key root root' laid same = record {
  at = record { table = same.0 ∙ laid.at.table; words = laid.at.words; slots = laid.at.slots; few = laid.at.few };
  me = same.2 ∙ laid.me;
  key_book = laid.key_book;
  key_callers = laid.key_callers;
  book_is = laid.book_is;
}

-- and a copy of it with a number is a new desk's
pub opened_desk : (b : BookValue) (callers n n' : ℕ) (id : TableId) (key : Start) (root seat : Place) → IsLaid b callers id key root → n' ≡ n → seat.table_id ≡ root.table_id → seat.me ≡ (named_as n' (copy root.me.0), [])
    → desk_value seat.table_id n seat.me.0 ≡ new_desk id b callers n
opened_desk b callers n n' id key root seat laid number same is =
    let me : seat.me ≡ (named_as n (copy (opening_view b callers)), []) = is ∙ (λ i. (named_as (number i) (copy (laid.me i).0), [])) in
    λ i. desk_value ((same ∙ laid.at.table) i) n (me i).0

-- new desks are seats, and have no marks
pub opens : (table : TableId) (b : BookValue) (callers n : ℕ) (ds : List DeskValue) → IsBook b → n ≡ callers → ds ≡ new_desks table b callers n → Opens b callers ds
opens table b callers n ds k all is = record {
  book_is = k;
  table = table;
  are = is ∙ ap (new_desks table b callers) all;
  valid = subst (All (λ (d : DeskValue). IsSeat (seat_of d))) (sym is) (valid n);
  marked = subst (All (λ (d : DeskValue). AreMarks (marks_of d) d.seen)) (sym is) (marked n);
}
  where
    valid : (n : ℕ) → All (λ (d : DeskValue). IsSeat (seat_of d)) (new_desks table b callers n)
    valid zero = All-nil (λ (d : DeskValue). IsSeat (seat_of d))
    valid (suc n) = All-push (λ (d : DeskValue). IsSeat (seat_of d)) (new_desks table b callers n) (new_desk table b callers (suc n)) (valid n) (seat_valid (seat_of (new_desk table b callers (suc n))) b k refl refl refl)

    marked : (n : ℕ) → All (λ (d : DeskValue). AreMarks (marks_of d) d.seen) (new_desks table b callers n)
    marked zero = All-nil (λ (d : DeskValue). AreMarks (marks_of d) d.seen)
    marked (suc n) = All-push (λ (d : DeskValue). AreMarks (marks_of d) d.seen) (new_desks table b callers n) (new_desk table b callers (suc n)) (marked n) (record { are = λ front moment h. absurd (let l = h.1 in omega arith) })

map-push : {A B : Type 0} (f : A → B) (xs : List A) (x : A) → map f (xs ++ x ∷ []) ≡ map f xs ++ f x ∷ []
map-push f [] x = refl
map-push f (y ∷ ys) x = ap (λ l. f y ∷ l) (map-push f ys x)

all_marks-push : (ds : List DeskValue) (d : DeskValue) → all_marks (ds ++ d ∷ []) ≡ all_marks ds ++ d.marks
all_marks-push [] d = append-nil d.marks
all_marks-push (e ∷ es) d = ap (λ l. e.marks ++ l) (all_marks-push es d) ∙ sym (append_assoc e.marks (all_marks es) d.marks)

-- one desk more was joined
pub joined_more : (table : TableId) (n : ℕ) (v w : View) (ds : List DeskValue) (d : DeskValue) → desk_value table n w ≡ d → w.own.number ≡ n → w.others ≡ [] → together (joined v ds) w ≡ joined v (ds ++ d ∷ [])
joined_more table n v w ds d is num single =
    let own : w.own ≡ part_of d = (λ i. record { number = num i; seen = w.own.seen }) ∙ ap part_of is in
    let others : map part_of ds ++ w.own ∷ w.others ≡ map part_of (ds ++ d ∷ []) = (λ i. map part_of ds ++ own i ∷ single i) ∙ sym (map-push part_of ds d) in
    let marks : (v.marks ++ all_marks ds) ++ w.marks ≡ v.marks ++ all_marks (ds ++ d ∷ []) =
    append_assoc v.marks (all_marks ds) w.marks ∙ ap (λ l. v.marks ++ (all_marks ds ++ l)) (ap (λ (x : DeskValue). x.marks) is) ∙ ap (λ l. v.marks ++ l) (sym (all_marks-push ds d)) in
    λ i. record v { others = others i; marks = marks i }

all_left : {A : Type 0} (P : A → Type 0) (xs ys : List A) → All P (xs ++ ys) → All P xs
all_left P xs ys a = All-weaker (Contains xs) P (λ x c. All-contains P (xs ++ ys) x a (Contains-append_left xs ys x c)) xs (All-contains_itself xs)

all_right : {A : Type 0} (P : A → Type 0) (xs ys : List A) → All P (xs ++ ys) → All P ys
all_right P xs ys a = All-weaker (Contains ys) P (λ x c. All-contains P (xs ++ ys) x a (Contains-append_right xs ys x c)) ys (All-contains_itself ys)

pub all_unmap : {A B : Type 0} (P : B → Type 0) (f : A → B) (xs : List A) → All P (map f xs) → All (λ x. P (f x)) xs
all_unmap P f [] a = All-nil (λ x. P (f x))
all_unmap P f (x ∷ xs) a = All-cons (λ y. P (f y)) x xs (All-head P (f x) (map f xs) a) (all_unmap P f xs (All-tail P (f x) (map f xs) a))

marks_each : (P : ℕ × ℕ → Type 0) (ds : List DeskValue) → All P (all_marks ds) → All (λ d. All P d.marks) ds
marks_each P [] a = All-nil (λ d. All P d.marks)
marks_each P (d ∷ ds) a = All-cons (λ e. All P e.marks) d ds (all_left P d.marks (all_marks ds) a) (marks_each P ds (all_right P d.marks (all_marks ds) a))

moment_of : (ds : List DeskValue) (front m : ℕ) → Contains (all_marks ds) (front, m) → IsMomentOf ds m
moment_of [] front m c = absurd (let l = c.1 in omega arith)
moment_of (d ∷ ds) front m c = ⊎_elim (λ (h : Contains d.marks (front, m)). (d, contains_first d ds, contains_map (λ (x : ℕ × ℕ). x.1) d.marks (front, m) h))
    (λ (t : Contains (all_marks ds) (front, m)). let r = moment_of ds front m t in (r.0, contains_later d ds r.0 r.1, r.2))
    (Contains-append_cases d.marks (all_marks ds) (front, m) c)

outlasts : (log : List Entry) (latest : ℕ) (d : DeskValue) → IsSeated d → PartTold log (part_of d) → All (MarkFits log latest) d.marks → Outlasts log d
outlasts log latest d seat p marks =
    record {
      grows = record { rest = p.after; is = p.is };
      mine = own_same d.number 0 d.seen p.after log (omega arith) p.is (p.alone seat.one);
      own = own_same d.number d.origin.size d.seen p.after log seat.long p.is (p.alone seat.one);
      marks = marks_told log latest d.marks marks;
    }

closes_at : (table : TableId) (n : ℕ) (v : View) (others : List DeskValue) (b : BookValue) → v.own.number ≡ n → IsSeated (desk_value table n v) → All IsSeated others → Found b (joined v others) → Closes v.origin (desk_value table n v ∷ others) b
closes_at table n v others b num seat seats f =
    let first : DeskValue = desk_value table n v in
    let ds : List DeskValue = first ∷ others in
    let own : v.own ≡ part_of first = λ i. record { number = num i; seen = v.own.seen } in
    let parts : All (PartTold b.log) (map part_of ds) = subst (λ (p : Part). All (PartTold b.log) (p ∷ map part_of others)) own f.told.parts in
    let each_part : All (λ d. PartTold b.log (part_of d)) ds = all_unmap (PartTold b.log) part_of ds parts in
    let each_marks : All (λ d. All (MarkFits b.log b.latest) d.marks) ds = marks_each (MarkFits b.log b.latest) ds f.told.marks in
    let each_seat : All IsSeated ds = All-cons IsSeated first others seat seats in
    record {
      book_is = f.book_is;
      opening = f.opening;
      each = λ k d h. outlasts b.log b.latest _ (each_seat k d h) (each_part k d h) (each_marks k d h);
      long = f.told.long;
      callers = f.told.entries;
      stamps = λ all. All-weaker (λ e. StampTold (taking b (joined v others)) e.stamp) (λ e. (e.stamp ≡ v.origin.latest) ⊎ IsMomentOf ds e.stamp)
          (λ e t. ⊎_elim (λ (x : e.stamp ≡ v.origin.latest). inl x) (λ (x : (front : ℕ) × Contains (all_marks ds) (front, e.stamp)). inr (moment_of ds x.0 e.stamp x.1)) t) (drop v.origin.size b.log)
          (f.told.stamps (λ c one most. let a = all c one most in (part_of a.0, subst (λ (p : Part). Contains (p ∷ map part_of others) (part_of a.0)) (sym own) (contains_map part_of ds a.0 a.1), a.2)));
    }

pub closes : (table : TableId) (n : ℕ) (v : View) (first : DeskValue) (others : List DeskValue) (b : BookValue) → desk_value table n v ≡ first → v.own.number ≡ n → 1 ≤ n → v.origin.size ≤ length v.own.seen → All IsSeated others → Found b (joined v others) → Closes first.origin (first ∷ others) b
closes table n v first others b is num one long seats f = subst (λ (x : DeskValue). Closes x.origin (x ∷ others) b) is (closes_at table n v others b num (record { one = one; long = long }) seats f)

pub joined_seat : (table : TableId) (n : ℕ) (v w : View) (ds : List DeskValue) (d : DeskValue) (m m' : AtTable) → m ≡ (joined v ds, []) → m' ≡ (together m.0 w, m.1) → desk_value table n w ≡ d → w.own.number ≡ n → w.others ≡ []
    → m' ≡ (joined v (ds ++ d ∷ []), [])
joined_seat table n v w ds d m m' e e' is num single = e' ∙ ap (λ (x : AtTable). (together x.0 w, x.1)) e ∙ (λ i. (joined_more table n v w ds d is num single i, []))

pub seated : (table : TableId) (n : ℕ) (v : View) (d : DeskValue) → desk_value table n v ≡ d → 1 ≤ n → v.origin.size ≤ length v.own.seen → IsSeated d
seated table n v d is one long = subst IsSeated is (record { one = one; long = long })

pub closes_along : {first : DeskValue} {ds es : List DeskValue} {b : BookValue} → ds ≡ es → Closes first.origin (first ∷ ds) b → Closes first.origin (first ∷ es) b
closes_along {first} {ds} {es} {b} e c = subst (λ (x : List DeskValue). Closes first.origin (first ∷ x) b) e c

pub found_along : {b : BookValue} {m : AtTable} {v : View} {xs : List _} → m ≡ (v, xs) → Found b m.0 → Found b v
found_along {b} {m} {v} {xs} e f = subst (Found b) (ap (λ (x : AtTable). x.0) e) f
