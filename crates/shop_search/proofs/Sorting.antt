-- A sorted list whose ties kept their order is the list in order, also after a filter.
use Rattle.std.proofs.Common.{◌≡◌, ℕ, suc, ◌<◌, Bool, true, false, not, ◌&&◌, List, [], ◌∷◌, length, filter, get_or, cond, refl, ap, sym, ◌∙◌, arith, subst}
use Rattle.std.specs.Cmp.{IsTotalOrder}
use Rattle.std.specs.List.Sorted.{IsSorted, IsStable, ties}
use Rattle.std.specs.Ordering.{is_lt, is_gt, ordering_reverse}
use Rattle.std.specs.declared.cmp.Ordering.{Ordering}
use Rattle.std.specs.declared.cmp.Ordering.TheVariants.{Less, Equal, Greater}
use Rattle.std.proofs.lemmas.Cmp.{upto, tied_itself}
use Rattle.std.proofs.lemmas.List.Kept.{IsSortedBy-filter}
use Rattle.std.proofs.lemmas.List.Sorted.{ranks_by, sorted_far}
use Rattle.shop_model.specs.lists.Rankings.{in_order, put_among}
use Rattle.shop_ranking.proofs.cited.Order.{is_in_order, sorted_tail}

-- none of these comes before the first
abbrev Leads : {A : Type 0} → (A → A → Ordering) → A → List A → Type 0
Leads o y [] = Unit {0}
Leads o y (x ∷ xs) = (is_lt (o x y) ≡ false) × Leads o y xs

-- none comes before an earlier one
abbrev pub Rises : {A : Type 0} → (A → A → Ordering) → List A → Type 0
Rises o [] = Unit {0}
Rises o (x ∷ xs) = Leads o x xs × Rises o xs

abbrev Ties : {A : Type 0} → (A → A → Ordering) → A → A → Bool
Ties o = ties (λ x y. is_lt (o x y))

leads_each : {A : Type 0} (o : A → A → Ordering) (y : A) (xs : List A)
    → ((k : ℕ) (d : A) → k < length xs → is_lt (o (get_or xs k d) y) ≡ false) → Leads o y xs
leads_each o y [] each = tt
leads_each o y (x ∷ xs) each = (each 0 x (omega arith), leads_each o y xs (λ k d low. each (suc k) d (omega arith)))

pub rises_sorted : {A : Type 0} (o : A → A → Ordering) → IsTotalOrder o → (xs : List A) → IsSorted o xs → Rises o xs
rises_sorted o total [] sorted = tt
rises_sorted o total (x ∷ xs) sorted = (
  leads_each o x xs (λ k d low.
      sorted_far (λ a b. is_lt (o a b)) (ranks_by total (λ a. a)) (x ∷ xs) sorted 0 (suc k) d (omega arith) (omega arith)),
  rises_sorted o total xs (sorted_tail o x xs sorted),
)

leads_either : {A : Type 0} (o : A → A → Ordering) (b : Bool) (y : A) (left right : List A)
    → Leads o y left → Leads o y right → Leads o y (cond b left right)
leads_either o true y left right one other = one
leads_either o false y left right one other = other

leads_filter : {A : Type 0} (o : A → A → Ordering) (p : A → Bool) (y : A) (xs : List A) → Leads o y xs → Leads o y (filter p xs)
leads_filter o p y [] leads = tt
leads_filter o p y (x ∷ xs) leads =
    leads_either o (p x) y (x ∷ filter p xs) (filter p xs) (leads.0, leads_filter o p y xs leads.1) (leads_filter o p y xs leads.1)

not_greater : (o p : Ordering) → p ≡ ordering_reverse o → is_lt o ≡ false → is_gt p ≡ false
not_greater Less p turned before = cc
not_greater Equal p turned before = rw turned refl
not_greater Greater p turned before = rw turned refl

rises_order : {A : Type 0} (o : A → A → Ordering) → IsTotalOrder o → (xs : List A) → Rises o (in_order o xs)
rises_order o total xs = rises_sorted o total (in_order o xs) (is_in_order o total xs).sorted

-- what passes does not come after one another
abbrev Level : {A : Type 0} → (A → A → Ordering) → (A → Bool) → Type 0
Level {A} o p = (x y : A) → p x ≡ true → p y ≡ true → is_gt (o x y) ≡ false

past : {A : Type 0} (px py after : Bool) (x y : A) (rest : List A)
    → (px ≡ true → py ≡ true → after ≡ false) → after ≡ true
    → cond py (y ∷ cond px (x ∷ rest) rest) (cond px (x ∷ rest) rest) ≡ cond px (x ∷ cond py (y ∷ rest) rest) (cond py (y ∷ rest) rest)
past true true after x y rest level is = let never = level refl refl in cc
past true false after x y rest level is = refl
past false true after x y rest level is = refl
past false false after x y rest level is = refl

put_either : {A : Type 0} (b : Bool) (p : A → Bool) (left right other : List A)
    → (b ≡ true → filter p left ≡ other) → filter p right ≡ other → filter p (cond b left right) ≡ other
put_either true p left right other one two = one refl
put_either false p left right other one two = two

put_level : {A : Type 0} (o : A → A → Ordering) (p : A → Bool) → Level o p → (x : A) (ys : List A)
    → filter p (put_among o x ys) ≡ filter p (x ∷ ys)
unfolding put_among
put_level o p level x [] = refl
put_level o p level x (y ∷ ys) =
    put_either (is_gt (o x y)) p (y ∷ put_among o x ys) (x ∷ y ∷ ys) (filter p (x ∷ y ∷ ys))
    (λ after. ap (λ zs. cond (p y) (y ∷ zs) zs) (put_level o p level x ys)
    ∙ past (p x) (p y) (is_gt (o x y)) x y (filter p ys) (level x y) after)
    refl

order_level : {A : Type 0} (o : A → A → Ordering) (p : A → Bool) → Level o p → (xs : List A) → filter p (in_order o xs) ≡ filter p xs
unfolding in_order
order_level o p level [] = refl
order_level o p level (x ∷ xs) =
    put_level o p level x (in_order o xs) ∙ ap (λ zs. cond (p x) (x ∷ zs) zs) (order_level o p level xs)

neither : (a b : Bool) → (not a && not b) ≡ true → (a ≡ false) × (b ≡ false)
neither true b is = cc
neither false true is = cc
neither false false is = (refl, refl)

ties_level : {A : Type 0} (o : A → A → Ordering) → IsTotalOrder o → (a : A) → Level o (Ties o a)
ties_level o total a x y one two =
    let left = neither (is_lt (o a x)) (is_lt (o x a)) one in
    let right = neither (is_lt (o a y)) (is_lt (o y a)) two in
    upto total x a y (not_greater (o a x) (o x a) (total.antisymm x a) left.0) (not_greater (o y a) (o a y) (total.antisymm a y) right.1)

tied_self : {A : Type 0} (o : A → A → Ordering) → IsTotalOrder o → (a : A) → Ties o a a ≡ true
tied_self o total a = rw (tied_itself total a) refl

-- the head of a list in which nothing comes before y does not either
head_leads : {A : Type 0} (o : A → A → Ordering) (y z : A) (zs xs : List A) → xs ≡ z ∷ zs → Leads o y xs → is_lt (o z y) ≡ false
head_leads o y z zs [] is leads = cc
head_leads o y z zs (x ∷ xs) is leads = (subst (Leads o y) is leads).0

kept : {A : Type 0} (p : A → Bool) (x : A) (xs : List A) → p x ≡ true → filter p (x ∷ xs) ≡ x ∷ filter p xs
kept p x xs is = rw is refl

ties_of : {A : Type 0} (o : A → A → Ordering) (y z : A) → is_lt (o y z) ≡ false → is_lt (o z y) ≡ false → Ties o y z ≡ true
ties_of o y z one two = rw (one, two) refl

tails : {A : Type 0} (b : Bool) (y : A) (ys zs : List A) → cond b (y ∷ ys) ys ≡ cond b (y ∷ zs) zs → ys ≡ zs
tails true y ys zs is = cc
tails false y ys zs is = is

irreflexive : {A : Type 0} (o : A → A → Ordering) → IsTotalOrder o → (a : A) → is_lt (o a a) ≡ false
irreflexive o total a = rw (tied_itself total a) refl

-- lists that rise are the same where the elements that tie are
pub same_lists : {A : Type 0} (o : A → A → Ordering) → IsTotalOrder o → (ys zs : List A) → Rises o ys → Rises o zs
    → ((a : A) → filter (Ties o a) ys ≡ filter (Ties o a) zs) → ys ≡ zs
same_lists o total [] [] up high same = refl
same_lists o total [] (z ∷ zs) up high same =
    let is = same z ∙ kept (Ties o z) z zs (tied_self o total z) in cc
same_lists o total (y ∷ ys) [] up high same =
    let is = sym (same y) ∙ kept (Ties o y) y ys (tied_self o total y) in cc
same_lists o total (y ∷ ys) (z ∷ zs) up high same =
    let below : is_lt (o z y) ≡ false =
    head_leads o y z (filter (Ties o z) zs) (filter (Ties o z) (y ∷ ys))
    (same z ∙ kept (Ties o z) z zs (tied_self o total z))
    (leads_filter o (Ties o z) y (y ∷ ys) (irreflexive o total y, up.0)) in
    let above : is_lt (o y z) ≡ false =
    head_leads o z y (filter (Ties o y) ys) (filter (Ties o y) (z ∷ zs))
    (sym (same y) ∙ kept (Ties o y) y ys (tied_self o total y))
    (leads_filter o (Ties o y) z (z ∷ zs) (irreflexive o total z, high.0)) in
    let heads : y ∷ filter (Ties o y) ys ≡ z ∷ filter (Ties o y) zs =
    sym (kept (Ties o y) y ys (tied_self o total y)) ∙ same y ∙ kept (Ties o y) z zs (ties_of o y z above below) in
    let head : y ≡ z = cc in
    let rest : ys ≡ zs =
    same_lists o total ys zs up.1 high.1
    (λ a. tails (Ties o a y) y (filter (Ties o a) ys) (filter (Ties o a) zs)
    (same a ∙ subst (λ x. filter (Ties o a) (z ∷ zs) ≡ filter (Ties o a) (x ∷ zs)) (sym head) refl)) in
    ap (λ x. x ∷ ys) head ∙ ap (λ xs. z ∷ xs) rest

both : {A : Type 0} (b c : Bool) (p q : A → Bool) (x : A) (ps qs : List A) → filter q ps ≡ filter p qs → p x ≡ b → q x ≡ c
    → filter q (cond b (x ∷ ps) ps) ≡ filter p (cond c (x ∷ qs) qs)
both true true p q x ps qs rest one two = rw (one, two) (ap (λ zs. x ∷ zs) rest)
both true false p q x ps qs rest one two = rw two rest
both false true p q x ps qs rest one two = rw one rest
both false false p q x ps qs rest one two = rest

filters_swap : {A : Type 0} (p q : A → Bool) (xs : List A) → filter q (filter p xs) ≡ filter p (filter q xs)
filters_swap p q [] = refl
filters_swap p q (x ∷ xs) = both (p x) (q x) p q x (filter p xs) (filter q xs) (filters_swap p q xs) refl refl

-- what passes of a sorted list
pub passed_in_order : {A : Type 0} (o : A → A → Ordering) → IsTotalOrder o → (p : A → Bool) (xs ys : List A)
    → IsSorted o ys → IsStable o xs ys → filter p ys ≡ in_order o (filter p xs)
passed_in_order o total p xs ys sorted stable =
    same_lists o total (filter p ys) (in_order o (filter p xs))
    (rises_sorted o total (filter p ys) (IsSortedBy-filter (λ a b. is_lt (o a b)) (ranks_by total (λ a. a)) p ys sorted)) (rises_order o total (filter p xs))
    (λ a. filters_swap p (Ties o a) ys ∙ ap (filter p) (stable a) ∙ sym (filters_swap p (Ties o a) xs)
    ∙ sym (order_level o (Ties o a) (ties_level o total a) (filter p xs)))
