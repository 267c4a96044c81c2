-- When what a customer bought lately is other than before, once an order comes and one may leave.
use Rattle.std.proofs.Common.{◌≡◌, ◌≢◌, ℕ, ◌+◌, ◌≤◌, ◌==◌, ◌||◌, Bool, true, false, nat_lt, List, [], ◌∷◌, ◌++◌, length, map, filter, sum_by, Option, Some, None, refl, sym, ◌∙◌, ap, arith, if◌then◌else◌}
use Rattle.std.specs.Prelude.{All, option_to_list}
use Rattle.std.specs.List.{flat_map}
use Rattle.std.proofs.lemmas.Bool.{eqb-true, eq-eqb}
use Rattle.std.proofs.lemmas.Grind.{flat_map-append}
use Rattle.std.proofs.lemmas.List.Elements.{filter-append, All-head, All-tail}
use Rattle.std.proofs.lemmas.List.Sums.{sum_by-append}
use Rattle.shop_model.specs.lists.Related.{Sold, is_of, units_in_lines, lines_in, ascending, totals_of, bought_in}
use Rattle.shop_window.specs.Totals.{add_to, add_all}
use Rattle.shop_window.proofs.Adding.{units_cons}
use Rattle.shop_window.proofs.Summing.{totals_added}
use Rattle.shop_book.proofs.Ascending.{by_test, is_among, ascending_same}
use Rattle.shop_book.proofs.WindowMoves.{Moves}

-- the units of an item in totals are those in their lines

swap : (a b c : ℕ) → a + (b + c) ≡ b + (a + c)
swap a b c = omega arith

units_add_to : (item : ℕ) (line : ℕ × ℕ) (totals : List (ℕ × ℕ)) → units_in_lines item (add_to line totals) ≡ units_in_lines item (line ∷ totals)
unfolding add_to
units_add_to item line [] = refl
units_add_to item line (total ∷ totals) =
    let two : units_in_lines item (line ∷ total ∷ totals) ≡ (if line.0 == item then line.1 else 0) + ((if total.0 == item then total.1 else 0) + units_in_lines item totals)
    = units_cons item line (total ∷ totals) ∙ ap (λ n. (if line.0 == item then line.1 else 0) + n) (units_cons item total totals) in
    by_test (nat_lt total.0 line.0)
    (λ (behind : nat_lt total.0 line.0 ≡ true).
    rw behind
    (units_cons item total (add_to line totals)
    ∙ ap (λ n. (if total.0 == item then total.1 else 0) + n) (units_add_to item line totals ∙ units_cons item line totals)
    ∙ swap (if total.0 == item then total.1 else 0) (if line.0 == item then line.1 else 0) (units_in_lines item totals)
    ∙ sym two))
    (λ (not : nat_lt total.0 line.0 ≡ false).
    by_test (line.0 == total.0)
    (λ (same : (line.0 == total.0) ≡ true).
    rw (not, same)
    (units_cons item (total.0, total.1 + line.1) totals
    ∙ both (total.0 == item) total.1 line.1 (units_in_lines item totals)
    ∙ ap (λ (n : ℕ). (if n == item then line.1 else 0) + ((if total.0 == item then total.1 else 0) + units_in_lines item totals)) (sym (eqb-true line.0 total.0 same))
    ∙ sym two))
    (λ (apart : (line.0 == total.0) ≡ false). rw (not, apart) refl))
  where
    both : (b : Bool) (a c n : ℕ) → (if b then a + c else 0) + n ≡ (if b then c else 0) + ((if b then a else 0) + n)
    both true a c n = omega arith
    both false a c n = omega arith

units_add_all : (item : ℕ) (lines : List (ℕ × ℕ)) → units_in_lines item (add_all lines []) ≡ units_in_lines item lines
unfolding add_all
units_add_all item [] = refl
units_add_all item (line ∷ lines) =
    units_add_to item line (add_all lines [])
    ∙ units_cons item line (add_all lines [])
    ∙ ap (λ n. (if line.0 == item then line.1 else 0) + n) (units_add_all item lines)
    ∙ sym (units_cons item line lines)

units_totals : (item : ℕ) (lines : List (ℕ × ℕ)) → units_in_lines item (totals_of lines) ≡ units_in_lines item lines
units_totals item lines = ap (units_in_lines item) (totals_added lines) ∙ units_add_all item lines

-- the same units, the same totals, where each line has some

-- each line has some units
abbrev pub HaveUnits : List (ℕ × ℕ) → Type 0
HaveUnits lines = All (λ l. 1 ≤ l.1) lines

none : (n : ℕ) → 0 + n ≡ n
none n = omega arith

has_some : (n : ℕ) → 1 ≤ n → nat_lt 0 n ≡ true
has_some n some = grind (arith, some)

among_units : (item : ℕ) (lines : List (ℕ × ℕ)) → HaveUnits lines → is_among item (map (λ l. l.0) lines) ≡ nat_lt 0 (units_in_lines item lines)
among_units item [] some = refl
among_units item (line ∷ lines) some =
    by_test (line.0 == item)
    (λ (here : (line.0 == item) ≡ true).
    let more : units_in_lines item (line ∷ lines) ≡ line.1 + units_in_lines item lines = units_cons item line lines ∙ ap (λ b. (if b then line.1 else 0) + units_in_lines item lines) here in
    let first : 1 ≤ line.1 = All-head (λ (l : ℕ × ℕ). 1 ≤ l.1) line lines some in
    ap (λ b. b || is_among item (map (λ l. l.0) lines)) here ∙ sym (has_some (units_in_lines item (line ∷ lines)) (omega (arith, more, first))))
    (λ (apart : (line.0 == item) ≡ false).
    let same : units_in_lines item (line ∷ lines) ≡ units_in_lines item lines = units_cons item line lines ∙ ap (λ b. (if b then line.1 else 0) + units_in_lines item lines) apart ∙ none (units_in_lines item lines) in
    ap (λ b. b || is_among item (map (λ l. l.0) lines)) apart ∙ among_units item lines (All-tail (λ (l : ℕ × ℕ). 1 ≤ l.1) line lines some) ∙ ap (nat_lt 0) (sym same))

totals_same : (xs ys : List (ℕ × ℕ)) → HaveUnits xs → HaveUnits ys → ((item : ℕ) → units_in_lines item xs ≡ units_in_lines item ys) → totals_of xs ≡ totals_of ys
totals_same xs ys one other same =
    ap (λ (items : List ℕ). map (λ item. (item, units_in_lines item xs)) items)
    (ascending_same (map (λ l. l.0) xs) (map (λ l. l.0) ys) (λ item. among_units item xs one ∙ ap (nat_lt 0) (same item) ∙ sym (among_units item ys other)))
    ∙ ap (λ (f : ℕ → ℕ). map (λ item. (item, f item)) (ascending (map (λ l. l.0) ys))) (λ i item. same item i)

-- the units of an item that a customer's orders have

abbrev pub units_by : List Sold → ℕ → ℕ → ℕ
units_by orders customer item = units_in_lines item (lines_in orders customer)

units_append : (item : ℕ) (xs ys : List (ℕ × ℕ)) → units_in_lines item (xs ++ ys) ≡ units_in_lines item xs + units_in_lines item ys
units_append item xs ys = ap (sum_by (λ l. l.1)) (filter-append (λ l. l.0 == item) xs ys) ∙ sum_by-append (λ l. l.1) (filter (λ l. l.0 == item) xs) (filter (λ l. l.0 == item) ys)

-- the lines of an order, if it is the customer's
abbrev own_lines : ℕ → Sold → List (ℕ × ℕ)
own_lines customer o = if is_of customer o then o.lines else []

lines_cons : (customer : ℕ) (o : Sold) (os : List Sold) → lines_in (o ∷ os) customer ≡ own_lines customer o ++ lines_in os customer
lines_cons customer o os =
    by_test (is_of customer o)
    (λ (his : is_of customer o ≡ true). rw his (flat_map-append (λ (s : Sold). s.lines) (o ∷ []) (filter (is_of customer) os) ∙ ap (λ ls. ls ++ lines_in os customer) (alone o.lines)))
    (λ (not : is_of customer o ≡ false). rw not refl)
  where
    alone : (lines : List (ℕ × ℕ)) → lines ++ [] ≡ lines
    alone [] = refl
    alone (l ∷ ls) = ap (λ rest. l ∷ rest) (alone ls)

lines_push : (customer : ℕ) (os : List Sold) (o : Sold) → lines_in (os ++ o ∷ []) customer ≡ lines_in os customer ++ own_lines customer o
lines_push customer os o =
    ap (flat_map (λ (s : Sold). s.lines)) (filter-append (is_of customer) os (o ∷ []))
    ∙ flat_map-append (λ (s : Sold). s.lines) (filter (is_of customer) os) (filter (is_of customer) (o ∷ []))
    ∙ ap (λ ls. lines_in os customer ++ ls) (lines_cons customer o [] ∙ alone (own_lines customer o))
  where
    alone : (lines : List (ℕ × ℕ)) → lines ++ [] ≡ lines
    alone [] = refl
    alone (l ∷ ls) = ap (λ rest. l ∷ rest) (alone ls)

-- the units that one order has of an item, if it is the customer's
abbrev pub share : ℕ → ℕ → Sold → ℕ
share customer item o = units_in_lines item (own_lines customer o)

pub share_his : (customer item : ℕ) (o : Sold) → o.customer ≡ customer → share customer item o ≡ units_in_lines item o.lines
share_his customer item o is = ap (λ b. units_in_lines item (if b then o.lines else [])) (eq-eqb o.customer customer is)

pub share_none : (customer item : ℕ) (o : Sold) → o.customer ≢ customer → share customer item o ≡ 0
share_none customer item o apart = by_test (is_of customer o) (λ (his : is_of customer o ≡ true). absurd (apart (eqb-true o.customer customer his))) (λ (not : is_of customer o ≡ false). rw not refl)

-- the units that were left behind by who is gone
abbrev pub gone_share : ℕ → ℕ → Option Sold → ℕ
gone_share customer item None = 0
gone_share customer item (Some gone) = share customer item gone

module _ (before after : List Sold) (gone : Option Sold) (coming : Sold) (moves : Moves before after gone coming) where
  now_units : (customer item : ℕ) → units_by after customer item ≡ units_by moves.rest customer item + share customer item coming
  now_units customer item =
      ap (λ (os : List Sold). units_by os customer item) moves.after_is
      ∙ ap (units_in_lines item) (lines_push customer moves.rest coming)
      ∙ units_append item (lines_in moves.rest customer) (own_lines customer coming)

  was_units : (customer item : ℕ) (left : Option Sold) → gone ≡ left → units_by before customer item ≡ gone_share customer item left + units_by moves.rest customer item
  was_units customer item None is = ap (λ (os : List Sold). units_by os customer item) (moves.before_is ∙ ap (λ (o : Option Sold). option_to_list o ++ moves.rest) is) ∙ sym (none (units_by moves.rest customer item))
  was_units customer item (Some left) is =
      ap (λ (os : List Sold). units_by os customer item) (moves.before_is ∙ ap (λ (o : Option Sold). option_to_list o ++ moves.rest) is)
      ∙ ap (units_in_lines item) (lines_cons customer left moves.rest)
      ∙ units_append item (own_lines customer left) (lines_in moves.rest customer)

  -- where what the customer bought is the same, so are what comes and what leaves of each item
  pub bought_shares : (customer item : ℕ) (left : Option Sold) → gone ≡ left → bought_in after customer ≡ bought_in before customer → gone_share customer item left ≡ share customer item coming
  bought_shares customer item left is same =
      let units : units_by after customer item ≡ units_by before customer item
      = sym (units_totals item (lines_in after customer)) ∙ ap (units_in_lines item) same ∙ units_totals item (lines_in before customer) in
      let now = now_units customer item in
      let was = was_units customer item left is in
      omega (arith, units, now, was)

  -- where they are the same of each, it stays
  pub bought_stays : (customer : ℕ) (left : Option Sold) → gone ≡ left → ((item : ℕ) → gone_share customer item left ≡ share customer item coming) → HaveUnits (lines_in before customer) → HaveUnits (lines_in after customer)
      → bought_in after customer ≡ bought_in before customer
  bought_stays customer left is same one other =
      totals_same (lines_in after customer) (lines_in before customer) other one
      (λ item. let now = now_units customer item in let was = was_units customer item left is in omega (arith, now, was, same item))

-- the first line of an order has units
pub some_units : (o : Sold) → 1 ≤ length o.lines → HaveUnits o.lines → (item : ℕ) × (1 ≤ units_in_lines item o.lines)
some_units o some units = of o.lines some units
  where
    of : (lines : List (ℕ × ℕ)) → 1 ≤ length lines → HaveUnits lines → (item : ℕ) × (1 ≤ units_in_lines item lines)
    of [] some units = absurd (omega (arith, some))
    of (line ∷ lines) some units =
        let more : units_in_lines line.0 (line ∷ lines) ≡ line.1 + units_in_lines line.0 lines = units_cons line.0 line lines ∙ ap (λ b. (if b then line.1 else 0) + units_in_lines line.0 lines) (eq-eqb line.0 line.0 refl) in
        (line.0, omega (arith, more, All-head (λ (l : ℕ × ℕ). 1 ≤ l.1) line lines units))
