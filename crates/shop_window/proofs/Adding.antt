-- Units that are added to those of their items, or taken away, line by line.
use Rattle.std.proofs.Common.{◌≡◌, suc, zero, ℕ, ◌+◌, ◌*◌, ◌<◌, ◌≤◌, Bool, true, false, List, [], ◌∷◌, length, drop, get_or, filter, refl, sym, ap, ◌∙◌, map, arith, ◌==◌, if◌then◌else◌}
use Rattle.std.proofs.lemmas.Bool.{eq-eqb, eqb-true}
use Rattle.std.specs.List.{All}
use Rattle.std.proofs.lemmas.List.{get_or-map, length-map}
use Rattle.std.proofs.lemmas.List.Sums.{sum_by-cons, sum_by-append, sum_by-le}
use Rattle.shop_model.specs.rows.Limits.{lines_limit, quantity_limit}
use Rattle.shop_model.specs.rows.Rows.{LineRow, OrderRow}
use Rattle.shop_model.specs.rows.Sound.{Has}
use Rattle.shop_model.specs.lists.Related.{Sold, sold_of, units_in_lines, units_in_orders, lines_in}
use Rattle.shop_window.specs.Totals.{units_of}
use Rattle.shop_window.specs.Units.{Adds, HasRoom, HasUnits}
use Rattle.shop_window.specs.Windows.{IsKeptLine, IsKept, AreCounted}

-- units that were added, with those that are left to add
pub record IsAdding (before now : List ℕ) (left all : List (ℕ × ℕ)) : Type 0 where
  pub size : length now ≡ length before
  pub each : (item : ℕ) → item < length before → get_or now item 0 + units_in_lines item left ≡ get_or before item 0 + units_in_lines item all

chosen : (b : Bool) (item : ℕ) (line : ℕ × ℕ) (lines : List (ℕ × ℕ)) → (line.0 == item) ≡ b
    → units_in_lines item (line ∷ lines) ≡ (if b then line.1 else 0) + units_in_lines item lines
chosen true item line lines is = rw is (sum_by-cons (λ (l : ℕ × ℕ). l.1) line (filter (λ l. l.0 == item) lines))
chosen false item line lines is = rw is (omega arith)

-- the units of one line more
pub units_cons : (item : ℕ) (line : ℕ × ℕ) (lines : List (ℕ × ℕ))
    → units_in_lines item (line ∷ lines) ≡ (if line.0 == item then line.1 else 0) + units_in_lines item lines
units_cons item line lines = chosen (line.0 == item) item line lines refl

-- a line that is left is among the units that are left
pub line_left : (lines : List (ℕ × ℕ)) (i : ℕ) → i < length lines
    → (get_or lines i (0, 0)).1 ≤ units_in_lines (get_or lines i (0, 0)).0 (drop i lines)
line_left [] i within = absurd (omega arith)
line_left (line ∷ lines) zero within =
    let more = chosen true line.0 line lines (eq-eqb line.0 line.0 refl) in omega (arith, more)
line_left (line ∷ lines) (suc i) within = line_left lines i (omega arith)

chosen_bound : (b : Bool) (quantity : ℕ) → quantity ≤ quantity_limit → (if b then quantity else 0) ≤ quantity_limit
chosen_bound true quantity few = few
chosen_bound false quantity few = omega arith

lines_bound : (items item : ℕ) (lines : List (ℕ × ℕ)) → All (IsKeptLine items) lines → units_in_lines item lines ≤ length lines * quantity_limit
lines_bound items item [] all = omega arith
lines_bound items item (line ∷ lines) all =
    let more = units_cons item line lines in
    let one = chosen_bound (line.0 == item) line.1 (all 0 line (omega arith)).few in
    let rest = lines_bound items item lines (λ k d within. all (suc k) d (omega arith)) in
    omega (arith, more, one, rest)

order_bound : (items item : ℕ) (o : Sold) → IsKept items o → units_in_lines item o.lines ≤ 99_900
order_bound items item o kept = let most = lines_bound items item o.lines kept.lines in omega (arith, most, kept.few)

orders_bound : (items item : ℕ) (kept : List Sold) → All (IsKept items) kept → units_in_orders item kept ≤ length kept * 99_900
orders_bound items item kept all =
    sum_by-le (λ o. units_in_lines item o.lines) 99_900 kept (λ i d within. order_bound items item (get_or kept i d) (all i d within))

not_there : (b : Bool) (items : ℕ) (line : ℕ × ℕ) (item : ℕ) → IsKeptLine items line → items < item → (line.0 == item) ≡ b → (if b then line.1 else 0) ≡ 0
not_there true items line item kept over is = absurd (omega (arith, eqb-true line.0 item is, kept.last))
not_there false items line item kept over is = refl

-- no units of an item that there is not
none_in_lines : (items item : ℕ) (lines : List (ℕ × ℕ)) → All (IsKeptLine items) lines → items < item → units_in_lines item lines ≡ 0
none_in_lines items item [] all over = refl
none_in_lines items item (line ∷ lines) all over =
    let more = units_cons item line lines in
    let one = not_there (line.0 == item) items line item (all 0 line (omega arith)) over refl in
    let rest = none_in_lines items item lines (λ k d within. all (suc k) d (omega arith)) over in
    omega (arith, more, one, rest)

pub none_in_orders : (items item : ℕ) (kept : List Sold) → All (IsKept items) kept → items < item → units_in_orders item kept ≡ 0
none_in_orders items item [] all over = refl
none_in_orders items item (o ∷ os) all over =
    let more = sum_by-cons (λ (s : Sold). units_in_lines item s.lines) o os in
    let one = none_in_lines items item o.lines (all 0 o (omega arith)).lines over in
    let rest = none_in_orders items item os (λ k d within. all (suc k) d (omega arith)) over in
    omega (arith, more, one, rest)

-- the units of the oldest order may be taken away
pub has_units : (items : ℕ) (units : List ℕ) (o : Sold) (os : List Sold) → AreCounted items units (o ∷ os) → HasUnits units o.lines
has_units items units o os counted = record {
  items = λ i d within. let line = (counted.orders 0 o (omega arith)).lines i d within in omega (arith, line.last, counted.size);
  some = λ item within.
      let all = counted.each item (omega (arith, counted.size)) in
      let more = sum_by-cons (λ (s : Sold). units_in_lines item s.lines) o os in
      omega (arith, all, more);
}

pub counted_less : (items : ℕ) (before now : List ℕ) (o : Sold) (os : List Sold) → AreCounted items before (o ∷ os)
    → Adds now before (λ item. units_in_lines item o.lines) → AreCounted items now os
counted_less items before now o os counted adds = record {
  few = omega (arith, counted.few);
  orders = λ k d within. counted.orders (suc k) d (omega arith);
  size = sym adds.size ∙ counted.size;
  each = λ item within.
      let all = counted.each item within in
      let more = sum_by-cons (λ (s : Sold). units_in_lines item s.lines) o os in
      let one = adds.each item (omega (arith, adds.size, counted.size)) in
      omega (arith, all, more, one);
}

-- those of one order more may be added
pub has_room : (items : ℕ) (units : List ℕ) (kept : List Sold) (o : Sold) → AreCounted items units kept → IsKept items o → HasRoom units o.lines
has_room items units kept o counted order = record {
  items = λ i d within. let line = order.lines i d within in omega (arith, line.last, counted.size);
  fits = λ item within.
      let all = counted.each item (omega (arith, counted.size)) in
      let most = orders_bound items item kept counted.orders in
      let one = order_bound items item o order in
      omega (arith, all, most, one, counted.few);
}

no_line : LineRow
no_line = record { number = 0; item = 0; quantity = 0; cost = 0 }

-- an order of few lines, all of items that there are, may be kept
pub may_be_kept : (items : ℕ) (o : OrderRow) (sold : Sold) → sold ≡ sold_of o
    → length o.lines ≤ lines_limit → All (λ l. Has items l.item) o.lines → All (λ l. l.1 ≤ quantity_limit) sold.lines → IsKept items sold
may_be_kept items o sold is few names quantities =
    let pairs : sold.lines ≡ map (λ l. (l.item, l.quantity)) o.lines = ap (λ (s : Sold). s.lines) is in
    let size : length sold.lines ≡ length o.lines = ap length pairs ∙ length-map o.lines (λ (l : LineRow). (l.item, l.quantity)) in
    record {
      few = omega (arith, size);
      lines = λ k d within.
          let line = names k no_line (omega (arith, size)) in
          let here : get_or sold.lines k d ≡ ((get_or o.lines k no_line).item, (get_or o.lines k no_line).quantity) =
          ap (λ ls. get_or ls k d) pairs ∙ get_or-map (λ (l : LineRow). (l.item, l.quantity)) o.lines k no_line d (omega (arith, size)) in
          let item : (get_or sold.lines k d).0 ≡ (get_or o.lines k no_line).item = ap (λ (p : ℕ × ℕ). p.0) here in
          record {
            first = omega (arith, item, line.first);
            last = omega (arith, item, line.last);
            few = quantities k d within;
          };
    }

-- no customer's lines have more units than all orders may have

lines_chosen : (b : Bool) (items customer : ℕ) (o : Sold) (os : List Sold) → (o.customer == customer) ≡ b → IsKept items o
    → units_of (lines_in os customer) ≤ length os * 99_900 → units_of (lines_in (o ∷ os) customer) ≤ length (o ∷ os) * 99_900
lines_chosen true items customer o os is kept rest =
    let all = sum_by-append (λ (l : ℕ × ℕ). l.1) o.lines (lines_in os customer) in
    let most = sum_by-le (λ (l : ℕ × ℕ). l.1) quantity_limit o.lines (λ i d within. (kept.lines i d within).few) in
    rw is (omega (arith, all, most, kept.few, rest))
lines_chosen false items customer o os is kept rest = rw is (omega (arith, rest))

pub lines_few : (items customer : ℕ) (kept : List Sold) → All (IsKept items) kept → units_of (lines_in kept customer) ≤ length kept * 99_900
lines_few items customer [] all = omega arith
lines_few items customer (o ∷ os) all =
    lines_chosen (o.customer == customer) items customer o os refl (all 0 o (omega arith))
    (lines_few items customer os (λ k d within. all (suc k) d (omega arith)))
