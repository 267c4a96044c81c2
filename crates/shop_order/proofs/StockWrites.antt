-- The writes by which lines are sold make of the items what an order of these lines makes.
use Rattle.std.proofs.Common.{◌≡◌, ◌≢◌, ℕ, zero, suc, ◌+◌, ◌-◌, ◌*◌, ◌≤◌, min, Bool, true, false, List, [], ◌∷◌, ◌++◌, length, map, filter, All, AllPairs, Some, Option, slice_get, slice_set, get_or, eqb, cond, ◌==◌, refl, sym, ◌∙◌, ap, arith, append_assoc}
use Rattle.std.proofs.lemmas.Bool.{cond-true, cond-false, eq-eqb, ne_eqb}
use Rattle.std.proofs.lemmas.List.{append-nil}
use Rattle.std.proofs.lemmas.List.Elements.{All-head, All-tail}
use Rattle.std.proofs.lemmas.List.Sums.{sum_by-cons}
use Rattle.shop_model.specs.declared.tables.Tables.{Tables}
use Rattle.shop_model.specs.pages.Priced.{order_lines}
use Rattle.shop_model.specs.rows.Limits.{restocks_limit}
use Rattle.shop_model.specs.rows.Lookups.{row_numbered, cost_of}
use Rattle.shop_model.specs.rows.Rows.{ItemRow, LineRow}
use Rattle.shop_model.specs.rows.Sound.{Sound, Room, Has, IsQuantity, IsStocked, units_in}
use Rattle.shop_model.specs.trade.Buyers.{changed_row}
use Rattle.shop_model.specs.trade.Stocks.{stock_after, times_restocked}
use Rattle.shop_model.proofs.cited.Restocking.{IsRestocked, restocked}
use Rattle.shop_history.proofs.cited.Places.{IsThere, is_there, row_there, some_row, all_numbered, id_numbered}
use Rattle.shop_attempt.specs.Writes.{written}
use Rattle.shop_order.specs.Purchases.{stock_writes_of, stock_writes}

-- the units of an item in lines
abbrev units_of : ℕ → List (ℕ × ℕ) → ℕ
units_of item [] = 0
units_of item (line ∷ lines) = cond (eqb line.0 item) (line.1 + units_of item lines) (units_of item lines)

-- an item after so many units of it were sold
abbrev after : ℕ → ItemRow → ItemRow
after units item = record item { stock = stock_after item.stock units; restocks = item.restocks + times_restocked item.stock units }

-- an item after these lines
abbrev after_lines : List (ℕ × ℕ) → ItemRow → ItemRow
after_lines lines item = after (units_of item.id lines) item

-- one row set in a map

all_same : {A B : Type 0} {f g : A → B} (xs : List A) → ((j : ℕ) (x : A) → slice_get xs j ≡ Some x → f x ≡ g x) → map f xs ≡ map g xs
all_same [] each = refl
all_same (x ∷ xs) each = rw (each 0 x refl, all_same xs (λ j y is. each (suc j) y is)) refl

set_map : {A B : Type 0} (f g : A → B) (xs : List A) (i : ℕ) (x : A) → slice_get xs i ≡ Some x → ((j : ℕ) (y : A) → j ≢ i → slice_get xs j ≡ Some y → g y ≡ f y) → slice_set (map f xs) i (g x) ≡ map g xs
set_map f g [] i x at others = absurd cc
set_map f g (y ∷ xs) zero x at others =
    let same : y ≡ x = cc in
    let rest : map f xs ≡ map g xs = all_same xs (λ j z is. sym (others (suc j) z (λ e. omega (arith, e)) is)) in
    ap (λ z. g z ∷ map f xs) (sym same) ∙ ap (λ zs. g y ∷ zs) rest
set_map f g (y ∷ xs) (suc i) x at others =
    rw (others 0 y (λ e. omega (arith, e)) refl, set_map f g xs i x at (λ j z apart is. others (suc j) z (λ e. apart (omega (arith, e))) is)) refl

get_map : {A B : Type 0} (f : A → B) (xs : List A) (i : ℕ) (x : A) → slice_get xs i ≡ Some x → slice_get (map f xs) i ≡ Some (f x)
get_map f [] i x at = absurd cc
get_map f (y ∷ xs) zero x at = cc
get_map f (y ∷ xs) (suc i) x at = get_map f xs i x at

-- one line more changes its item alone

units_other : (item : ℕ) (done : List (ℕ × ℕ)) (line : ℕ × ℕ) → line.0 ≢ item → units_of item (done ++ line ∷ []) ≡ units_of item done
units_other item [] line apart = cond-false (eqb line.0 item) _ _ (ne_eqb line.0 item apart)
units_other item (first ∷ done) line apart = ap (λ n. cond (eqb first.0 item) (first.1 + n) n) (units_other item done line apart)

units_same : (item : ℕ) (done : List (ℕ × ℕ)) (line : ℕ × ℕ) → line.0 ≡ item → units_of item done ≡ 0 → units_of item (done ++ line ∷ []) ≡ line.1
units_same item [] line same none = cond-true (eqb line.0 item) _ _ (eq-eqb line.0 item same) ∙ omega arith
units_same item (first ∷ done) line same none = grind (arith, none, units_same item done line same)

-- they are those of the order
units_ordered : (t : Tables) (item number : ℕ) (lines : List (ℕ × ℕ)) → units_of item lines ≡ units_in item (order_lines t number lines)
unfolding order_lines
units_ordered t item number [] = refl
units_ordered t item number (line ∷ lines) = by (eqb line.0 item) refl (units_ordered t item (number + 1) lines)
  where
    by : (b : Bool) → eqb line.0 item ≡ b → units_of item lines ≡ units_in item (order_lines t (number + 1) lines)
        → cond (eqb line.0 item) (line.1 + units_of item lines) (units_of item lines) ≡ units_in item (order_lines t number (line ∷ lines))
    by true same rest =
        let here : LineRow = record { number = number; item = line.0; quantity = line.1; cost = cost_of t line.0 } in
        rw same (ap (λ n. line.1 + n) rest ∙ sym (sum_by-cons (λ (l : LineRow). l.quantity) here (filter (λ (l : LineRow). l.item == item) (order_lines t (number + 1) lines))))
    by false apart rest = rw apart rest

module _ (t : Tables) (sound : Sound t) (room : Room t 1) (stamp : ℕ) where
  -- the tables with other items
  abbrev with_items : Tables → List ItemRow → Tables
  with_items u items = record u { items = items }

  id_at : (j : ℕ) (item : ItemRow) → slice_get t.items j ≡ Some item → item.id ≡ j + 1
  id_at j item at =
      let same : j ≡ j + 1 - 1 = omega arith in
      id_numbered (λ (i : ItemRow). i.id) t.items (j + 1) item sound.ids.items
      (row_there t.items (j + 1) item (record { above = omega arith; at = ap (slice_get t.items) (sym same) ∙ at }))

  -- a line that may be sold: its item is there, few units are, and none was sold before
  record Sells (done : List (ℕ × ℕ)) (line : ℕ × ℕ) : Type 0 where
    item : ItemRow
    there : row_numbered t.items line.0 ≡ Some item
    few : line.1 ≤ 999
    none : units_of line.0 done ≡ 0

  one_line : (u : Tables) (done : List (ℕ × ℕ)) (line : ℕ × ℕ) → (sells : Sells done line) → u.items ≡ map (after_lines done) t.items
      → written u stamp (stock_writes_of line (Some sells.item)) ≡ with_items u (map (after_lines (done ++ line ∷ [])) t.items)
  one_line u done line sells are =
      let item : ItemRow = sells.item in
      let place : IsThere t.items line.0 item = is_there t.items line.0 item sells.there in
      let id : item.id ≡ line.0 = id_at (line.0 - 1) item place.at ∙ omega (arith, place.above) in
      let low : IsStocked t item = all_numbered (IsStocked t) t.items line.0 item sells.there sound.stock in
      let roomy : item.restocks + 49 * 1 ≤ restocks_limit = all_numbered (λ i. i.restocks + 49 * 1 ≤ restocks_limit) t.items line.0 item sells.there room.restocks in
      let sold : IsRestocked item.stock line.1 = restocked item.stock line.1 low.low in
      let fits : min (item.restocks + times_restocked item.stock line.1) restocks_limit ≡ item.restocks + times_restocked item.stock line.1 = omega (arith, roomy, sold.few sells.few) in
      let now : ItemRow = after_lines done item in
      let here : row_numbered (map (after_lines done) t.items) line.0 ≡ Some now = row_there (map (after_lines done) t.items) line.0 now (record { above = place.above; at = get_map (after_lines done) t.items (line.0 - 1) item place.at }) in
      let units : units_of item.id (done ++ line ∷ []) ≡ line.1 = units_same item.id done line (sym id) (ap (λ n. units_of n done) id ∙ sells.none) in
      let change : ItemRow → ItemRow = λ r. record r { stock = stock_after item.stock line.1; restocks = min (item.restocks + times_restocked item.stock line.1) restocks_limit } in
      let row : change now ≡ after_lines (done ++ line ∷ []) item
      = ap (λ n. record item { stock = stock_after item.stock line.1; restocks = n }) fits ∙ ap (λ n. after n item) (sym units) in
      ap (λ (xs : List ItemRow). with_items u (changed_row xs line.0 change (row_numbered xs line.0))) are
      ∙ ap (λ (o : Option ItemRow). with_items u (changed_row (map (after_lines done) t.items) line.0 change o)) here
      ∙ ap (λ r. with_items u (slice_set (map (after_lines done) t.items) (line.0 - 1) r)) row
      ∙ ap (with_items u)
      (set_map (after_lines done) (after_lines (done ++ line ∷ [])) t.items (line.0 - 1) item place.at
      (λ j other apart at. ap (λ n. after n other) (units_other other.id done line (λ (e : line.0 ≡ other.id). apart (omega (arith, e, id_at j other at, place.above))))))

  -- lines that may be sold one after another
  Sellable : List (ℕ × ℕ) → List (ℕ × ℕ) → Type 0
  Sellable done [] = Unit {0}
  Sellable done (line ∷ lines) = Sells done line × Sellable (done ++ line ∷ []) lines

  all_lines : (u : Tables) (done lines : List (ℕ × ℕ)) → u.items ≡ map (after_lines done) t.items → Sellable done lines
      → written u stamp (stock_writes t lines) ≡ with_items u (map (after_lines (done ++ lines)) t.items)
  unfolding Sellable
  all_lines u done [] are sellable = ap (with_items u) (are ∙ ap (λ (ls : List (ℕ × ℕ)). map (after_lines ls) t.items) (sym (append-nil done)))
  all_lines u done (line ∷ lines) are sellable =
      let sells = sellable.0 in
      let now : List ItemRow = map (after_lines (done ++ line ∷ [])) t.items in
      ap (λ o. written u stamp (stock_writes_of line o ++ stock_writes t lines)) sells.there
      ∙ ap (λ v. written v stamp (stock_writes t lines)) (one_line u done line sells are)
      ∙ all_lines (with_items u now) (done ++ line ∷ []) lines refl sellable.1
      ∙ ap (λ (ls : List (ℕ × ℕ)). with_items u (map (after_lines ls) t.items)) (append_assoc done (line ∷ []) lines)

  -- the lines of a cart may be

  abbrev Apart : ℕ × ℕ → ℕ × ℕ → Type 0
  Apart a b = a.0 ≢ b.0

  sellable_lines : (done lines : List (ℕ × ℕ)) → AllPairs Apart lines → All (λ l. IsQuantity l.1) lines → All (λ l. Has (length t.items) l.0) lines → All (λ l. units_of l.0 done ≡ 0) lines → Sellable done lines
  unfolding Sellable
  sellable_lines done [] distinct quantities exist none = tt
  sellable_lines done (line ∷ lines) distinct quantities exist none =
      let there = some_row t.items line.0 (All-head (λ (l : ℕ × ℕ). Has (length t.items) l.0) line lines exist) in
      let rest = All-tail (λ (l : ℕ × ℕ). units_of l.0 done ≡ 0) line lines none in (
        record {
          item = there.0;
          there = there.1;
          few = (All-head (λ (l : ℕ × ℕ). IsQuantity l.1) line lines quantities).few;
          none = All-head (λ (l : ℕ × ℕ). units_of l.0 done ≡ 0) line lines none;
        },
        sellable_lines (done ++ line ∷ []) lines (λ i j d lt within. distinct (suc i) (suc j) d (omega arith) (omega arith)) (All-tail (λ (l : ℕ × ℕ). IsQuantity l.1) line lines quantities)
            (All-tail (λ (l : ℕ × ℕ). Has (length t.items) l.0) line lines exist)
            (λ k d within. units_other (get_or lines k d).0 done line (distinct 0 (suc k) d (omega arith) (omega arith)) ∙ rest k d within),
      )

  -- where none is sold an item stays
  none_sold : (items : List ItemRow) → All (IsStocked t) items → items ≡ map (after_lines []) items
  none_sold [] stocked = refl
  none_sold (item ∷ items) stocked =
      let low : IsStocked t item = All-head (IsStocked t) item items stocked in
      let none = (restocked item.stock 0 low.low).none refl in
      let same : item ≡ after 0 item = ap (λ n. record item { stock = n }) (sym none.0) ∙ ap (λ n. record item { stock = stock_after item.stock 0; restocks = n }) (sym (ap (λ n. item.restocks + n) none.1 ∙ omega arith)) in
      ap (λ (rest : List ItemRow). item ∷ rest) (none_sold items (All-tail (IsStocked t) item items stocked)) ∙ ap (λ i. i ∷ map (after_lines []) items) same

  -- the writes of the lines of a fit cart, in tables that still have these items
  pub stocks_written : (u : Tables) (lines : List (ℕ × ℕ)) (sold : List LineRow) → u.items ≡ t.items → AllPairs Apart lines → All (λ l. IsQuantity l.1) lines → All (λ l. Has (length t.items) l.0) lines
      → sold ≡ order_lines t 1 lines → written u stamp (stock_writes t lines) ≡ record u { items = map (λ (i : ItemRow). after (units_in i.id sold) i) t.items }
  stocks_written u lines sold are distinct quantities exist is =
      all_lines u [] lines (are ∙ none_sold t.items sound.stock) (sellable_lines [] lines distinct quantities exist (λ k d within. refl))
      ∙ ap (with_items u) (all_same t.items (λ j item at. ap (λ n. after n item) (units_ordered t item.id 1 lines ∙ ap (units_in item.id) (sym is))))
