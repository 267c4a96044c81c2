-- What the latest orders say of their buyers: its items are there, and its units can be added.
use Rattle.std.proofs.Common.{ℕ, suc, ◌≤◌, ◌-◌, ◌*◌, ◌==◌, nat_lt, Bool, if◌then◌else◌, List, [], ◌∷◌, length, map, filter, get_or, All, arith, length-append, length-drop}
use Rattle.std.specs.List.{flat_map, sum_by}
use Rattle.std.proofs.lemmas.Bool.{cond_both}
use Rattle.std.proofs.lemmas.List.{length-map}
use Rattle.std.proofs.lemmas.List.Elements.{All-nil, All-cons, All-head, All-tail, All-append, All-drop, All-filter, All-map, All-weaker}
use Rattle.std.proofs.lemmas.List.Sums.{count_by-le-length, length-filter, sum_by-le}
use Rattle.shop_model.specs.declared.tables.Tables.{Tables}
use Rattle.shop_model.specs.lists.Related.{Sold, sold_of, last, put_once, ascending, units_in_lines, is_of, has_item, buyers_in, lines_in, totals_of, bought_in, recent}
use Rattle.shop_model.specs.rows.Limits.{lines_limit, quantity_limit, recent_orders}
use Rattle.shop_model.specs.rows.Rows.{LineRow, OrderRow}
use Rattle.shop_model.specs.rows.Sound.{Has, HasLines, OrderNames, Sound}
use Rattle.shop_window.specs.Windows.{IsKept, IsKeptLine}

-- rising numbers

put_all : (P : ℕ → Type 0) (x : ℕ) (xs : List ℕ) → P x → All P xs → All P (put_once x xs)
unfolding put_once
put_all P x [] is all = All-cons P x [] is all
put_all P x (y ∷ ys) is all =
    cond_both (nat_lt y x) (y ∷ put_once x ys) (if x == y then y ∷ ys else x ∷ y ∷ ys) (All P)
    (λ _. All-cons P y (put_once x ys) (All-head P y ys all) (put_all P x ys is (All-tail P y ys all)))
    (λ _. cond_both (x == y) (y ∷ ys) (x ∷ y ∷ ys) (All P) (λ _. all) (λ _. All-cons P x (y ∷ ys) is all))

ascending_all : (P : ℕ → Type 0) (xs : List ℕ) → All P xs → All P (ascending xs)
unfolding ascending
ascending_all P [] all = all
ascending_all P (x ∷ xs) all = put_all P x (ascending xs) (All-head P x xs all) (ascending_all P xs (All-tail P x xs all))

put_length : (x : ℕ) (xs : List ℕ) → length (put_once x xs) ≤ suc (length xs)
unfolding put_once
put_length x [] = omega arith
put_length x (y ∷ ys) =
    let Few : List ℕ → Type 0 = λ l. length l ≤ suc (suc (length ys)) in
    cond_both (nat_lt y x) (y ∷ put_once x ys) (if x == y then y ∷ ys else x ∷ y ∷ ys) Few
    (λ _. omega (arith, put_length x ys)) (λ _. cond_both (x == y) (y ∷ ys) (x ∷ y ∷ ys) Few (λ _. omega arith) (λ _. omega arith))

ascending_length : (xs : List ℕ) → length (ascending xs) ≤ length xs
unfolding ascending
ascending_length [] = omega arith
ascending_length (x ∷ xs) = omega (arith, put_length x (ascending xs), ascending_length xs)

filter_length : {A : Type 0} (p : A → Bool) (xs : List A) → length (filter p xs) ≤ length xs
filter_length p xs = omega (arith, length-filter p xs, count_by-le-length p xs)

-- the totals of lines

units_few : (item : ℕ) (lines : List (ℕ × ℕ)) → All (λ l. l.1 ≤ quantity_limit) lines → units_in_lines item lines ≤ 999 * length lines
units_few item lines few =
    let of : List (ℕ × ℕ) = filter (λ l. l.0 == item) lines in
    let most = sum_by-le (λ (l : ℕ × ℕ). l.1) quantity_limit of (All-filter (λ (l : ℕ × ℕ). l.0 == item) (λ (l : ℕ × ℕ). l.1 ≤ quantity_limit) lines few) in
    omega (arith, most, filter_length (λ (l : ℕ × ℕ). l.0 == item) lines)

totals_few : (lines : List (ℕ × ℕ)) → length lines ≤ 1_000_000 → All (λ l. l.1 ≤ quantity_limit) lines → sum_by (λ p. p.1) (totals_of lines) ≤ 999_000_000_000_000
totals_few lines short few =
    let items : List ℕ = ascending (map (λ l. l.0) lines) in
    let most = sum_by-le (λ (p : ℕ × ℕ). p.1) 999_000_000 (totals_of lines)
    (All-map (λ (p : ℕ × ℕ). p.1 ≤ 999_000_000) (λ item. (item, units_in_lines item lines)) items (λ k d lt. omega (arith, units_few (get_or items k d) lines few, short))) in
    omega (
      arith,
      most,
      length-map {B = ℕ × ℕ} items (λ item. (item, units_in_lines item lines)),
      ascending_length (map (λ l. l.0) lines),
      length-map lines (λ (l : ℕ × ℕ). l.0),
      short,
    )

totals_named : (P : ℕ → Type 0) (lines : List (ℕ × ℕ)) → All (λ l. P l.0) lines → All (λ p. P p.0) (totals_of lines)
totals_named P lines all =
    let items : List ℕ = ascending (map (λ l. l.0) lines) in
    All-map (λ (p : ℕ × ℕ). P p.0) (λ item. (item, units_in_lines item lines)) items (ascending_all P (map (λ l. l.0) lines) (All-map P (λ (l : ℕ × ℕ). l.0) lines all))

-- the lines of few orders

all_lines : (P : ℕ × ℕ → Type 0) (orders : List Sold) → All (λ o. All P o.lines) orders → All P (flat_map (λ o. o.lines) orders)
all_lines P [] all = All-nil P
all_lines P (o ∷ orders) all =
    All-append P o.lines (flat_map (λ o. o.lines) orders) (All-head (λ (o : Sold). All P o.lines) o orders all) (all_lines P orders (All-tail (λ (o : Sold). All P o.lines) o orders all))

lines_few : (orders : List Sold) → All (λ o. length o.lines ≤ lines_limit) orders → length (flat_map (λ o. o.lines) orders) ≤ 100 * length orders
lines_few [] all = omega arith
lines_few (o ∷ orders) all =
    omega (
      arith,
      length-append o.lines (flat_map (λ o. o.lines) orders),
      All-head (λ (o : Sold). length o.lines ≤ lines_limit) o orders all,
      lines_few orders (All-tail (λ (o : Sold). length o.lines ≤ lines_limit) o orders all),
    )

module _ (items : ℕ) (orders : List Sold) (kept : All (IsKept items) orders) (short : length orders ≤ recent_orders) where
  buyers_few : (item : ℕ) → length (buyers_in orders item) ≤ recent_orders
  buyers_few item =
      let of : List Sold = filter (has_item item) orders in
      omega (arith, ascending_length (map (λ o. o.customer) of), length-map of (λ (o : Sold). o.customer), filter_length (has_item item) orders, short)

  module _ (customer : ℕ) where
    abbrev own : List Sold
    own = filter (is_of customer) orders

    own_kept : All (IsKept items) own
    own_kept = All-filter (is_of customer) (IsKept items) orders kept

    own_lines : All (IsKeptLine items) (lines_in orders customer)
    own_lines = all_lines (IsKeptLine items) own (All-weaker (IsKept items) (λ (o : Sold). All (IsKeptLine items) o.lines) (λ o is. is.lines) own own_kept)

    own_short : length (lines_in orders customer) ≤ 1_000_000
    own_short =
        omega (
          arith,
          lines_few own (All-weaker (IsKept items) (λ (o : Sold). length o.lines ≤ lines_limit) (λ o is. is.few) own own_kept),
          filter_length (is_of customer) orders,
          short,
        )

    bought_named : All (λ p. Has items p.0) (bought_in orders customer)
    bought_named =
        totals_named (Has items) (lines_in orders customer)
        (All-weaker (IsKeptLine items) (λ (l : ℕ × ℕ). Has items l.0) (λ l is. record { first = is.first; last = is.last }) (lines_in orders customer) own_lines)

    bought_few : sum_by (λ p. p.1) (bought_in orders customer) ≤ 999_000_000_000_000
    bought_few =
        totals_few (lines_in orders customer) own_short
        (All-weaker (IsKeptLine items) (λ (l : ℕ × ℕ). l.1 ≤ quantity_limit) (λ l is. is.few) (lines_in orders customer) own_lines)

-- the latest orders of sound tables

sold_kept : (t : Tables) (o : OrderRow) → HasLines o → OrderNames t o → IsKept (length t.items) (sold_of o)
sold_kept t o has names = record {
  few = omega (arith, length-map {B = ℕ × ℕ} o.lines (λ l. (l.item, l.quantity)), has.few);
  lines = All-map (IsKeptLine (length t.items)) (λ (l : LineRow). (l.item, l.quantity)) o.lines
      (λ k d lt. record { first = (names.items k d lt).first; last = (names.items k d lt).last; few = (has.quantities k d lt).few });
}

module _ (t : Tables) (sound : Sound t) where
  recent_kept : All (IsKept (length t.items)) (recent t)
  recent_kept =
      let n : ℕ = length t.orders - recent_orders in
      All-map (IsKept (length t.items)) sold_of (last recent_orders t.orders)
      (All-drop (λ o. IsKept (length t.items) (sold_of o)) n t.orders (λ k d lt. sold_kept t (get_or t.orders k d) (sound.lines k d lt) (sound.names.orders k d lt)))

  recent_short : length (recent t) ≤ recent_orders
  recent_short = omega (arith, length-map (last recent_orders t.orders) sold_of, length-drop (length t.orders - recent_orders) t.orders)

  pub few_buyers : (item : ℕ) → length (buyers_in (recent t) item) ≤ recent_orders
  few_buyers item = buyers_few (length t.items) (recent t) recent_kept recent_short item

  pub named_bought : (customer : ℕ) → All (λ p. Has (length t.items) p.0) (bought_in (recent t) customer)
  named_bought customer = bought_named (length t.items) (recent t) recent_kept recent_short customer

  pub few_bought : (customer : ℕ) → sum_by (λ p. p.1) (bought_in (recent t) customer) ≤ 999_000_000_000_000
  few_bought customer = bought_few (length t.items) (recent t) recent_kept recent_short customer
