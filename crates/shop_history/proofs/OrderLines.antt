-- The lines of an order that are made from those of a cart.
use Rattle.std.proofs.Common.{◌≡◌, ◌≢◌, ℕ, suc, ◌+◌, ◌≤◌, ◌==◌, Bool, true, false, eqb, List, [], ◌∷◌, length, map, filter, All, AllPairs, refl, sym, ap, subst, arith}
use Rattle.std.specs.List.{range_with_len}
use Rattle.std.proofs.lemmas.Bool.{eqb-true, ne_eqb}
use Rattle.std.proofs.lemmas.List.Sums.{sum_by-cons}
use Rattle.std.proofs.lemmas.List.Elements.{All-nil, All-cons, All-head, All-tail}
use Rattle.shop_model.specs.declared.tables.Tables.{Tables}
use Rattle.shop_model.specs.rows.Limits.{quantity_limit}
use Rattle.shop_model.specs.rows.Lookups.{cost_of}
use Rattle.shop_model.specs.rows.Rows.{LineRow}
use Rattle.shop_model.specs.rows.Sound.{IsQuantity, units_in}
use Rattle.shop_model.specs.pages.Priced.{order_lines}
use Rattle.shop_history.proofs.Lines.{Apart}

module _ (t : Tables) where
  -- a line of a cart as one of an order, with this number
  abbrev as_line : ℕ → ℕ × ℕ → LineRow
  as_line number line = record { number = number; item = line.0; quantity = line.1; cost = cost_of t line.0 }

  pub lines_length : (number : ℕ) (lines : List (ℕ × ℕ)) → length (order_lines t number lines) ≡ length lines
  unfolding order_lines
  lines_length number [] = refl
  lines_length number (line ∷ lines) = ap suc (lines_length (number + 1) lines)

  pub lines_numbered : (number : ℕ) (lines : List (ℕ × ℕ)) → map (λ l. l.number) (order_lines t number lines) ≡ range_with_len number (length lines)
  unfolding order_lines
  lines_numbered number [] = refl
  lines_numbered number (line ∷ lines) = ap (λ numbers. number ∷ numbers) (lines_numbered (number + 1) lines)

  -- what holds of each line of the cart holds of each of the order
  pub lines_all : (P : LineRow → Type 0) (Q : ℕ × ℕ → Type 0) → ((number : ℕ) (line : ℕ × ℕ) → Q line → P (as_line number line))
      → (number : ℕ) (lines : List (ℕ × ℕ)) → All Q lines → All P (order_lines t number lines)
  unfolding order_lines
  lines_all P Q each number [] all = All-nil P
  lines_all P Q each number (line ∷ lines) all =
      All-cons P (as_line number line) (order_lines t (number + 1) lines) (each number line (All-head Q line lines all)) (lines_all P Q each (number + 1) lines (All-tail Q line lines all))

  -- of an item that no line is of there are no units
  units_none : (item number : ℕ) (lines : List (ℕ × ℕ)) → All (λ l. item ≢ l.0) lines → units_in item (order_lines t number lines) ≡ 0
  unfolding order_lines
  units_none item number [] others = refl
  units_none item number (line ∷ lines) others =
      let here : item ≢ line.0 = All-head (λ (l : ℕ × ℕ). item ≢ l.0) line lines others in
      rw (ne_eqb line.0 item (λ same. here (sym same)))
      (units_none item (number + 1) lines (All-tail (λ (l : ℕ × ℕ). item ≢ l.0) line lines others))

  -- of each item there are no more units than a line may have
  pub units_few : (item number : ℕ) (lines : List (ℕ × ℕ)) → AllPairs Apart lines → All (λ l. IsQuantity l.1) lines → units_in item (order_lines t number lines) ≤ quantity_limit
  unfolding order_lines
  units_few item number [] distinct quantities = omega arith
  units_few item number (line ∷ lines) distinct quantities =
      by (eqb line.0 item) refl
      (units_few item (number + 1) lines (λ i j d lt within. distinct (suc i) (suc j) d (omega arith) (omega arith)) (All-tail (λ (l : ℕ × ℕ). IsQuantity l.1) line lines quantities))
    where
      head : All (Apart line) lines
      head = λ k d within. distinct 0 (suc k) d (omega arith) (omega arith)

      by : (b : Bool) → eqb line.0 item ≡ b → units_in item (order_lines t (number + 1) lines) ≤ quantity_limit → units_in item (order_lines t number (line ∷ lines)) ≤ quantity_limit
      by true same rest =
          let item_is : line.0 ≡ item = eqb-true line.0 item same in
          let none : units_in item (order_lines t (number + 1) lines) ≡ 0 = units_none item (number + 1) lines (subst (λ i. All (λ l. i ≢ l.0) lines) item_is head) in
          let quantity : IsQuantity line.1 = All-head (λ (l : ℕ × ℕ). IsQuantity l.1) line lines quantities in
          let here : LineRow = as_line number line in
          let rest_lines : List LineRow = filter (λ (l : LineRow). l.item == item) (order_lines t (number + 1) lines) in
          rw same (omega (arith, none, quantity.few, sum_by-cons (λ (l : LineRow). l.quantity) here rest_lines))
      by false apart rest = rw apart rest
