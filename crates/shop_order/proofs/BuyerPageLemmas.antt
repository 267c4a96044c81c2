-- The page of a customer who buys a cart: its lines are those of an order.
use Rattle.std.proofs.Common.{◌≡◌, ℕ, ◌+◌, ◌*◌, ◌<◌, List, [], ◌∷◌, ◌++◌, length, map, take, get_or, refl, sym, ◌∙◌, ap}
use Rattle.std.specs.List.{sum_by}
use Rattle.std.proofs.lemmas.List.{map_more}
use Rattle.std.proofs.lemmas.List.Sums.{sum_by-cons}
use Rattle.shop_model.specs.declared.tables.Tables.{Tables}
use Rattle.shop_model.specs.pages.Priced.{order_lines}
use Rattle.shop_model.specs.pages.Priced as order
use Rattle.shop_model.specs.pages.ShoppingCart as cart
use Rattle.shop_model.specs.rows.Lookups.{cost_of}
use Rattle.shop_model.specs.rows.Rows.{LineRow}
use Rattle.shop_model.specs.trade.Money as money
use Rattle.shop_attempt.specs.declared.attempts.ReadOf.{ReadOf}
use Rattle.shop_attempt.specs.Reads.{Shows}
use Rattle.shop_pricing.specs.Totals.{sum_of, units_of}
use Rattle.shop_order.specs.BuyerPage.{priced_line}
use Rattle.shop_order.specs.ShoppingCart.{AreItems}
use Rattle.shop_order.specs.Table.{cost_in}
use Rattle.shop_order.proofs.TableLemmas.{line_at, cost_at}

-- one line more, whose item was read
pub priced_more : (lines : List (ℕ × ℕ)) (items : List ReadOf) (i : ℕ) (read : ReadOf) → AreItems lines items → i < length lines → read ≡ get_or items i read
    → (priced : List (ℕ × ℕ × ℕ)) → ((t : Tables) → Shows t items → priced ≡ map (priced_line t) (take i lines))
    → (t : Tables) → Shows t items → priced ++ ((line_at lines i).0, (line_at lines i).1, cost_in read.row) ∷ [] ≡ map (priced_line t) (take (i + 1) lines)
priced_more lines items i read are within at priced so_far t shows =
    let line : ℕ × ℕ = line_at lines i in
    ap (λ (p : List (ℕ × ℕ × ℕ)). p ++ (line.0, line.1, cost_in read.row) ∷ []) (so_far t shows)
    ∙ ap (λ n. map (priced_line t) (take i lines) ++ (line.0, line.1, n) ∷ []) (sym (cost_at lines items i read are within at t shows))
    ∙ sym (map_more (priced_line t) lines i (0, 0) within)

-- the lines of the order have the same cells, and cost the same

pub cells_ordered : (t : Tables) (number : ℕ) (lines : List (ℕ × ℕ)) → map (order.line_cells t) (order_lines t number lines) ≡ map (cart.line_cells t) lines
unfolding order_lines
cells_ordered t number [] = refl
cells_ordered t number (line ∷ lines) = ap (λ (rows : List (List (List ℕ))). cart.line_cells t line ∷ rows) (cells_ordered t (number + 1) lines)

-- a line as the one of an order with this number
abbrev ordered : Tables → ℕ → ℕ × ℕ → LineRow
ordered t number line = record { number = number; item = line.0; quantity = line.1; cost = cost_of t line.0 }

sums_ordered : (t : Tables) (f : ℕ × ℕ × ℕ → ℕ) (g : LineRow → ℕ) → ((number : ℕ) (line : ℕ × ℕ) → f (priced_line t line) ≡ g (ordered t number line))
    → (number : ℕ) (lines : List (ℕ × ℕ)) → sum_by f (map (priced_line t) lines) ≡ sum_by g (order_lines t number lines)
unfolding order_lines
sums_ordered t f g same number [] = refl
sums_ordered t f g same number (line ∷ lines) =
    sum_by-cons f (priced_line t line) (map (priced_line t) lines)
    ∙ ap (λ n. n + sum_by f (map (priced_line t) lines)) (same number line)
    ∙ ap (λ n. g (ordered t number line) + n) (sums_ordered t f g same (number + 1) lines)
    ∙ sym (sum_by-cons g (ordered t number line) (order_lines t (number + 1) lines))

sum_ordered : (t : Tables) (lines : List (ℕ × ℕ)) → sum_of (map (priced_line t) lines) ≡ money.sum_of (order_lines t 1 lines)
unfolding money.sum_of
sum_ordered t lines = sums_ordered t (λ l. l.2 * l.1) (λ l. l.cost * l.quantity) (λ number line. refl) 1 lines

units_ordered : (t : Tables) (lines : List (ℕ × ℕ)) → units_of (map (priced_line t) lines) ≡ money.units_of (order_lines t 1 lines)
unfolding money.units_of
units_ordered t lines = sums_ordered t (λ l. l.1) (λ l. l.quantity) (λ number line. refl) 1 lines

-- what they come to
pub totals_ordered : (t : Tables) (lines : List (ℕ × ℕ)) (priced : List (ℕ × ℕ × ℕ)) (discount rate : ℕ) → priced ≡ map (priced_line t) lines
    → money.money (sum_of priced) (units_of priced) discount rate ≡ money.totals (order_lines t 1 lines) discount rate
totals_ordered t lines priced discount rate are =
    ap (λ (p : List (ℕ × ℕ × ℕ)). money.money (sum_of p) (units_of p) discount rate) are
    ∙ ap (λ n. money.money n (units_of (map (priced_line t) lines)) discount rate) (sum_ordered t lines)
    ∙ ap (λ n. money.money (money.sum_of (order_lines t 1 lines)) n discount rate) (units_ordered t lines)
