-- The rows of the table and their sum, from reads of the items.
use Rattle.std.proofs.Common.{◌≡◌, ℕ, ◌+◌, ◌*◌, ◌<◌, ◌≤◌, List, ◌∷◌, [], ◌++◌, length, map, take, get_or, Option, Some, None, option_map, unwrap_or, refl, sym, ◌∙◌, ap, arith}
use Rattle.std.specs.List.{sum_by, flat_map}
use Rattle.std.proofs.Math.Nat.{mul-le-mul}
use Rattle.std.proofs.lemmas.List.{append-nil, length-map, get_or-map, map_more}
use Rattle.std.proofs.lemmas.List.Sums.{sum_by_more}
use Rattle.shop_model.specs.declared.tables.Tables.{Tables}
use Rattle.shop_model.specs.pages.Priced.{priced_cells}
use Rattle.shop_model.specs.pages.ShoppingCart.{line_cells, line_cost}
use Rattle.shop_model.specs.rows.Lookups.{row_numbered, title_of, cost_of}
use Rattle.shop_model.specs.pages.PageText.{row_text}
use Rattle.shop_model.specs.rows.Rows.{ItemRow}
use Rattle.shop_history.specs.declared.keys.Key.{Key}
use Rattle.shop_history.specs.declared.keys.Key.TheVariants as key
use Rattle.shop_history.specs.declared.keys.Row.{Row}
use Rattle.shop_history.specs.declared.keys.Row.TheVariants as row
use Rattle.shop_history.specs.Keys.{row_of, shown}
use Rattle.shop_draft.proofs.cited.PageTexts.{both}
use Rattle.shop_attempt.specs.declared.attempts.ReadOf.{ReadOf}
use Rattle.shop_attempt.specs.Reads.{Shows}
use Rattle.shop_attempt.proofs.cited.Looks.{shows_at}
use Rattle.shop_order.specs.ShoppingCart.{AreItems}
use Rattle.shop_order.specs.Table.{title_in, cost_in, cells_in}

-- what a row says of its item

title_shown : (o : Option ItemRow) → unwrap_or (option_map (λ i. i.title) o) [] ≡ title_in (shown row.Item o)
title_shown None = refl
title_shown (Some item) = refl

cost_shown : (o : Option ItemRow) → unwrap_or (option_map (λ i. i.cost) o) 0 ≡ cost_in (shown row.Item o)
cost_shown None = refl
cost_shown (Some item) = refl

cells_shown : (t : Tables) (line : ℕ × ℕ) (r : Row) → row_of t (key.Item line.0) ≡ r → line_cells t line ≡ cells_in line r
unfolding priced_cells
cells_shown t line r is =
    let title : title_of t line.0 ≡ title_in r = title_shown (row_numbered t.items line.0) ∙ ap title_in is in
    let cost : cost_of t line.0 ≡ cost_in r = cost_shown (row_numbered t.items line.0) ∙ ap cost_in is in
    rw (title, cost) refl

-- the line at a place
abbrev pub line_at : List (ℕ × ℕ) → ℕ → ℕ × ℕ
line_at lines i = get_or lines i (0, 0)

-- one line more, whose item was read
module _ (lines : List (ℕ × ℕ)) (items : List ReadOf) (i : ℕ) (read : ReadOf) (are : AreItems lines items) (within : i < length lines) (at : read ≡ get_or items i read) where
  pub item_shown : (t : Tables) → Shows t items → row_of t (key.Item (line_at lines i).0) ≡ read.row
  item_shown t shows =
      let key_of : ℕ × ℕ → Key = λ l. key.Item l.0 in
      let behind : i < length items
      = omega (arith, within, sym (length-map items (λ (r : ReadOf). r.key)) ∙ ap length are ∙ length-map lines key_of) in
      let key_is : read.key ≡ key_of (line_at lines i)
      = ap (λ (r : ReadOf). r.key) at
      ∙ sym (get_or-map (λ (r : ReadOf). r.key) items i read read.key behind)
      ∙ ap (λ (keys : List Key). get_or keys i read.key) are
      ∙ get_or-map key_of lines i (0, 0) read.key within in
      ap (row_of t) (sym key_is) ∙ shows_at t items i read behind at shows

  -- what one unit of it costs
  pub cost_at : (t : Tables) → Shows t items → cost_of t (line_at lines i).0 ≡ cost_in read.row
  cost_at t shows = cost_shown (row_numbered t.items (line_at lines i).0) ∙ ap cost_in (item_shown t shows)

  pub rows_more : (old rows new : List ℕ) → new ≡ rows ++ row_text (cells_in (line_at lines i) read.row)
      → (t : Tables) → Shows t items → rows ≡ old ++ flat_map row_text (map (line_cells t) (take i lines)) → new ≡ old ++ flat_map row_text (map (line_cells t) (take (i + 1) lines))
  rows_more old rows new added t shows so_far =
      let first : List (List (List ℕ)) = map (line_cells t) (take i lines) in
      let cells : List (List ℕ) = cells_in (line_at lines i) read.row in
      let one : line_cells t (line_at lines i) ≡ cells = cells_shown t (line_at lines i) read.row (item_shown t shows) in
      let more : map (line_cells t) (take (i + 1) lines) ≡ first ++ cells ∷ []
      = map_more (line_cells t) lines i (0, 0) within ∙ ap (λ (c : List (List ℕ)). first ++ c ∷ []) one in
      both row_text first (cells ∷ []) old rows new so_far (added ∙ ap (λ (l : List ℕ). rows ++ l) (sym (append-nil (row_text cells))))
      ∙ ap (λ (r : List (List (List ℕ))). old ++ flat_map row_text r) (sym more)

  pub sum_more : (sum cost : ℕ) → cost ≡ cost_in read.row * (line_at lines i).1 → ((t : Tables) → Shows t items → sum ≡ sum_by (line_cost t) (take i lines))
      → (t : Tables) → Shows t items → sum + cost ≡ sum_by (line_cost t) (take (i + 1) lines)
  sum_more sum cost cost_is so_far t shows =
      ap (λ n. n + cost) (so_far t shows)
      ∙ ap (λ n. sum_by (line_cost t) (take i lines) + n) (cost_is ∙ ap (λ n. n * (line_at lines i).1) (sym (cost_at t shows)))
      ∙ sym (sum_by_more (line_cost t) lines i (0, 0) within)

-- a hundred lines of 999 units fit
pub cost_bound : (cost quantity : ℕ) → cost ≤ 999_999 → quantity ≤ 999 → cost * quantity ≤ 998_999_001
cost_bound cost quantity cheap few = mul-le-mul cheap few
