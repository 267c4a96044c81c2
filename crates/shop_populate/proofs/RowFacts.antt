-- What holds of each row that the shop opens with.
use Rattle.std.proofs.Common.{◌≡◌, ℕ, ◌+◌, ◌-◌, ◌*◌, ◌/◌, ◌%◌, ◌≤◌, arith, refl, mul-le-mul_left}
use Rattle.std.specs.List.{All}
use Rattle.std.proofs.lemmas.List.FromFn.{length-map-range_with_len}
use Rattle.shop_text.specs.Texts.{digsyl}
use Rattle.shop_model.specs.rows.Limits.{restocks_limit}
use Rattle.shop_model.specs.rows.Rows.{LineRow, IsCountry, IsItem, IsCustomer, IsOrder, IsLine, IsCardUse}
use Rattle.shop_model.specs.population.Scales.{ScaleRow, IsRoomy}
use Rattle.shop_model.specs.rows.Sound.{Has, HasFive, HasLines, IsCharged, IsPaid, IsQuantity}
use Rattle.shop_model.specs.population.Words.{word}
use Rattle.shop_model.specs.population.Population.{cost, srp, country_rate, country_row, address_row, customer_row, item_row, stock, order_line, line_quantity, line_item, order_lines, size, order_row, order_of, order_customer, placed, ship_day, order_word, card_of, order_address}
use Rattle.shop_model.proofs.cited.Lists.{all_rows, ids_of}
use Rattle.shop_populate.proofs.Followers.{five_follow, followers_differ, followers_are_others}

-- a part of a whole is no more than it
part_le : (a b : ℕ) → a * (100 - b) / 100 ≤ a
part_le a b =
    let m : a * (100 - b) ≤ a * 100 = mul-le-mul_left a (omega arith) in
    omega (arith, m)

cost_fits : (price off : ℕ) → cost price off ≤ 9999
unfolding cost srp
cost_fits price off = omega (arith, part_le (100 + price % 9900) (off % 51))

rate_fits : (r : ℕ) → country_rate r ≤ 1_000
unfolding country_rate
rate_fits r = omega arith

pub country_fits : (r : ℕ) → IsCountry (country_row r)
unfolding country_row
country_fits r = record { rate = rate_fits r }

-- addresses and customers
module _ (seed : ℕ) (scale : ScaleRow) where
  pub country_exists : (r : ℕ) → Has 92 (address_row seed scale r).text.country
  unfolding address_row
  country_exists r = record { first = omega arith; last = omega arith }

  pub customer_fits : (r : ℕ) → IsCustomer (customer_row seed scale r)
  unfolding customer_row
  customer_fits r = record { discount = omega arith; login = omega arith; expiry = omega arith }

  pub is_named : (r : ℕ) → (customer_row seed scale r).user ≡ digsyl (customer_row seed scale r).id
  unfolding customer_row
  is_named r = refl

  pub address_exists : IsRoomy scale → (r : ℕ) → Has scale.addresses (customer_row seed scale r).address
  unfolding customer_row
  address_exists roomy r = record { first = omega arith; last = omega arith }

-- items
module _ (seed : ℕ) (scale : ScaleRow) where
  pub item_fits : (r : ℕ) → IsItem (item_row seed scale r)
  unfolding item_row srp stock
  item_fits r = record {
    published = omega arith;
    srp = omega arith;
    cost = omega (arith, cost_fits (word seed scale 5 r 5) (word seed scale 5 r 6));
    stock = omega arith;
    first_stock = omega arith;
    restocks = omega arith;
  }

  pub restocks_low : (r : ℕ) → (item_row seed scale r).restocks + 49 * 1_000_001 ≤ restocks_limit
  unfolding item_row
  restocks_low r = omega arith

  pub author_exists : IsRoomy scale → (r : ℕ) → Has scale.authors (item_row seed scale r).author
  unfolding item_row
  author_exists roomy r = record { first = omega arith; last = omega arith }

  pub has_five : IsRoomy scale → (r : ℕ) → 1 ≤ r → r ≤ scale.items → HasFive (item_row seed scale r)
  unfolding item_row
  has_five roomy r low high = record {
    five = five_follow scale.items r;
    distinct = followers_differ scale.items r roomy.items high;
    others = followers_are_others scale.items r roomy.items low high;
  }

-- line k of an order with the words w2 and w4
module _ (seed : ℕ) (scale : ScaleRow) (w2 w4 k : ℕ) where
  line_fits : IsLine (order_line seed scale w2 w4 k)
  unfolding order_line line_quantity
  line_fits = record {
    quantity = omega arith;
    cost = (item_fits seed scale (line_item scale w2 k)).cost;
  }

  line_quantity_fits : IsQuantity (order_line seed scale w2 w4 k).quantity
  unfolding order_line line_quantity
  line_quantity_fits = record { some = omega arith; few = omega arith }

  line_item_exists : IsRoomy scale → Has scale.items (order_line seed scale w2 w4 k).item
  unfolding order_line line_item
  line_item_exists roomy = record { first = omega arith; last = omega arith }

-- orders
module _ (seed : ℕ) (scale : ScaleRow) (r : ℕ) where
  -- what holds of each line holds of all lines of an order
  all_lines : (P : LineRow → Type 0)
      → ((w2 w4 k : ℕ) → P (order_line seed scale w2 w4 k)) → All P (order_lines seed scale r)
  unfolding order_lines
  all_lines P each =
      let w : ℕ → ℕ = word seed scale 6 r in
      all_rows P (order_line seed scale (w 2) (w 4)) (size (w 1)) (λ k low high. each (w 2) (w 4) k)

  pub lines_fit : All IsLine (order_row seed scale r).lines
  unfolding order_row order_of
  lines_fit = all_lines IsLine (line_fits seed scale)

  pub has_lines : HasLines (order_row seed scale r)
  unfolding order_row order_of order_lines order_line size
  has_lines =
      let w : ℕ → ℕ = word seed scale 6 r in
      let line : ℕ → LineRow = order_line seed scale (w 2) (w 4) in
      let long = length-map-range_with_len line 1 (size (w 1)) in
      record {
        some = omega (arith, long);
        few = omega (arith, long);
        numbers = rw long (ids_of (λ l. l.number) line 1 (size (w 1)) (λ k. refl));
        quantities = all_lines (λ l. IsQuantity l.quantity) (line_quantity_fits seed scale);
      }

  pub line_items_exist : IsRoomy scale → All (λ l. Has scale.items l.item) (order_row seed scale r).lines
  unfolding order_row order_of
  line_items_exist roomy =
      all_lines (λ l. Has scale.items l.item) (λ w2 w4 k. line_item_exists seed scale w2 w4 k roomy)

  pub order_fits : IsOrder (order_row seed scale r)
  unfolding order_row order_of order_customer order_address placed ship_day
  order_fits = record {
    placed = omega arith;
    discount = (customer_fits seed scale (1 + order_word seed scale r 0 % scale.customers)).discount;
    rate = omega (arith, rate_fits (order_address seed scale r).text.country);
    ship_day = omega arith;
  }

  pub card_fits : IsCardUse (order_row seed scale r).card
  unfolding order_row order_of card_of placed
  card_fits = record { stamp = omega arith }

  pub is_charged : IsCharged (order_row seed scale r)
  unfolding order_row order_of
  is_charged = refl

  pub is_paid : IsPaid (order_row seed scale r)
  unfolding order_row order_of card_of
  is_paid = refl

  pub buyer_exists : IsRoomy scale → Has scale.customers (order_row seed scale r).customer
  unfolding order_row order_of order_customer customer_row
  buyer_exists roomy = record { first = omega arith; last = omega arith }

  pub ship_address_exists : IsRoomy scale → Has scale.addresses (order_row seed scale r).ship_address
  unfolding order_row order_of order_customer
  ship_address_exists roomy =
      address_exists seed scale roomy (1 + order_word seed scale r 0 % scale.customers)

  pub card_country_exists : Has 92 (order_row seed scale r).card.country
  unfolding order_row order_of card_of order_address
  card_country_exists = country_exists seed scale (order_customer seed scale r).address
