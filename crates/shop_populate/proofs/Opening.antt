-- The tables that the shop opens with are sound, and have room.
use Rattle.std.proofs.Common.{◌≡◌, ℕ, ◌+◌, ◌*◌, ◌^◌, ◌<◌, ◌≤◌, length, map, arith, refl, nat_lt, Bool, Option, IfSome, sym}
use Rattle.std.specs.List.{All}
use Rattle.std.proofs.lemmas.Bool.{le-ltb}
use Rattle.std.proofs.lemmas.List.FromFn.{length-map-range_with_len, length-range_with_len}
use Rattle.shop_text.specs.Texts.{digsyl}
use Rattle.shop_model.specs.declared.address.Address.{Address}
use Rattle.shop_model.specs.rows.Limits.{restocks_limit}
use Rattle.shop_model.specs.rows.Rows.{CustomerRow, ItemRow, OrderRow, IsCountry, IsItem, IsCustomer, IsOrder, IsLine, IsCardUse}
use Rattle.shop_model.specs.population.Scales.{ScaleRow, IsRoomy, IsScale}
use Rattle.shop_model.specs.rows.Sound.{Has, OrderNames, NamesExist, HasLines, IsCharged, IsPaid, IsStocked, HasFive, Runs, IdsRun, InBounds, Sound, Room, sold, last_of}
use Rattle.shop_model.specs.population.Population.{rows, populated, orders_table, order_row, order_of, item_row, stock, lasts_table, customers_table, customer_row, items_table, countries_table, addresses_table, authors_table, country_row, address_row, author_row}
use Rattle.shop_model.proofs.cited.Lists.{all_rows, ids_of, map_rows, none_passes}
use Rattle.shop_model.proofs.cited.Scales.{is_roomy}
use Rattle.shop_populate.proofs.Followers.{followers_exist}
use Rattle.shop_populate.proofs.LastExists.{last_exists}
use Rattle.shop_populate.proofs.RowFacts as row

-- rows that keep their numbers have ids that run from 1
runs : {X : Type 0} (id : X → ℕ) (f : ℕ → X) (n : ℕ)
    → ((r : ℕ) → id (f r) ≡ r) → n < 2 ^ 32 → Runs (map id (rows f n))
runs id f n same fits = rw (ids_of id f 1 n same) (record {
  from_one = rw length-range_with_len;
  fits = rw length-range_with_len fits;
})

-- what holds of the row of each number holds of all rows
every : {X : Type 0} (P : X → Type 0) (f : ℕ → X) (n : ℕ) → ((r : ℕ) → P (f r)) → All P (rows f n)
every P f n each = all_rows P f n (λ r low high. each r)

-- the ids that rows name exist in a table of as many rows
all_exist : {X Y : Type 0} (f : ℕ → X) (n : ℕ) (named : X → ℕ) (g : ℕ → Y) (m : ℕ)
    → ((r : ℕ) → Has m (named (f r)))
    → All (λ x. Has (length (rows g m)) (named x)) (rows f n)
all_exist f n named g m each =
    every (λ x. Has (length (rows g m)) (named x)) f n (λ r. rw length-map-range_with_len (each r))

module _ (seed : ℕ) (scale : ScaleRow) where
  -- no order that the shop opens with is a sale
  nothing_sold : (item : ℕ) → sold (populated seed scale) item ≡ 0
  unfolding populated orders_table order_row order_of
  nothing_sold item =
      let order : ℕ → OrderRow = order_row seed scale in
      let late : OrderRow → Bool = λ o. nat_lt scale.orders o.id in
      rw (none_passes late order 1 scale.orders (λ r below. le-ltb scale.orders r (omega arith)))

  stocked : (r : ℕ) → IsStocked (populated seed scale) (item_row seed scale r)
  unfolding item_row stock
  stocked r = record { level = rw (nothing_sold r) (omega arith); low = omega arith }

  -- the last order of each customer exists
  last_known : (customer : ℕ)
      → IfSome (last_of (orders_table seed scale) customer) (Has (length (orders_table seed scale)))
  unfolding orders_table order_row order_of
  last_known customer =
      let size : ℕ = length (orders_table seed scale) in
      last_exists size customer (orders_table seed scale)
      (all_rows (λ o. Has size o.id) (order_row seed scale) scale.orders (λ r low high.
      rw length-map-range_with_len (record { first = low; last = high })))

  lasts_are : lasts_table seed scale
      ≡ map (λ c. last_of (orders_table seed scale) c.id) (customers_table seed scale)
  unfolding lasts_table customers_table customer_row
  lasts_are =
      let last : ℕ → Option ℕ = last_of (orders_table seed scale) in
      sym (map_rows (λ c. last c.id) (customer_row seed scale) last 1 scale.customers (λ r. refl))

  in_bounds : InBounds (populated seed scale)
  unfolding populated countries_table customers_table items_table orders_table
  in_bounds =
      let order : ℕ → OrderRow = order_row seed scale in
      record {
        countries = every IsCountry country_row 92 row.country_fits;
        customers = every IsCustomer (customer_row seed scale) scale.customers (row.customer_fits seed scale);
        items = every IsItem (item_row seed scale) scale.items (row.item_fits seed scale);
        orders = every IsOrder order scale.orders (row.order_fits seed scale);
        lines = every (λ o. All IsLine o.lines) order scale.orders (row.lines_fit seed scale);
        cards = every (λ o. IsCardUse o.card) order scale.orders (row.card_fits seed scale);
        carts = λ k d within. absurd (omega arith);
      }

module _ (seed : ℕ) (scale : ScaleRow) (it : IsScale scale) where
  ids_run : IdsRun (populated seed scale)
  unfolding populated countries_table addresses_table customers_table authors_table items_table orders_table country_row address_row customer_row author_row item_row order_row order_of
  ids_run =
      let roomy : IsRoomy scale = is_roomy scale it in
      record {
        countries = runs (λ c. c.id) country_row 92 (λ r. refl) (omega arith);
        addresses = runs (λ a. a.id) (address_row seed scale) scale.addresses (λ r. refl) (omega arith);
        customers = runs (λ c. c.id) (customer_row seed scale) scale.customers (λ r. refl) (omega arith);
        authors = runs (λ a. a.id) (author_row seed scale) scale.authors (λ r. refl) (omega arith);
        items = runs (λ i. i.id) (item_row seed scale) scale.items (λ r. refl) (omega arith);
        orders = runs (λ o. o.id) (order_row seed scale) scale.orders (λ r. refl) (omega arith);
        carts = record { from_one = refl; fits = omega arith };
      }

  order_names : (r : ℕ) → OrderNames (populated seed scale) (order_row seed scale r)
  unfolding populated countries_table addresses_table customers_table items_table
  order_names r =
      let roomy : IsRoomy scale = is_roomy scale it in
      record {
        customer = rw length-map-range_with_len (row.buyer_exists seed scale r roomy);
        ship_address = rw length-map-range_with_len (row.ship_address_exists seed scale r roomy);
        country = rw length-map-range_with_len (row.card_country_exists seed scale r);
        items = rw length-map-range_with_len (row.line_items_exist seed scale r roomy);
      }

  related_exist : (r : ℕ) → All (Has (length (items_table seed scale))) (item_row seed scale r).related
  unfolding items_table item_row
  related_exist r =
      let roomy : IsRoomy scale = is_roomy scale it in
      rw length-map-range_with_len (followers_exist scale.items r (omega arith))

  names_exist : NamesExist (populated seed scale)
  unfolding populated countries_table addresses_table customers_table authors_table items_table orders_table lasts_table
  names_exist =
      let roomy : IsRoomy scale = is_roomy scale it in
      let address : ℕ → Address = address_row seed scale in
      let customer : ℕ → CustomerRow = customer_row seed scale in
      let item : ℕ → ItemRow = item_row seed scale in
      record {
        addresses =
            all_exist address scale.addresses (λ a. a.text.country) country_row 92 (row.country_exists seed scale);
        customers =
            all_exist customer scale.customers (λ c. c.address) address scale.addresses
            (row.address_exists seed scale roomy);
        authors = record {
          authors =
              all_exist item scale.items (λ i. i.author) (author_row seed scale) scale.authors
              (row.author_exists seed scale roomy);
        };
        related = every (λ i. All (Has (length (items_table seed scale))) i.related) item scale.items related_exist;
        orders = every (OrderNames (populated seed scale)) (order_row seed scale) scale.orders order_names;
        carts = λ k d within. absurd (omega arith);
        last =
            every (λ o. IfSome o (Has (length (orders_table seed scale)))) (last_of (orders_table seed scale))
            scale.customers (last_known seed scale);
      }

  pub is_sound : Sound (populated seed scale)
  unfolding populated countries_table customers_table items_table orders_table
  is_sound =
      let roomy : IsRoomy scale = is_roomy scale it in
      let item : ℕ → ItemRow = item_row seed scale in
      let order : ℕ → OrderRow = order_row seed scale in
      record {
        lines = every HasLines order scale.orders (row.has_lines seed scale);
        charges = every IsCharged order scale.orders (row.is_charged seed scale);
        payments = every IsPaid order scale.orders (row.is_paid seed scale);
        stock = every (IsStocked (populated seed scale)) item scale.items (stocked seed scale);
        names = names_exist;
        related = all_rows HasFive item scale.items (row.has_five seed scale roomy);
        users = every (λ c. c.user ≡ digsyl c.id) (customer_row seed scale) scale.customers (row.is_named seed scale);
        ids = ids_run;
        carts = λ k d within. absurd (omega arith);
        last = lasts_are seed scale;
        bounds = in_bounds seed scale;
        countries = length-map-range_with_len country_row 1 92;
        six = rw length-map-range_with_len roomy.items;
        born = omega (arith, length-map-range_with_len order 1 scale.orders);
        born_items = omega (arith, length-map-range_with_len item 1 scale.items);
      }

  pub has_room : Room (populated seed scale) 1_000_001
  unfolding populated countries_table addresses_table customers_table authors_table items_table orders_table
  has_room =
      let roomy : IsRoomy scale = is_roomy scale it in
      record {
        countries = omega arith;
        addresses = rw length-map-range_with_len (omega arith);
        customers = rw length-map-range_with_len (omega arith);
        authors = rw length-map-range_with_len (omega arith);
        items = rw length-map-range_with_len (omega arith);
        orders = rw length-map-range_with_len (omega arith);
        carts = omega arith;
        restocks =
            every (λ i. i.restocks + 49 * 1_000_001 ≤ restocks_limit) (item_row seed scale) scale.items
            (row.restocks_low seed scale);
      }

  pub all_born : (populated seed scale).born_orders ≡ length (populated seed scale).orders
  unfolding populated orders_table
  all_born = sym (length-map-range_with_len (order_row seed scale) 1 scale.orders)

  pub all_born_items : (populated seed scale).born_items ≡ length (populated seed scale).items
  unfolding populated items_table
  all_born_items = sym (length-map-range_with_len (item_row seed scale) 1 scale.items)

  -- what the table of the last orders asks of the orders

  pub orders_run : Runs (map (λ o. o.id) (orders_table seed scale))
  unfolding populated
  orders_run = ids_run.orders

  pub buyers_exist : All (λ o. Has scale.customers o.customer) (orders_table seed scale)
  unfolding orders_table
  buyers_exist =
      let roomy : IsRoomy scale = is_roomy scale it in
      every (λ o. Has scale.customers o.customer) (order_row seed scale) scale.orders
      (λ r. row.buyer_exists seed scale r roomy)
