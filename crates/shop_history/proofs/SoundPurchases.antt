-- Sound tables stay sound as a customer buys a cart.
use Rattle.std.proofs.Common.{◌≡◌, ℕ, suc, ◌+◌, ◌-◌, ◌*◌, ◌^◌, ◌<◌, ◌≤◌, List, [], ◌∷◌, length, map, All, Option, Some, None, IfSome, option_map, unwrap_or, get_or, refl, sym, ◌∙◌, ap, subst, arith, length-append, slice_set}
use Rattle.std.specs.List.{range_with_len}
use Rattle.std.proofs.lemmas.List.{length-map, length-set}
use Rattle.std.proofs.lemmas.List.Elements.{All-map}
use Rattle.std.proofs.lemmas.Option.{slice_get_within}
use Rattle.shop_model.specs.declared.address.Address.{Address}
use Rattle.shop_model.specs.declared.address.AddressText.{AddressText}
use Rattle.shop_model.specs.declared.tables.Tables.{Tables}
use Rattle.shop_model.specs.declared.tax.TaxRule.{TaxRule}
use Rattle.shop_model.specs.declared.tax.TaxRule.TheVariants.{Flat, ByCountry}
use Rattle.shop_model.specs.asked.CustomersAsked.{IsAddressAsked}
use Rattle.shop_model.specs.asked.PurchaseAsked.{PurchaseAsked, IsPurchaseAsked}
use Rattle.shop_model.specs.rows.Limits.{stamp_limit, price_limit, rate_limit, charged_rate_limit, restocks_limit}
use Rattle.shop_model.specs.rows.Lookups.{row_numbered, cost_of, rate_of}
use Rattle.shop_model.specs.rows.Rows.{ItemRow, CountryRow, CustomerRow, CartRow, LineRow, OrderRow, IsCountry, IsItem, IsLine, IsCustomer}
use Rattle.shop_model.specs.rows.Sound.{Sound, Room, Has, IsQuantity, IsStocked, units_in}
use Rattle.shop_model.specs.trade.Buyers.{says_same, address_saying, addresses_with}
use Rattle.shop_model.specs.trade.Money.{totals}
use Rattle.shop_model.specs.trade.Sales.{Terms, bought_lines, ship_addresses, ship_id, ship_country, sale_rate, order_for, new_order, sold_item, with_order, with_purchase}
use Rattle.shop_model.specs.trade.Taxes.{rate_by}
use Rattle.shop_model.specs.pages.Priced.{order_lines}
use Rattle.shop_model.proofs.cited.Restocking.{IsRestocked, restocked}
use Rattle.shop_history.proofs.Lines.{AreFit, none_fit}
use Rattle.shop_history.proofs.OrderLines.{lines_length, lines_numbered, lines_all, units_few}
use Rattle.shop_history.proofs.SoundCarts.{AreSound, carts_sound, sound_with, set_sound}
use Rattle.shop_history.proofs.SoundCustomers.{shared_sound, address_there}
use Rattle.shop_history.proofs.SoundSales.{IsNext, sold_sound}
use Rattle.shop_history.proofs.cited.Places.{IsThere, is_there, some_row, all_numbered, id_numbered}

-- what an item costs is bounded, also where there is none
cost_bound : (t : Tables) → Sound t → (item : ℕ) → cost_of t item ≤ price_limit
cost_bound t sound item = by (row_numbered t.items item) refl
  where
    by : (row : Option ItemRow) → row_numbered t.items item ≡ row → unwrap_or (option_map (λ i. i.cost) row) 0 ≤ price_limit
    by None is = omega arith
    by (Some i) is = (all_numbered IsItem t.items item i is sound.bounds.items).cost

-- so is the rate of a country, and the rate by which a purchase is taxed
rate_bound : (t : Tables) → Sound t → (country : ℕ) → rate_of t country ≤ rate_limit
rate_bound t sound country = by (row_numbered t.countries country) refl
  where
    by : (row : Option CountryRow) → row_numbered t.countries country ≡ row → unwrap_or (option_map (λ c. c.rate) row) 0 ≤ rate_limit
    by None is = omega arith
    by (Some c) is = (all_numbered IsCountry t.countries country c is sound.bounds.countries).rate

charged_rate_bound : (t : Tables) → Sound t → (tax : TaxRule) (country : ℕ) → rate_by tax t country ≤ charged_rate_limit
charged_rate_bound t sound Flat country = omega arith
charged_rate_bound t sound ByCountry country = omega (arith, rate_bound t sound country)

module _ (t : Tables) (sound : Sound t) (asked : PurchaseAsked) (form : IsPurchaseAsked asked) (stamp draw : ℕ) (terms : Terms) (bound : stamp ≤ stamp_limit) (customer : CustomerRow) (cart : CartRow)
    (buys : row_numbered t.customers asked.c ≡ Some customer) (bought : row_numbered t.carts asked.cart ≡ Some cart) (some : 1 ≤ length cart.lines) (room : length t.addresses + 1 < 2 ^ 32) where
  fit : AreFit (length t.items) cart.lines
  fit = all_numbered (λ (c : CartRow). AreFit (length t.items) c.lines) t.carts asked.cart cart bought (carts_sound t sound).fit

  abbrev lines : List LineRow
  lines = order_lines t 1 cart.lines

  lines_are : bought_lines t asked.cart ≡ lines
  lines_are = ap (λ (c : Option CartRow). order_lines t 1 (unwrap_or (option_map (λ c. c.lines) c) [])) bought

  -- the address comes first
  abbrev with_address : Tables
  with_address = record t { addresses = ship_addresses t asked.address }

  address_sound : (address : Option AddressText) → IfSome address IsAddressAsked → Sound (record t { addresses = ship_addresses t address })
  address_sound None is = sound
  address_sound (Some text) is = shared_sound t text (address_saying t text) room is sound

  -- the order, for these lines
  abbrev made : List LineRow → OrderRow
  made ls = order_for t stamp draw terms asked customer ls (totals ls customer.discount (sale_rate t terms.tax customer asked))

  has_customer : Has (length t.customers) customer.id
  has_customer =
      let there : IsThere t.customers asked.c customer = is_there t.customers asked.c customer buys in
      let id : customer.id ≡ asked.c = id_numbered (λ (c : CustomerRow). c.id) t.customers asked.c customer sound.ids.customers buys in
      record { first = omega (arith, id, there.above); last = omega (arith, id, there.above, slice_get_within t.customers (asked.c - 1) customer there.at) }

  -- where it ships to is there

  has_address : Has (length t.addresses) customer.address
  has_address = all_numbered (λ (c : CustomerRow). Has (length t.addresses) c.address) t.customers asked.c customer buys sound.names.customers

  ship_there : (address : Option AddressText) → Has (length (ship_addresses t address)) (ship_id t customer address)
  ship_there None = has_address
  ship_there (Some text) = address_there (λ a. says_same a.text text) t text (address_saying t text) sound refl

  country_there : (address : Option AddressText) → IfSome address IsAddressAsked → Has (length t.countries) (ship_country t customer address)
  country_there None is =
      let row = some_row t.addresses customer.address has_address in
      subst (λ (o : Option Address). Has (length t.countries) (unwrap_or (option_map (λ a. a.text.country) o) 0)) (sym row.1)
      (all_numbered (λ (a : Address). Has (length t.countries) a.text.country) t.addresses customer.address row.0 row.1 sound.names.addresses)
  country_there (Some text) is = record { first = is.country.first; last = omega (arith, is.country.last, sound.countries) }

  -- it may come next
  next : IsNext with_address (made lines)
  next = record {
    id = refl;
    lines = record {
      some = omega (arith, some, lines_length t 1 cart.lines);
      few = omega (arith, fit.few, lines_length t 1 cart.lines);
      numbers = lines_numbered t 1 cart.lines ∙ ap (range_with_len 1) (sym (lines_length t 1 cart.lines));
      quantities = lines_all t (λ l. IsQuantity l.quantity) (λ l. IsQuantity l.1) (λ number line is. is) 1 cart.lines fit.quantities;
    };
    charges = refl;
    payment = refl;
    names = record {
      customer = has_customer;
      ship_address = ship_there asked.address;
      country = country_there asked.address form.address;
      items = lines_all t (λ l. Has (length t.items) l.item) (λ l. Has (length t.items) l.0) (λ number line is. is) 1 cart.lines fit.exist;
    };
    few = λ item. units_few t item 1 cart.lines fit.distinct fit.quantities;
    bounds = record {
      placed = bound;
      discount = (all_numbered IsCustomer t.customers asked.c customer buys sound.bounds.customers).discount;
      rate = charged_rate_bound t sound terms.tax (ship_country t customer asked.address);
      ship_day = omega arith;
    };
    line_bounds = lines_all t IsLine (λ l. IsQuantity l.1) (λ number line is. record { quantity = is.few; cost = cost_bound t sound line.0 }) 1 cart.lines fit.quantities;
    card_bounds = record { stamp = bound };
  }

  abbrev order : OrderRow
  order = new_order t stamp draw terms asked customer

  comes_next : IsNext with_address order
  comes_next = subst (λ ls. IsNext with_address (made ls)) (sym lines_are) next

  abbrev sold : Tables
  sold = with_order with_address order

  abbrev emptied : CartRow
  emptied = record { id = asked.cart; lines = [] }

  carts_emptied : AreSound (length sold.items) (slice_set t.carts (asked.cart - 1) emptied)
  carts_emptied =
      subst (λ n. AreSound n (slice_set t.carts (asked.cart - 1) emptied)) (sym (length-map t.items (sold_item order)))
      (set_sound (length t.items) t.carts cart emptied bought (none_fit (length t.items)) (carts_sound t sound))

  module _ (fits : length t.orders + 1 < 2 ^ 32) (roomy : All (λ i. i.restocks + 49 ≤ restocks_limit) t.items) where
    pub purchase_sound : Sound (with_purchase t asked order)
    purchase_sound = sound_with sold (slice_set t.carts (asked.cart - 1) emptied) carts_emptied (sold_sound with_address (address_sound asked.address form.address) fits roomy order comes_next)

  address_more : (address : Option AddressText) → length (ship_addresses t address) ≤ length t.addresses + 1
  address_more None = omega arith
  address_more (Some text) = addresses_more (address_saying t text)
    where
      addresses_more : (same : Option Address) → length (addresses_with t.addresses text same) ≤ length t.addresses + 1
      addresses_more None = omega (arith, length-append t.addresses (record { id = length t.addresses + 1; text = text } ∷ []))
      addresses_more (Some same) = omega arith

  restocks_more : (more : ℕ) → All (λ i. i.restocks + 49 * suc more ≤ restocks_limit) t.items → All (λ i. i.restocks + 49 * more ≤ restocks_limit) (map (sold_item order) t.items)
  restocks_more more had =
      All-map (λ (i : ItemRow). i.restocks + 49 * more ≤ restocks_limit) (sold_item order) t.items
      (λ k d within.
      let i : ItemRow = get_or t.items k d in
      let roomy : i.restocks + 49 * suc more ≤ restocks_limit = had k d within in
      let low : IsStocked t i = sound.stock k d within in
      let after : IsRestocked i.stock (units_in i.id order.lines) = restocked i.stock (units_in i.id order.lines) low.low in
      omega (arith, roomy, after.few (comes_next.few i.id)))

  pub purchase_room : (more : ℕ) → Room t (suc more) → Room (with_purchase t asked order) more
  purchase_room more had = record {
    countries = omega (arith, had.countries);
    addresses = omega (arith, had.addresses, address_more asked.address);
    customers = omega (arith, had.customers);
    authors = omega (arith, had.authors);
    items = omega (arith, had.items, length-map t.items (sold_item order));
    orders = omega (arith, had.orders, length-append t.orders (order ∷ []));
    carts = omega (arith, had.carts, length-set t.carts (asked.cart - 1) emptied);
    restocks = restocks_more more had.restocks;
  }
