-- The writes of a purchase make what the purchase makes, and its page is that of the order.
use Rattle.std.proofs.Common.{◌≡◌, ◌≢◌, ℕ, ◌+◌, ◌-◌, ◌%◌, ◌≤◌, min, List, [], ◌∷◌, ◌++◌, length, All, AllPairs, Option, Some, None, option_map, unwrap_or, slice_set, refl, sym, ◌∙◌, ap, subst, arith, length-append}
use Rattle.std.proofs.lemmas.Bool.{cond-false, ne_eqb}
use Rattle.shop_model.specs.declared.address.Address.{Address}
use Rattle.shop_model.specs.declared.address.AddressText.{AddressText}
use Rattle.shop_model.specs.declared.order_state.OrderState.TheVariants.{Pending}
use Rattle.shop_model.specs.declared.tables.Tables.{Tables}
use Rattle.shop_model.specs.declared.tax.TaxRule.{TaxRule}
use Rattle.shop_model.specs.declared.tax.TaxRule.TheVariants.{Flat, ByCountry}
use Rattle.shop_model.specs.asked.PurchaseAsked.{PurchaseAsked}
use Rattle.shop_model.specs.pages.BuyConfirm.{confirm_page, purchase_ids}
use Rattle.shop_model.specs.pages.Priced.{order_lines}
use Rattle.shop_model.specs.rows.Limits.{day_of, day_limit}
use Rattle.shop_model.specs.rows.Lookups.{row_numbered}
use Rattle.shop_model.specs.rows.Rows.{CartRow, CustomerRow, LineRow, OrderRow}
use Rattle.shop_model.specs.rows.Sound.{Sound, Room, Has, IsQuantity}
use Rattle.shop_model.specs.trade.Buyers.{address_saying, says_same, addresses_with, address_id, check_bought}
use Rattle.shop_model.specs.trade.Carts.{first_of}
use Rattle.shop_model.specs.trade.Money as money
use Rattle.shop_model.specs.trade.Money.{Money}
use Rattle.shop_model.specs.trade.Sales.{Terms, check_known, check_purchase, bought_lines, ship_addresses, ship_id, ship_country, sale_rate, price_of, new_order, with_purchase, tables_bought}
use Rattle.shop_model.specs.trade.Taxes.{rate_by}
use Rattle.shop_edges.specs.declared.charge.Call.{Call}
use Rattle.shop_edges.specs.Charges.{charge_to, cents_due, charge_due}
use Rattle.shop_history.specs.declared.acts.Drawn.{Drawn}
use Rattle.shop_history.specs.declared.keys.Key.TheVariants as key
use Rattle.shop_history.specs.declared.keys.Row.{Row}
use Rattle.shop_history.specs.declared.keys.Row.TheVariants as row
use Rattle.shop_history.specs.Acts.{purchase_page}
use Rattle.shop_history.specs.Keys.{row_of, shown}
use Rattle.shop_history.proofs.cited.Found.{found_has}
use Rattle.shop_history.proofs.cited.Places.{is_there, all_numbered}
use Rattle.shop_draft.specs.Drawing.{or_zero}
use Rattle.shop_attempt.specs.declared.attempts.ReadOf.{ReadOf}
use Rattle.shop_attempt.specs.declared.attempts.Write.{Write}
use Rattle.shop_attempt.specs.declared.attempts.Write.TheVariants.{PutCart, AddOrder}
use Rattle.shop_attempt.specs.Reads.{Shows}
use Rattle.shop_attempt.specs.Writes.{or_last, put_row, placed, written}
use Rattle.shop_pricing.specs.declared.totals.Totals.{Totals}
use Rattle.shop_browse.specs.Baskets.{IsShip, IsTaxed, country_read}
use Rattle.shop_order.specs.declared.new_order.Place.{Place}
use Rattle.shop_order.specs.declared.purchase.Bill.{Bill}
use Rattle.shop_order.specs.declared.purchase.Purchase.{Purchase}
use Rattle.shop_order.specs.Purchases.{IsPurchase, IsBill, rate_of, rate_in, numbered, place_of, order_at, order_of, drawn_order, ship_writes, stock_writes, purchase_writes}
use Rattle.shop_order.proofs.BuyerPageLemmas.{totals_ordered}
use Rattle.shop_order.proofs.PurchaseLemmas.{numbered_ordered}
use Rattle.shop_history.proofs.cited.Shown.{cart_found, customer_found, address_found, id_found}
use Rattle.shop_order.proofs.ReadsLemmas.{shows_both, rate_found}
use Rattle.shop_order.proofs.StockWrites.{stocks_written}

-- where it ships to

module _ (t : Tables) (sound : Sound t) (stamp : ℕ) (customer : CustomerRow) (there : Has (length t.addresses) customer.address) where
  -- the address comes where it is new, and the order names it and its country
  pub record ShipsTo (text : Option AddressText) (ship : Row) : Type 0 where
    pub comes : (carts : List CartRow) (writes : List Write) → written (record t { carts = carts }) stamp (ship_writes text ship ++ writes) ≡ written (record t { carts = carts; addresses = ship_addresses t text }) stamp writes
    pub address : or_last (place_of text customer.address ship).address (length (ship_addresses t text)) ≡ ship_id t customer text
    pub country : (place_of text customer.address ship).country ≡ ship_country t customer text

  named : (id last : ℕ) → 1 ≤ id → or_last id last ≡ id
  named id last above = cond-false _ _ _ (ne_eqb id 0 (λ e. omega (arith, e, above)))

  ships_home : (address : Address) → row_numbered t.addresses customer.address ≡ Some address → ShipsTo None (row.Address address)
  ships_home address is = record {
    comes = λ carts writes. refl;
    address = named customer.address (length t.addresses) there.first;
    country = sym (ap (λ (o : Option Address). unwrap_or (option_map (λ a. a.text.country) o) 0) is);
  }

  ships_new : (text : AddressText) → address_saying t text ≡ None → ShipsTo (Some text) row.Absent
  ships_new text none =
      let addresses : List Address = addresses_with t.addresses text None in
      let next : length addresses ≡ length t.addresses + 1 = length-append t.addresses (record { id = length t.addresses + 1; text = text } ∷ []) in
      record {
        comes = λ carts writes. ap (λ (o : Option Address). written (record t { carts = carts; addresses = addresses_with t.addresses text o }) stamp writes) (sym none);
        address =
            ap (λ (o : Option Address). length (addresses_with t.addresses text o)) none
            ∙ next
            ∙ ap (λ (o : Option Address). address_id t.addresses o) (sym none);
        country = refl;
      }

  ships_known : (text : AddressText) (address : Address) → address_saying t text ≡ Some address → ShipsTo (Some text) (row.Id address.id)
  ships_known text address is =
      let has : Has (length t.addresses) address.id = found_has (λ a. says_same a.text text) (λ (a : Address). a.id) t.addresses address sound.ids.addresses is in
      record {
        comes = λ carts writes. ap (λ (o : Option Address). written (record t { carts = carts; addresses = addresses_with t.addresses text o }) stamp writes) (sym is);
        address =
            named address.id (length (addresses_with t.addresses text (address_saying t text))) has.first
            ∙ ap (λ (o : Option Address). address_id t.addresses o) (sym is);
        country = refl;
      }

  ships_found : (text : AddressText) (found : Option ℕ) (same : Option Address) → address_saying t text ≡ same → option_map (λ a. a.id) same ≡ found → ShipsTo (Some text) (shown row.Id found)
  ships_found text found None is id = subst (λ o. ShipsTo (Some text) (shown row.Id o)) id (ships_new text is)
  ships_found text found (Some address) is id = subst (λ o. ShipsTo (Some text) (shown row.Id o)) id (ships_known text address is)

  pub ships_to : (text : Option AddressText) (read : ReadOf) → IsShip text customer read → row_of t read.key ≡ read.row → ShipsTo text read.row
  ships_to None read ship shows =
      let is : row_numbered t.addresses customer.address ≡ Some ship.0 = address_found (row_numbered t.addresses customer.address) ship.0 (ap (row_of t) (sym ship.1) ∙ shows ∙ ship.2) in
      subst (ShipsTo None) (sym ship.2) (ships_home ship.0 is)
  ships_to (Some text) read ship shows =
      let id : option_map (λ a. a.id) (address_saying t text) ≡ ship.0 = id_found (option_map (λ a. a.id) (address_saying t text)) ship.0 (ap (row_of t) (sym ship.1) ∙ shows ∙ ship.2) in
      subst (ShipsTo (Some text)) (sym ship.2) (ships_found text ship.0 (address_saying t text) refl id)

-- what tables show that show the reads

some_lines : (lines : List (ℕ × ℕ)) → lines ≢ [] → (length lines ≡ 0 → ⊥)
some_lines [] some none = some refl
some_lines (line ∷ lines) some none = absurd (omega (arith, none))

-- what was read last tells the rate
rate_shown : (t : Tables) (tax : TaxRule) (country : ℕ) (rest : List ReadOf) → IsTaxed tax country rest → Shows t rest → rate_in rest ≡ rate_by tax t country
rate_shown t Flat country rest taxed shows = ap rate_in taxed
rate_shown t ByCountry country rest taxed shows =
    let there : row_of t (key.Country country) ≡ row.Country taxed.1 = ap (row_of t) (sym taxed.3) ∙ (subst (Shows t) taxed.2 shows).0 ∙ taxed.4 in
    ap rate_in taxed.2 ∙ ap rate_of taxed.4 ∙ sym (rate_found t country taxed.1 there)

module _ (t : Tables) (sound : Sound t) (asked : PurchaseAsked) (reads : List ReadOf) (purchase : Purchase) (is : IsPurchase asked reads purchase) (shows : Shows t reads) where
  abbrev customer : CustomerRow
  customer = purchase.customer.now

  abbrev lines : List (ℕ × ℕ)
  lines = purchase.lines.now

  all_shown : Shows t (is.basket.buyer ∷ is.basket.basket ∷ is.basket.ship ∷ (is.basket.items ++ is.basket.rest))
  all_shown = subst (Shows t) is.basket.reads_are shows

  pub items_shown : Shows t purchase.items.now
  items_shown = subst (Shows t) (sym is.items) (shows_both t is.basket.items is.basket.rest all_shown.1.1.1).0

  pub customer_there : row_numbered t.customers asked.c ≡ Some customer
  customer_there =
      ap (λ (a : PurchaseAsked). row_numbered t.customers a.c) (sym is.same)
      ∙ customer_found (row_numbered t.customers purchase.asked.now.c) customer (ap (row_of t) (sym is.basket.buyer_key) ∙ all_shown.0 ∙ is.basket.buyer_row ∙ ap row.Customer (sym is.customer))

  cart_there : row_numbered t.carts asked.cart ≡ Some is.basket.cart
  cart_there =
      ap (λ (a : PurchaseAsked). row_numbered t.carts a.cart) (sym is.same)
      ∙ cart_found (row_numbered t.carts purchase.asked.now.cart) is.basket.cart (ap (row_of t) (sym is.basket.basket_key) ∙ all_shown.1.0 ∙ is.basket.basket_row)

  -- it is not refused
  pub passes : check_purchase t asked ≡ None
  passes =
      ap (λ o. first_of (check_known o) (check_bought (row_numbered t.carts asked.cart))) customer_there
      ∙ ap check_bought cart_there
      ∙ cond-false _ _ _ (ne_eqb (length is.basket.cart.lines) 0 (some_lines is.basket.cart.lines is.basket.some))

  bought_are : bought_lines t asked.cart ≡ order_lines t 1 lines
  bought_are =
      ap (λ (o : Option CartRow). order_lines t 1 (unwrap_or (option_map (λ c. c.lines) o) [])) cart_there
      ∙ ap (order_lines t 1) (sym is.lines)

  has_address : Has (length t.addresses) customer.address
  has_address = all_numbered (λ (c : CustomerRow). Has (length t.addresses) c.address) t.customers asked.c customer customer_there sound.names.customers

  items_exist : All (λ l. Has (length t.items) l.0) lines
  items_exist =
      subst (All (λ (l : ℕ × ℕ). Has (length t.items) l.0)) (sym is.lines)
      (all_numbered (λ (c : CartRow). All (λ l. Has (length t.items) l.0) c.lines) t.carts asked.cart is.basket.cart cart_there sound.names.carts)

  ships : (stamp : ℕ) → ShipsTo t sound stamp customer has_address asked.address purchase.ship.now
  ships stamp =
      subst (λ (a : PurchaseAsked). ShipsTo t sound stamp customer has_address a.address purchase.ship.now) is.same
      (subst (ShipsTo t sound stamp customer has_address purchase.asked.now.address) (sym is.ship)
      (ships_to t sound stamp customer has_address purchase.asked.now.address is.basket.ship
      (subst (λ c. IsShip purchase.asked.now.address c is.basket.ship) (sym is.customer) is.basket.ship_is) all_shown.1.1.0))

  -- its rate is that of the country to which it ships
  rate_is : purchase.rate ≡ sale_rate t purchase.tax customer asked
  rate_is =
      is.rate
      ∙ rate_shown t purchase.tax (country_read purchase.asked.now.address is.basket.ship.row) is.basket.rest is.basket.taxed (shows_both t is.basket.items is.basket.rest all_shown.1.1.1).1
      ∙ ap (rate_by purchase.tax t)
      (ap (λ (r : Row). country_read purchase.asked.now.address r) (sym is.ship)
      ∙ country_placed purchase.asked.now.address customer.address purchase.ship.now
      ∙ ap (λ (a : PurchaseAsked). (place_of a.address customer.address purchase.ship.now).country) is.same
      ∙ (ships 0).country)
    where
      country_placed : (text : Option AddressText) (home : ℕ) (ship : Row) → country_read text ship ≡ (place_of text home ship).country
      country_placed None home (row.Address address) = refl
      country_placed None home _ = refl
      country_placed (Some text) home (row.Id id) = refl
      country_placed (Some text) home _ = refl

  module _ (bill : Bill) (billed : IsBill purchase bill) where
    lines_are : numbered 1 bill.priced ≡ bought_lines t asked.cart
    lines_are = ap (numbered 1) (billed.pricing.are t items_shown) ∙ numbered_ordered t 1 lines ∙ sym bought_are

    abbrev money_in : Totals → Money
    money_in totals = record { sub = totals.sub; tax = totals.tax; ship = totals.ship; total = totals.total }

    price_is : money_in bill.totals ≡ price_of t purchase.tax customer asked
    price_is =
        ap money_in billed.totals
        ∙ totals_ordered t lines bill.priced customer.discount purchase.rate (billed.pricing.are t items_shown)
        ∙ ap (λ (ls : List LineRow). money.totals ls customer.discount purchase.rate) (sym bought_are)
        ∙ ap (money.totals (bought_lines t asked.cart) customer.discount) rate_is

    -- what it is charged
    pub charge_is : (call : Call) → charge_to asked call bill.totals.total ≡ charge_due t purchase.tax asked call
    charge_is call = ap (charge_to asked call) (ap (λ (m : Money). m.total) price_is ∙ ap (cents_due t purchase.tax asked) (sym customer_there))

    module _ (stamp draw : ℕ) (auth : List ℕ) where
      abbrev terms : Terms
      terms = record { auth = auth; tax = purchase.tax }

      abbrev days : ℕ
      days = 1 + draw % 7

      abbrev new : OrderRow
      new = new_order t stamp draw terms asked customer

      -- the order with these lines, which cost so much, to an address in a country
      abbrev made : List LineRow → Money → ℕ → ℕ → ℕ → OrderRow
      made ls price rate address country = record {
        id = length t.orders + 1;
        customer = customer.id;
        placed = stamp;
        discount = customer.discount;
        rate = rate;
        sub = price.sub;
        tax = price.tax;
        ship = price.ship;
        total = price.total;
        ship_type = asked.ship;
        ship_day = min (day_of stamp + days) day_limit;
        ship_address = address;
        status = Pending;
        lines = ls;
        card = record {
          card = asked.payment.card;
          number = asked.payment.number;
          name = asked.payment.name;
          expiry = asked.payment.expiry;
          auth = auth;
          total = price.total;
          stamp = stamp;
          country = country;
        };
      }

      abbrev place : Place
      place = place_of asked.address customer.address purchase.ship.now

      placed_is : (carts : List CartRow) → placed (record t { carts = carts; addresses = ship_addresses t asked.address }) stamp days (order_at asked customer bill purchase.rate auth place) ≡ new
      placed_is carts =
          let address : ℕ = or_last place.address (length (ship_addresses t asked.address)) in
          ap (λ (ls : List LineRow). made ls (money_in bill.totals) purchase.rate address place.country) lines_are
          ∙ ap (λ (m : Money). made (bought_lines t asked.cart) m purchase.rate address place.country) price_is
          ∙ ap (λ (n : ℕ). made (bought_lines t asked.cart) (price_of t purchase.tax customer asked) n address place.country) rate_is
          ∙ ap (λ (n : ℕ). made (bought_lines t asked.cart) (price_of t purchase.tax customer asked) (sale_rate t purchase.tax customer asked) n place.country) (ships stamp).address
          ∙ ap (λ (n : ℕ). made (bought_lines t asked.cart) (price_of t purchase.tax customer asked) (sale_rate t purchase.tax customer asked) (ship_id t customer asked.address) n) (ships stamp).country

      abbrev emptied : CartRow
      emptied = record { id = asked.cart; lines = [] }

      carts_are : put_row t.carts asked.cart (λ id. record emptied { id = id }) ≡ slice_set t.carts (asked.cart - 1) emptied
      carts_are = cond-false _ _ _ (ne_eqb asked.cart 0 (λ e. omega (arith, e, (is_there t.carts asked.cart is.basket.cart cart_there).above)))

      made_is : (room : Room t 1) → written t stamp (PutCart emptied ∷ (ship_writes asked.address purchase.ship.now ++ AddOrder (order_at asked customer bill purchase.rate auth place) days ∷ stock_writes t lines)) ≡ with_purchase t asked new
      made_is room =
          let carts : List CartRow = slice_set t.carts (asked.cart - 1) emptied in
          let addressed : Tables = record t { carts = carts; addresses = ship_addresses t asked.address } in
          let order : OrderRow = order_at asked customer bill purchase.rate auth place in
          let ordered : OrderRow → Tables = λ o. record addressed { orders = t.orders ++ o ∷ []; last = slice_set t.last (customer.id - 1) (Some (length t.orders + 1)) } in
          let quantities = subst (All (λ (l : ℕ × ℕ). IsQuantity l.1)) (sym is.lines) is.fit.quantities in
          let distinct = subst (AllPairs (λ (a b : ℕ × ℕ). a.0 ≢ b.0)) (sym is.lines) is.fit.distinct in
          ap (λ (cs : List CartRow). written (record t { carts = cs }) stamp (ship_writes asked.address purchase.ship.now ++ AddOrder order days ∷ stock_writes t lines)) carts_are
          ∙ (ships stamp).comes carts (AddOrder order days ∷ stock_writes t lines)
          ∙ ap (λ o. written (ordered o) stamp (stock_writes t lines)) (placed_is carts)
          ∙ stocks_written t sound room stamp (ordered new) lines new.lines refl distinct quantities items_exist bought_are

      -- the writes make what the purchase makes
      pub written_is : (room : Room t 1) → written t stamp (purchase_writes t purchase (order_of purchase bill auth) days) ≡ tables_bought t stamp draw terms asked (row_numbered t.customers asked.c)
      written_is room =
          ap (λ (a : PurchaseAsked). written t stamp (PutCart (record { id = a.cart; lines = [] }) ∷ (ship_writes a.address purchase.ship.now ++ AddOrder (order_at a customer bill purchase.rate auth (place_of a.address customer.address purchase.ship.now)) days ∷ stock_writes t lines))) is.same
          ∙ made_is room
          ∙ ap (tables_bought t stamp draw terms asked) (sym customer_there)

      -- the page is that of the order
      pub page_is : (drawn : Drawn) → drawn.stamp ≡ stamp → or_zero drawn.ids.order ≡ length t.orders + 1
          → confirm_page t (purchase_ids purchase.asked.now) (drawn_order drawn days (order_of purchase bill auth)) ≡ purchase_page t stamp draw terms asked (row_numbered t.customers asked.c)
      unfolding confirm_page
      page_is drawn at id =
          ap (λ (a : PurchaseAsked). confirm_page t (purchase_ids a) (drawn_order drawn days (order_at a customer bill purchase.rate auth (place_of a.address customer.address purchase.ship.now)))) is.same
          ∙ ap (λ (s : ℕ). confirm_page t (purchase_ids asked) (record (made (numbered 1 bill.priced) (money_in bill.totals) 0 0 0) { id = or_zero drawn.ids.order; ship_day = min (day_of s + days) day_limit })) at
          ∙ ap (λ (n : ℕ). confirm_page t (purchase_ids asked) (record (made (numbered 1 bill.priced) (money_in bill.totals) 0 0 0) { id = n })) id
          ∙ ap (λ (ls : List LineRow). confirm_page t (purchase_ids asked) (made ls (money_in bill.totals) 0 0 0)) lines_are
          ∙ ap (λ (m : Money). confirm_page t (purchase_ids asked) (made (bought_lines t asked.cart) m 0 0 0)) price_is
          ∙ ap (purchase_page t stamp draw terms asked) (sym customer_there)
