-- Sound tables stay sound with an order more.
use Rattle.std.proofs.Common.{◌≡◌, ℕ, ◌+◌, ◌-◌, ◌^◌, ◌<◌, ◌≤◌, List, [], ◌∷◌, ◌++◌, length, map, All, Some, None, Option, IfSome, slice_set, filter, sum_by, ltb, Bool, true, refl, sym, ◌∙◌, ap, subst, arith, length-append, get_or}
use Rattle.std.specs.List.{range_with_len}
use Rattle.std.proofs.lemmas.List.{length-map, map-append}
use Rattle.std.proofs.lemmas.List.Elements.{All-weaker, All-map, All-push, All-set, filter-append}
use Rattle.std.proofs.lemmas.List.Sums.{sum_by_push}
use Rattle.std.proofs.lemmas.Bool.{cond-true}
use Rattle.shop_history.proofs.cited.KeptTables.{map_seen}
use Rattle.shop_model.specs.declared.tables.Tables.{Tables}
use Rattle.shop_model.specs.rows.Limits.{restocks_limit}
use Rattle.shop_model.specs.rows.Rows.{ItemRow, OrderRow, CustomerRow, IsItem, IsOrder, IsLine, IsCardUse}
use Rattle.shop_model.specs.rows.Sound.{Sound, Has, HasLines, HasFive, IsCharged, IsPaid, IsStocked, OrderNames, Runs, units_in, sold, last_of}
use Rattle.shop_model.proofs.cited.Lists.{id_of_place}
use Rattle.shop_model.proofs.cited.LastOrders.{lasts_step}
use Rattle.shop_history.proofs.SoundCarts.{runs_push}
use Rattle.shop_model.specs.trade.Sales.{sold_item, with_order}
use Rattle.shop_model.proofs.cited.Restocking.{IsRestocked, restocked}

-- an order that may come next
pub record IsNext (t : Tables) (order : OrderRow) : Type 0 where
  pub id : order.id ≡ length t.orders + 1
  pub lines : HasLines order
  pub charges : IsCharged order
  pub payment : IsPaid order
  pub names : OrderNames t order
  pub few : (item : ℕ) → units_in item order.lines ≤ 999
  pub bounds : IsOrder order
  pub line_bounds : All IsLine order.lines
  pub card_bounds : IsCardUse order.card

-- a row more, whose id is the next
pub rows_push : {A : Type 0} (id_of : A → ℕ) (rows : List A) (row : A) → id_of row ≡ length rows + 1 → length rows + 1 < 2 ^ 32 → Runs (map id_of rows) → Runs (map id_of (rows ++ row ∷ []))
rows_push id_of rows row next fits runs =
    subst Runs (sym (map-append id_of rows (row ∷ [])))
    (runs_push (map id_of rows) (id_of row) (omega (arith, next, length-map rows id_of)) (omega (arith, next, fits)) runs)

some_weaker : (n m : ℕ) (o : Option ℕ) → n ≤ m → IfSome o (Has n) → IfSome o (Has m)
some_weaker n m None le is = tt
some_weaker n m (Some id) le is = record { first = is.first; last = omega (arith, is.last, le) }

-- what holds of two things at each place
all_both : {A : Type 0} (P Q R : A → Type 0) (xs : List A) → ((x : A) → P x → Q x → R x) → All P xs → All Q xs → All R xs
all_both P Q R xs both one other k d within = both (get_or xs k d) (one k d within) (other k d within)

module _ (t : Tables) (sound : Sound t) (fits : length t.orders + 1 < 2 ^ 32) (roomy : All (λ i. i.restocks + 49 ≤ restocks_limit) t.items) (order : OrderRow) (next : IsNext t order) where
  abbrev now : Tables
  now = with_order t order

  same_items : length t.items ≡ length now.items
  same_items = sym (length-map t.items (sold_item order))

  -- the units sold after the opening are those before, and those of the order
  sold_more : (item : ℕ) → sold now item ≡ sold t item + units_in item order.lines
  sold_more item =
      let later : ltb t.born_orders order.id ≡ true = lt_ltb t.born_orders order.id (omega (arith, sound.born, next.id)) in
      let test : OrderRow → Bool = λ o. ltb t.born_orders o.id in
      let units : OrderRow → ℕ = λ o. units_in item o.lines in
      ap (sum_by units) (filter-append test t.orders (order ∷ []) ∙ ap (λ (os : List OrderRow). filter test t.orders ++ os) (cond-true (test order) (order ∷ []) [] later))
      ∙ sum_by_push units (filter test t.orders) order
    where
      lt_ltb : (a b : ℕ) → a < b → ltb a b ≡ true
      lt_ltb a b lt = grind (arith, lt)

  stocked : All (IsStocked now) now.items
  stocked =
      All-map (IsStocked now) (sold_item order) t.items
      (All-weaker (IsStocked t) (λ (i : ItemRow). IsStocked now (sold_item order i)) (λ i is.
      let after : IsRestocked i.stock (units_in i.id order.lines) = restocked i.stock (units_in i.id order.lines) is.low in
      record { level = omega (arith, after.level, sold_more i.id, is.level); low = after.low }) t.items sound.stock)

  items_bound : All IsItem now.items
  items_bound =
      All-map IsItem (sold_item order) t.items
      (λ k d within.
      let i : ItemRow = get_or t.items k d in
      let is : IsItem i = sound.bounds.items k d within in
      let stock : IsStocked t i = sound.stock k d within in
      let more : i.restocks + 49 ≤ restocks_limit = roomy k d within in
      let after : IsRestocked i.stock (units_in i.id order.lines) = restocked i.stock (units_in i.id order.lines) stock.low in
      record {
        published = is.published;
        srp = is.srp;
        cost = is.cost;
        stock = after.most is.stock;
        first_stock = is.first_stock;
        restocks = omega (arith, more, after.few (next.few i.id));
      })

  -- the last orders
  customers_ids : map (λ (c : CustomerRow). c.id) t.customers ≡ range_with_len 1 (length t.customers)
  customers_ids = sound.ids.customers.from_one ∙ ap (range_with_len 1) (length-map t.customers (λ (c : CustomerRow). c.id))

  lasts_of : (orders : List OrderRow) → map (λ (c : CustomerRow). last_of orders c.id) t.customers ≡ map (last_of orders) (range_with_len 1 (length t.customers))
  lasts_of orders = sym (map_through t.customers) ∙ ap (map (last_of orders)) customers_ids
    where
      map_through : (cs : List CustomerRow) → map (last_of orders) (map (λ (c : CustomerRow). c.id) cs) ≡ map (λ (c : CustomerRow). last_of orders c.id) cs
      map_through [] = refl
      map_through (c ∷ cs) = rw (map_through cs) refl

  no_greater : All (λ (o : OrderRow). o.id ≤ order.id) t.orders
  no_greater k d within = let at = id_of_place (λ (o : OrderRow). o.id) t.orders k d sound.ids.orders within in omega (arith, at, within, next.id)

  lasts : now.last ≡ map (λ (c : CustomerRow). last_of now.orders c.id) now.customers
  lasts =
      ap (λ (ls : List (Option ℕ)). slice_set ls (order.customer - 1) (Some order.id)) (sound.last ∙ lasts_of t.orders)
      ∙ lasts_step t.orders order (length t.customers) next.names.customer no_greater
      ∙ sym (lasts_of now.orders)

  last_exist : All (λ (o : Option ℕ). IfSome o (Has (length now.orders))) now.last
  last_exist =
      All-set (λ (o : Option ℕ). IfSome o (Has (length now.orders))) t.last (order.customer - 1) (Some order.id)
      (record { first = omega (arith, next.id); last = omega (arith, next.id, length-append t.orders (order ∷ [])) })
      (All-weaker _ (λ (o : Option ℕ). IfSome o (Has (length now.orders))) (λ o is. some_weaker (length t.orders) (length now.orders) o (omega (arith, length-append t.orders (order ∷ []))) is) t.last sound.names.last)

  has_item : (id : ℕ) → Has (length t.items) id → Has (length now.items) id
  has_item id is = subst (λ n. Has n id) same_items is

  order_names : (o : OrderRow) → OrderNames t o → OrderNames now o
  order_names o is = record { customer = is.customer; ship_address = is.ship_address; country = is.country; items = All-weaker _ _ (λ l h. has_item l.item h) o.lines is.items }

  pub sold_sound : Sound now
  sold_sound = record {
    lines = All-push HasLines t.orders order sound.lines next.lines;
    charges = All-push IsCharged t.orders order sound.charges next.charges;
    payments = All-push IsPaid t.orders order sound.payments next.payment;
    stock = stocked;
    names = record {
      addresses = sound.names.addresses;
      customers = sound.names.customers;
      authors = record { authors = All-map (λ (i : ItemRow). Has (length t.authors) i.author) (sold_item order) t.items sound.names.authors.authors };
      related =
          All-map (λ (i : ItemRow). All (Has (length now.items)) i.related) (sold_item order) t.items
          (All-weaker _ (λ (i : ItemRow). All (Has (length now.items)) i.related) (λ i h. All-weaker (Has (length t.items)) (Has (length now.items)) (λ id is. has_item id is) i.related h) t.items sound.names.related);
      orders = All-push (OrderNames now) t.orders order (All-weaker (OrderNames t) (OrderNames now) (λ o h. order_names o h) t.orders sound.names.orders) (order_names order next.names);
      carts = All-weaker _ _ (λ c h. All-weaker _ _ (λ l is. has_item l.0 is) c.lines h) t.carts sound.names.carts;
      last = last_exist;
    };
    related = All-map HasFive (sold_item order) t.items (All-weaker HasFive (λ (i : ItemRow). HasFive (sold_item order i)) (λ i h. record { five = h.five; distinct = h.distinct; others = h.others }) t.items sound.related);
    users = sound.users;
    ids = record {
      countries = sound.ids.countries;
      addresses = sound.ids.addresses;
      customers = sound.ids.customers;
      authors = sound.ids.authors;
      items = subst Runs (sym (map_seen (λ (i : ItemRow). i.id) (sold_item order) t.items (λ i. refl))) sound.ids.items;
      orders = rows_push (λ (o : OrderRow). o.id) t.orders order next.id fits sound.ids.orders;
      carts = sound.ids.carts;
    };
    carts = sound.carts;
    last = lasts;
    bounds = record {
      countries = sound.bounds.countries;
      customers = sound.bounds.customers;
      items = items_bound;
      orders = All-push IsOrder t.orders order sound.bounds.orders next.bounds;
      lines = All-push (λ (o : OrderRow). All IsLine o.lines) t.orders order sound.bounds.lines next.line_bounds;
      cards = All-push (λ (o : OrderRow). IsCardUse o.card) t.orders order sound.bounds.cards next.card_bounds;
      carts = sound.bounds.carts;
    };
    countries = sound.countries;
    six = omega (arith, sound.six, same_items);
    born = omega (arith, sound.born, length-append t.orders (order ∷ []));
    born_items = omega (arith, sound.born_items, same_items);
  }
