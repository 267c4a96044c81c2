-- What a purchase changes of the rows and of the lists together.
use Rattle.std.proofs.Common.{◌≡◌, ℕ, ◌+◌, ◌-◌, ◌≤◌, List, [], ◌∷◌, ◌++◌, length, map, get_or, Contains, Option, Some, None, option_map, unwrap_or, ◌⊎◌, inl, inr, ⊎_elim, refl, sym, ◌∙◌, ap, subst, arith, length-append}
use Rattle.std.specs.Prelude.{All}
use Rattle.std.proofs.lemmas.List.{length-map, length-set}
use Rattle.std.proofs.lemmas.List.Elements.{All-nil, All-cons, All-append, All-map, All-contains, Contains-append_cases}
use Rattle.shop_model.specs.declared.address.Address.{Address}
use Rattle.shop_model.specs.declared.address.AddressText.{AddressText}
use Rattle.shop_model.specs.declared.tables.Tables.{Tables}
use Rattle.shop_model.specs.asked.PurchaseAsked.{PurchaseAsked}
use Rattle.shop_model.specs.rows.Limits.{counted_orders, recent_orders}
use Rattle.shop_model.specs.rows.Lookups.{row_numbered}
use Rattle.shop_model.specs.rows.Rows.{CustomerRow, CartRow, OrderRow}
use Rattle.shop_model.specs.rows.Sound.{Sound, Has, HasLines, OrderNames}
use Rattle.shop_model.specs.trade.Buyers.{address_saying, addresses_with}
use Rattle.shop_model.specs.trade.Carts.{lines_named}
use Rattle.shop_model.specs.trade.Sales.{Terms, new_order, sold_item, with_order, with_purchase, ship_addresses}
use Rattle.shop_history.specs.declared.keys.Key.{Key}
use Rattle.shop_history.specs.declared.keys.Key.TheVariants as key
use Rattle.shop_history.specs.declared.keys.Row.TheVariants as row
use Rattle.shop_history.specs.Keys.{row_of}
use Rattle.shop_history.specs.MayChange.{leaving, items_of, subject_at, ranks_change, unranked_changes, buyers_change, forgotten_changes, lists_change, address_changes, ship_changes, purchase_changes}
use Rattle.shop_history.proofs.cited.Places.{all_numbered, id_numbered}
use Rattle.shop_history.proofs.cited.Versions.{RaisedFor}
use Rattle.shop_history.proofs.SaleFrame.{lines_items}
use Rattle.shop_book.specs.declared.lists.Lists.{Lists}
use Rattle.shop_book.specs.declared.rows.Rows.{Rows}
use Rattle.shop_book.specs.declared.versions.Versions.{Versions}
use Rattle.shop_book.specs.Changing.{RaisesAll}
use Rattle.shop_book.specs.KeptLists.{AreLists}
use Rattle.shop_book.specs.Planning.{items_in, certain_changes}
use Rattle.shop_book.specs.RowsNow.{tables_with}
use Rattle.shop_book.specs.Sales.{IsSale}
use Rattle.shop_book.specs.Stored.{numbers, HasPlace, HasPlaces}
use Rattle.shop_book.proofs.CertainChanges.{certain_differ}
use Rattle.shop_book.proofs.KeptLists.{best_same, newest_same, lists_same}
use Rattle.shop_book.proofs.Placed.{has_row}

module _ (t : Tables) (sound : Sound t) (asked : PurchaseAsked) (stamp draw : ℕ) (terms : Terms) (customer : CustomerRow) (cart : CartRow)
    (buys : row_numbered t.customers asked.c ≡ Some customer) (basket : row_numbered t.carts asked.cart ≡ Some cart) (some : 1 ≤ length cart.lines) where
  abbrev order : OrderRow
  order = new_order t stamp draw terms asked customer

  abbrev sold : Tables
  sold = with_order t order

  abbrev bought : Tables
  bought = with_purchase t asked order

  buyer_is : customer.id ≡ asked.c
  buyer_is = id_numbered (λ (c : CustomerRow). c.id) t.customers asked.c customer sound.ids.customers buys

  items_are : items_of order ≡ items_in t asked.cart
  items_are = lines_items t 1 (unwrap_or (lines_named t.carts (Some asked.cart)) [])

  -- an order more shows of most keys what the purchase does, and of the others what there was
  row_same : (k : Key) → (row_of bought k ≡ row_of sold k) ⊎ (row_of sold k ≡ row_of t k)
  row_same (key.Cart id) = inr refl
  row_same (key.NewIn subject) = inl (ap row.Items (newest_same sold bought refl refl subject))
  row_same (key.BestIn subject) = inl (ap row.Items (best_same sold bought refl refl subject))
  row_same (key.Address id) = inr refl
  row_same (key.SameAddress text) = inr refl
  row_same _ = inl refl

  abbrev IsListed : Key → Type 0
  IsListed k = row_of bought k ≡ row_of sold k

  ranks_listed : (items : List ℕ) → All IsListed (ranks_change t items)
  ranks_listed items = All-map IsListed (λ item. key.BestIn (subject_at t item)) items (λ k d within. ap row.Items (best_same sold bought refl refl (subject_at t (get_or items k d))))

  buyers_listed : (customer : ℕ) (items : List ℕ) → All IsListed (buyers_change customer items)
  buyers_listed customer items = All-cons IsListed (key.Bought customer) (map key.Buyers items) refl (All-map IsListed key.Buyers items (λ k d within. refl))

  all_listed : All IsListed (lists_change t asked.c (items_in t asked.cart))
  all_listed =
      All-append IsListed (ranks_change t (items_in t asked.cart) ++ unranked_changes t (leaving counted_orders t.orders) ++ buyers_change asked.c (items_in t asked.cart)) (forgotten_changes (leaving recent_orders t.orders))
      (All-append IsListed (ranks_change t (items_in t asked.cart) ++ unranked_changes t (leaving counted_orders t.orders)) (buyers_change asked.c (items_in t asked.cart))
      (All-append IsListed (ranks_change t (items_in t asked.cart)) (unranked_changes t (leaving counted_orders t.orders)) (ranks_listed (items_in t asked.cart)) (unranked (leaving counted_orders t.orders)))
      (buyers_listed asked.c (items_in t asked.cart)))
      (forgotten (leaving recent_orders t.orders))
    where
      unranked : (o : Option OrderRow) → All IsListed (unranked_changes t o)
      unranked None = All-nil IsListed
      unranked (Some o) = ranks_listed (items_of o)

      forgotten : (o : Option OrderRow) → All IsListed (forgotten_changes o)
      forgotten None = All-nil IsListed
      forgotten (Some o) = buyers_listed o.customer (items_of o)

  -- the certain changes and those of the lists are what a purchase may change
  parts : purchase_changes t asked ≡ certain_changes t asked ++ lists_change t asked.c (items_in t asked.cart)
  parts = refl

  -- the versions once both have raised theirs
  pub purchase_raised : (number : ℕ) (first mid end : Key → ℕ) → RaisesAll (certain_changes t asked) number first mid → RaisedFor t sold number (lists_change t order.customer (items_of order)) mid end
      → RaisedFor t bought number (purchase_changes t asked) first end
  purchase_raised number first mid end certain listed = record {
    each = λ k.
        ⊎_elim
        (λ (same : end k ≡ mid k).
        ⊎_elim (λ stays. inl (same ∙ stays)) (λ raised. inr (certain_differ t sound asked stamp draw terms customer cart buys basket some k raised.0, same ∙ raised.1)) (certain.each k))
        (λ raised. inr (⊎_elim (λ (is : row_of bought k ≡ row_of sold k). λ same. raised.0 (sym is ∙ same)) (λ (none : row_of sold k ≡ row_of t k). absurd (raised.0 none)) (row_same k), raised.1))
        (listed.each k);
    all = λ k has differs.
        ⊎_elim
        (λ here. ⊎_elim (λ same. same ∙ certain.all k here) (λ raised. raised.1) (listed.each k))
        (λ in_lists.
        let is : row_of bought k ≡ row_of sold k = All-contains IsListed (lists_change t asked.c (items_in t asked.cart)) k all_listed in_lists in
        listed.all k (subst (λ ks. Contains ks k) lists_are in_lists) (λ same. differs (is ∙ same)))
        (Contains-append_cases (certain_changes t asked) (lists_change t asked.c (items_in t asked.cart)) k (subst (λ ks. Contains ks k) parts has));
  }
    where
      lists_are : lists_change t asked.c (items_in t asked.cart) ≡ lists_change t order.customer (items_of order)
      lists_are = ap (λ c. lists_change t c (items_in t asked.cart)) (sym buyer_is) ∙ ap (lists_change t customer.id) (sym items_are)

  -- lists of the tables with the order are those after the purchase
  pub lists_bought : (lists : Lists) → AreLists sold lists → AreLists bought lists
  lists_bought lists are = lists_same sold bought refl refl lists are

  module _ (after : Sound bought) (rows : Rows) (are : tables_with bought rows ≡ bought) where
    -- the order came to the rows
    pub is_sale : IsSale t order rows
    is_sale = record {
      sound = sound;
      orders = ap (λ (u : Tables). u.orders) are;
      items = ap (λ (u : Tables). u.items) are;
      customers = ap (λ (u : Tables). length u.customers) are;
      lines = last_all HasLines t.orders order after.lines;
      buyer = names.customer;
      there = subst (λ n. All (λ l. Has n l.item) order.lines) (length-map t.items (sold_item order)) names.items;
    }
      where
        last_all : {A : Type 0} (P : A → Type 0) (xs : List A) (x : A) → All P (xs ++ x ∷ []) → P x
        last_all P xs x all = subst P (at xs x) (all (length xs) x (omega (arith, length-append xs (x ∷ []))))
          where
            at : {A : Type 0} (xs : List A) (x : A) → get_or (xs ++ x ∷ []) (length xs) x ≡ x
            at [] x = refl
            at (y ∷ ys) x = at ys x

        names : OrderNames bought order
        names = last_all (OrderNames bought) t.orders order after.names.orders

    -- each of the certain keys has a place
    pub certain_places : (v : Versions) → HasPlaces v rows → All (HasPlace v) (certain_changes t asked)
    certain_places v places =
        All-cons (HasPlace v) (key.Cart asked.cart) (key.Order (length t.orders + 1) ∷ key.LastOrder asked.c ∷ map key.Item (items_in t asked.cart) ++ ship_changes t asked.address) cart_place
        (All-cons (HasPlace v) (key.Order (length t.orders + 1)) (key.LastOrder asked.c ∷ map key.Item (items_in t asked.cart) ++ ship_changes t asked.address) order_place
        (All-cons (HasPlace v) (key.LastOrder asked.c) (map key.Item (items_in t asked.cart) ++ ship_changes t asked.address) last_place
        (All-append (HasPlace v) (map key.Item (items_in t asked.cart)) (ship_changes t asked.address) item_places (ship_places asked.address refl))))
      where
        cart_place : HasPlace v (key.Cart asked.cart)
        cart_place =
            let has = has_row t.carts asked.cart cart basket in
            let long : length rows.carts.items ≡ length t.carts = ap (λ (u : Tables). length u.carts) are ∙ length-set t.carts (asked.cart - 1) (record { id = asked.cart; lines = [] }) in
            record { first = has.first; last = omega (arith, has.last, long, places.each 3) }

        order_place : HasPlace v (key.Order (length t.orders + 1))
        order_place =
            let long : length rows.orders.items ≡ length t.orders + 1 = ap (λ (u : Tables). length u.orders) are ∙ length-append t.orders (order ∷ []) in
            record { first = omega arith; last = omega (arith, long, places.each 10) }

        last_place : HasPlace v (key.LastOrder asked.c)
        last_place =
            let has = has_row t.customers asked.c customer buys in
            let long : length rows.customers.items ≡ length t.customers = ap (λ (u : Tables). length u.customers) are in
            record { first = has.first; last = omega (arith, has.last, long, places.each 1) }

        item_places : All (HasPlace v) (map key.Item (items_in t asked.cart))
        item_places =
            let long : length rows.items.items ≡ length t.items = ap (λ (u : Tables). length u.items) are ∙ length-map t.items (sold_item order) in
            let there : All (λ (l : ℕ × ℕ). Has (length t.items) l.0) (unwrap_or (lines_named t.carts (Some asked.cart)) [])
            = subst (All (λ (l : ℕ × ℕ). Has (length t.items) l.0)) (sym (ap (λ (c : Option CartRow). unwrap_or (option_map (λ (c : CartRow). c.lines) c) []) basket))
            (all_numbered (λ (c : CartRow). All (λ l. Has (length t.items) l.0) c.lines) t.carts asked.cart cart basket sound.names.carts) in
            All-map (HasPlace v) key.Item (items_in t asked.cart)
            (All-map (λ item. Has (length (numbers v 0)) item) (λ (l : ℕ × ℕ). l.0) (unwrap_or (lines_named t.carts (Some asked.cart)) [])
            (λ k d within. let has = there k d within in record { first = has.first; last = omega (arith, has.last, long, places.each 0) }))

        ship_places : (address : Option AddressText) → asked.address ≡ address → All (HasPlace v) (ship_changes t address)
        ship_places None given = All-nil (HasPlace v)
        ship_places (Some text) given = of (address_saying t text) refl
          where
            of : (said : Option Address) → address_saying t text ≡ said → All (HasPlace v) (address_changes t text said)
            of (Some same) is = All-nil (HasPlace v)
            of None is =
                let new : Address = record { id = length t.addresses + 1; text = text } in
                let long : length rows.addresses.rows ≡ length t.addresses + 1
                = ap (λ (u : Tables). length u.addresses) are ∙ ap (λ (a : Option AddressText). length (ship_addresses t a)) given ∙ ap (λ (o : Option Address). length (addresses_with t.addresses text o)) is
                ∙ length-append t.addresses (new ∷ []) in
                All-cons (HasPlace v) (key.Address (length t.addresses + 1)) (key.SameAddress text ∷ []) (record { first = omega arith; last = omega (arith, long, places.each 8) })
                (All-cons (HasPlace v) (key.SameAddress text) [] tt (All-nil (HasPlace v)))
