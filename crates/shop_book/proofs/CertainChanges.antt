-- What a purchase changes for certain.
use Rattle.std.proofs.Common.{◌≡◌, ◌≢◌, ℕ, ◌+◌, ◌-◌, ◌≤◌, ◌==◌, Bool, true, false, List, [], ◌∷◌, ◌++◌, length, map, filter, Contains, Option, Some, None, option_map, unwrap_or, slice_get, slice_set, refl, sym, ◌∙◌, ap, subst, arith, if◌then◌else◌}
use Rattle.std.specs.Prelude.{All, IfSome}
use Rattle.std.specs.List.{find}
use Rattle.std.proofs.lemmas.Bool.{eq-eqb}
use Rattle.std.proofs.lemmas.List.{length-map}
use Rattle.std.proofs.lemmas.List.Elements.{All-nil, All-cons, All-append, All-map, All-weaker, All-head, All-tail, All-contains}
use Rattle.std.proofs.lemmas.List.Sums.{sum_by-cons}
use Rattle.std.proofs.lemmas.Option.{slice_get_within}
use Rattle.std.proofs.lemmas.Slice.Eq.{bytes_eq-Decides}
use Rattle.shop_model.specs.declared.address.Address.{Address}
use Rattle.shop_model.specs.declared.address.AddressText.{AddressText}
use Rattle.shop_model.specs.declared.tables.Tables.{Tables}
use Rattle.shop_model.specs.asked.PurchaseAsked.{PurchaseAsked}
use Rattle.shop_model.specs.rows.Lookups.{row_numbered, joined}
use Rattle.shop_model.specs.rows.Rows.{ItemRow, CustomerRow, CartRow, LineRow, OrderRow}
use Rattle.shop_model.specs.rows.Sound.{Sound, Has, IsQuantity, IsStocked, IsFit, units_in, last_of}
use Rattle.shop_model.specs.trade.Buyers.{says_same, address_saying, addresses_with}
use Rattle.shop_model.specs.trade.Carts.{lines_named}
use Rattle.shop_model.specs.trade.Sales.{Terms, new_order, sold_item, with_purchase, ship_addresses}
use Rattle.shop_model.specs.trade.Stocks.{times_restocked, stock_after}
use Rattle.shop_model.proofs.cited.Restocking.{IsRestocked, restocked}
use Rattle.shop_history.specs.declared.keys.Key.{Key}
use Rattle.shop_history.specs.declared.keys.Key.TheVariants as key
use Rattle.shop_history.specs.declared.keys.Row.TheVariants as row
use Rattle.shop_history.specs.Keys.{row_of, shown}
use Rattle.shop_history.specs.MayChange.{items_of, address_changes, ship_changes}
use Rattle.shop_history.proofs.OrderLines.{lines_all}
use Rattle.shop_history.proofs.SaleFrame.{numbered_map, lines_items}
use Rattle.shop_history.proofs.cited.Places.{push_here, is_there, row_there, some_row, all_numbered, id_numbered}
use Rattle.shop_book.specs.Planning.{items_in, certain_changes}
use Rattle.shop_book.proofs.Ascending.{by_test}
use Rattle.shop_book.proofs.NamedLemmas.{some_found}
use Rattle.shop_book.proofs.Placed.{has_row}
use Rattle.shop_book.proofs.Grid.{set_here}

-- each item of some lines has units in them

line_units : (item : ℕ) (line : LineRow) (lines : List LineRow) → units_in item (line ∷ lines) ≡ (if line.item == item then line.quantity else 0) + units_in item lines
line_units item line lines =
    by_test (line.item == item)
    (λ (here : (line.item == item) ≡ true). rw here (sum_by-cons (λ (l : LineRow). l.quantity) line (filter (λ l. l.item == item) lines)))
    (λ (apart : (line.item == item) ≡ false). rw apart (omega arith))

own_units : (lines : List LineRow) → All (λ l. IsQuantity l.quantity) lines → All (λ item. 1 ≤ units_in item lines) (map (λ l. l.item) lines)
own_units [] quantities = All-nil (λ item. 1 ≤ units_in item [])
own_units (line ∷ lines) quantities =
    let first : IsQuantity line.quantity = All-head (λ (l : LineRow). IsQuantity l.quantity) line lines quantities in
    let here : units_in line.item (line ∷ lines) ≡ line.quantity + units_in line.item lines
    = line_units line.item line lines ∙ ap (λ b. (if b then line.quantity else 0) + units_in line.item lines) (eq-eqb line.item line.item refl) in
    All-cons (λ item. 1 ≤ units_in item (line ∷ lines)) line.item (map (λ l. l.item) lines) (omega (arith, here, first.some))
    (All-weaker (λ item. 1 ≤ units_in item lines) (λ item. 1 ≤ units_in item (line ∷ lines)) (λ item some. let more = line_units item line lines in omega (arith, more, some)) (map (λ l. l.item) lines)
    (own_units lines (All-tail (λ (l : LineRow). IsQuantity l.quantity) line lines quantities)))

-- rows that were set, and those behind the last

row_set : {A : Type 0} (xs : List A) (id : ℕ) (x y : A) → row_numbered xs id ≡ Some x → row_numbered (slice_set xs (id - 1) y) id ≡ Some y
row_set xs id x y is =
    let was = is_there xs id x is in
    row_there (slice_set xs (id - 1) y) id y (record { above = was.above; at = set_here xs (id - 1) y (slice_get_within xs (id - 1) x was.at) })

pub gone : {A : Type 0} (xs : List A) → row_numbered xs (length xs + 1) ≡ None
gone {A} xs = by (row_numbered xs (length xs + 1)) refl
  where
    by : (o : Option A) → row_numbered xs (length xs + 1) ≡ o → o ≡ None
    by None is = refl
    by (Some x) is = let has = has_row xs (length xs + 1) x is in absurd (omega (arith, has.last))

pub row_pushed : {A : Type 0} (xs : List A) (x : A) → row_numbered (xs ++ x ∷ []) (length xs + 1) ≡ Some x
row_pushed xs x =
    let place : length xs + 1 - 1 ≡ length xs = omega arith in
    row_there (xs ++ x ∷ []) (length xs + 1) x (record { above = omega arith; at = ap (slice_get (xs ++ x ∷ [])) place ∙ push_here xs x })

-- an address is found by the text that it says
says_itself : (text : AddressText) → says_same text text ≡ true
says_itself text =
    rw (
      (bytes_eq-Decides text.street1 text.street1).1 refl,
      (bytes_eq-Decides text.street2 text.street2).1 refl,
      (bytes_eq-Decides text.city text.city).1 refl,
      (bytes_eq-Decides text.state text.state).1 refl,
      (bytes_eq-Decides text.zip text.zip).1 refl,
      eq-eqb text.country text.country refl,
    ) refl

module _ (t : Tables) (sound : Sound t) (asked : PurchaseAsked) (stamp draw : ℕ) (terms : Terms) (customer : CustomerRow) (cart : CartRow)
    (buys : row_numbered t.customers asked.c ≡ Some customer) (basket : row_numbered t.carts asked.cart ≡ Some cart) (some : 1 ≤ length cart.lines) where
  abbrev order : OrderRow
  order = new_order t stamp draw terms asked customer

  abbrev after : Tables
  after = with_purchase t asked order

  abbrev Differs : Key → Type 0
  Differs k = row_of after k ≢ row_of t k

  lines_are : unwrap_or (lines_named t.carts (Some asked.cart)) [] ≡ cart.lines
  lines_are = ap (λ (c : Option CartRow). unwrap_or (option_map (λ (c : CartRow). c.lines) c) []) basket

  items_are : items_of order ≡ items_in t asked.cart
  items_are = lines_items t 1 (unwrap_or (lines_named t.carts (Some asked.cart)) [])

  quantities : All (λ l. IsQuantity l.quantity) order.lines
  quantities =
      lines_all t (λ l. IsQuantity l.quantity) (λ l. IsQuantity l.1) (λ number line is. is) 1 (unwrap_or (lines_named t.carts (Some asked.cart)) [])
      (subst (All (λ (l : ℕ × ℕ). IsQuantity l.1)) (sym lines_are) (all_numbered IsFit t.carts asked.cart cart basket sound.carts).quantities)

  item_differs : (i : ItemRow) → 10 ≤ i.stock → 1 ≤ units_in i.id order.lines → sold_item order i ≢ i
  item_differs i low sells same =
      let after_sale : IsRestocked i.stock (units_in i.id order.lines) = restocked i.stock (units_in i.id order.lines) low in
      let stock : stock_after i.stock (units_in i.id order.lines) ≡ i.stock = ap (λ (x : ItemRow). x.stock) same in
      let times : i.restocks + times_restocked i.stock (units_in i.id order.lines) ≡ i.restocks = ap (λ (x : ItemRow). x.restocks) same in
      omega (arith, after_sale.level, stock, times, sells)

  an_item : (i j : ItemRow) → row.Item i ≡ row.Item j → i ≡ j
  an_item i j same = cc

  sold_differs : (item : ℕ) → 1 ≤ units_in item order.lines → Has (length t.items) item → Differs (key.Item item)
  sold_differs item sells has =
      let there = some_row t.items item has in
      let i : ItemRow = there.0 in
      let id : i.id ≡ item = id_numbered (λ (i : ItemRow). i.id) t.items item i sound.ids.items there.1 in
      let low : 10 ≤ i.stock = (all_numbered (IsStocked t) t.items item i there.1 sound.stock).low in
      let now : row_of after (key.Item item) ≡ row.Item (sold_item order i)
      = ap (shown row.Item) (numbered_map (sold_item order) t.items item) ∙ ap (λ (o : Option ItemRow). shown row.Item (option_map (sold_item order) o)) there.1 in
      let was : row_of t (key.Item item) ≡ row.Item i = ap (shown row.Item) there.1 in
      λ same. item_differs i low (subst (λ n. 1 ≤ units_in n order.lines) (sym id) sells) (an_item (sold_item order i) i (sym now ∙ same ∙ was))

  items_differ : All Differs (map key.Item (items_in t asked.cart))
  items_differ =
      let sells : All (λ item. 1 ≤ units_in item order.lines) (items_in t asked.cart) = subst (All (λ item. 1 ≤ units_in item order.lines)) items_are (own_units order.lines quantities) in
      let there : All (λ (l : ℕ × ℕ). Has (length t.items) l.0) (unwrap_or (lines_named t.carts (Some asked.cart)) [])
      = subst (All (λ (l : ℕ × ℕ). Has (length t.items) l.0)) (sym lines_are) (all_numbered (λ (c : CartRow). All (λ l. Has (length t.items) l.0) c.lines) t.carts asked.cart cart basket sound.names.carts) in
      let has : All (Has (length t.items)) (items_in t asked.cart) = All-map (Has (length t.items)) (λ (l : ℕ × ℕ). l.0) (unwrap_or (lines_named t.carts (Some asked.cart)) []) there in
      All-map Differs key.Item (items_in t asked.cart) (λ k d within. sold_differs _ (sells k d within) (has k d within))

  lines_of : (one other : CartRow) → row.Cart one ≡ row.Cart other → one.lines ≡ other.lines
  lines_of one other same = cc

  cart_differs : Differs (key.Cart asked.cart)
  cart_differs same =
      let now : row_of after (key.Cart asked.cart) ≡ row.Cart (record { id = asked.cart; lines = [] }) = ap (shown row.Cart) (row_set t.carts asked.cart cart (record { id = asked.cart; lines = [] }) basket) in
      let none : [] ≡ cart.lines = lines_of (record { id = asked.cart; lines = [] }) cart (sym now ∙ same ∙ ap (shown row.Cart) basket) in
      absurd (omega (arith, some, ap length none))

  order_differs : Differs (key.Order (length t.orders + 1))
  order_differs same =
      let now : row_of after (key.Order (length t.orders + 1)) ≡ row.Order order = ap (shown row.Order) (row_pushed t.orders order) in
      let was : row_of t (key.Order (length t.orders + 1)) ≡ row.Absent = ap (shown row.Order) (gone t.orders) in
      let not : row.Order order ≡ row.Absent = sym now ∙ same ∙ was in
      absurd cc

  id_of : (one other : ℕ) → row.Id one ≡ row.Id other → one ≡ other
  id_of one other same = cc

  buyer_is : customer.id ≡ asked.c
  buyer_is = id_numbered (λ (c : CustomerRow). c.id) t.customers asked.c customer sound.ids.customers buys

  last_has : Has (length t.last) asked.c
  last_has =
      let has = has_row t.customers asked.c customer buys in
      let long : length t.last ≡ length t.customers = ap length sound.last ∙ length-map t.customers (λ (c : CustomerRow). last_of t.orders c.id) in
      record { first = has.first; last = omega (arith, has.last, long) }

  last_differs : Differs (key.LastOrder asked.c)
  last_differs =
      let there = some_row t.last asked.c last_has in
      let set : row_numbered (slice_set t.last (asked.c - 1) (Some order.id)) asked.c ≡ Some (Some order.id) = row_set t.last asked.c there.0 (Some order.id) there.1 in
      let now : row_of after (key.LastOrder asked.c) ≡ row.Id (length t.orders + 1)
      = ap (λ n. shown row.Id (joined (row_numbered (slice_set t.last (n - 1) (Some order.id)) asked.c))) buyer_is ∙ ap (λ (o : Option (Option ℕ)). shown row.Id (joined o)) set in
      by there.0 now (ap (λ (o : Option (Option ℕ)). shown row.Id (joined o)) there.1) (all_numbered (λ (o : Option ℕ). IfSome o (Has (length t.orders))) t.last asked.c there.0 there.1 sound.names.last)
    where
      by : (last : Option ℕ) → row_of after (key.LastOrder asked.c) ≡ row.Id (length t.orders + 1) → row_of t (key.LastOrder asked.c) ≡ shown row.Id last → IfSome last (Has (length t.orders)) → Differs (key.LastOrder asked.c)
      by None now was has same = let not : row.Id (length t.orders + 1) ≡ row.Absent = sym now ∙ same ∙ was in absurd cc
      by (Some id) now was has same = absurd (omega (arith, has.last, id_of (length t.orders + 1) id (sym now ∙ same ∙ was)))

  ship_differs : All Differs (ship_changes t asked.address)
  ship_differs = by asked.address refl
    where
      new : AddressText → Address
      new text = record { id = length t.addresses + 1; text = text }

      addresses_are : (text : AddressText) → asked.address ≡ Some text → address_saying t text ≡ None → after.addresses ≡ t.addresses ++ new text ∷ []
      addresses_are text given none = ap (ship_addresses t) given ∙ ap (addresses_with t.addresses text) none

      address_differs : (text : AddressText) → after.addresses ≡ t.addresses ++ new text ∷ [] → Differs (key.Address (length t.addresses + 1))
      address_differs text are same =
          let now : row_of after (key.Address (length t.addresses + 1)) ≡ row.Address (new text)
          = ap (λ (rows : List Address). shown row.Address (row_numbered rows (length t.addresses + 1))) are ∙ ap (shown row.Address) (row_pushed t.addresses (new text)) in
          let not : row.Address (new text) ≡ row.Absent = sym now ∙ same ∙ ap (shown row.Address) (gone t.addresses) in
          absurd cc

      said_differs : (text : AddressText) → after.addresses ≡ t.addresses ++ new text ∷ [] → address_saying t text ≡ None → Differs (key.SameAddress text)
      said_differs text are none same = found (find says (t.addresses ++ new text ∷ [])) refl
        where
          says : Address → Bool
          says = λ a. says_same a.text text

          found : (o : Option Address) → find says (t.addresses ++ new text ∷ []) ≡ o → ⊥
          found None is = some_found says (t.addresses ++ new text ∷ []) (length t.addresses) (new text) (push_here t.addresses (new text)) (says_itself text) is
          found (Some a) is =
              let now : row_of after (key.SameAddress text) ≡ row.Id a.id
              = ap (λ (rows : List Address). shown row.Id (option_map (λ a. a.id) (find says rows))) are ∙ ap (λ (o : Option Address). shown row.Id (option_map (λ a. a.id) o)) is in
              let was : row_of t (key.SameAddress text) ≡ row.Absent = ap (λ (o : Option Address). shown row.Id (option_map (λ a. a.id) o)) none in
              let not : row.Id a.id ≡ row.Absent = sym now ∙ same ∙ was in
              absurd cc

      of : (text : AddressText) (said : Option Address) → asked.address ≡ Some text → address_saying t text ≡ said → All Differs (address_changes t text said)
      of text (Some same) given is = All-nil Differs
      of text None given is =
          let are = addresses_are text given is in
          All-cons Differs (key.Address (length t.addresses + 1)) (key.SameAddress text ∷ []) (address_differs text are)
          (All-cons Differs (key.SameAddress text) [] (said_differs text are is) (All-nil Differs))

      by : (address : Option AddressText) → asked.address ≡ address → All Differs (ship_changes t address)
      by None given = All-nil Differs
      by (Some text) given = of text (address_saying t text) given refl

  -- each of these keys shows something else
  pub certain_differ : (k : Key) → Contains (certain_changes t asked) k → Differs k
  certain_differ k has =
      All-contains Differs (certain_changes t asked) k
      (All-cons Differs (key.Cart asked.cart) (key.Order (length t.orders + 1) ∷ key.LastOrder asked.c ∷ map key.Item (items_in t asked.cart) ++ ship_changes t asked.address) cart_differs
      (All-cons Differs (key.Order (length t.orders + 1)) (key.LastOrder asked.c ∷ map key.Item (items_in t asked.cart) ++ ship_changes t asked.address) order_differs
      (All-cons Differs (key.LastOrder asked.c) (map key.Item (items_in t asked.cart) ++ ship_changes t asked.address) last_differs
      (All-append Differs (map key.Item (items_in t asked.cart)) (ship_changes t asked.address) items_differ ship_differs)))) has
