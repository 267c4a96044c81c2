-- Which keys an act can change; what every other key shows stays.
use Rattle.std.specs.Prelude.{ℕ, ◌+◌, ◌-◌, nat_lt, List, [], ◌∷◌, ◌++◌, length, map, slice_get, Contains, Option, Some, None, option_map, unwrap_or, if◌then◌else◌}
use Rattle.shop_text.specs.Texts.{digsyl}
use Rattle.shop_model.specs.declared.address.Address.{Address}
use Rattle.shop_model.specs.declared.address.AddressText.{AddressText}
use Rattle.shop_model.specs.declared.buying.Buyer.{Buyer}
use Rattle.shop_model.specs.declared.buying.Buyer.TheVariants.{Returning, Newcomer}
use Rattle.shop_model.specs.declared.tables.Tables.{Tables}
use Rattle.shop_model.specs.asked.AddAsked.{AddAsked}
use Rattle.shop_model.specs.asked.PurchaseAsked.{PurchaseAsked}
use Rattle.shop_model.specs.declared.subject.Subject.{Subject}
use Rattle.shop_model.specs.declared.subject.Subject.TheVariants.{Arts}
use Rattle.shop_model.specs.rows.Limits.{counted_orders, recent_orders}
use Rattle.shop_model.specs.rows.Lookups.{row_numbered}
use Rattle.shop_model.specs.rows.Rows.{CustomerRow, OrderRow}
use Rattle.shop_model.specs.trade.Buyers.{customer_named, address_saying}
use Rattle.shop_model.specs.trade.Carts.{cart_meant, lines_named}
use Rattle.shop_history.specs.declared.acts.Act as act
use Rattle.shop_history.specs.declared.acts.Act.{Act}
use Rattle.shop_history.specs.declared.keys.Key as key
use Rattle.shop_history.specs.declared.keys.Key.{Key}

-- the customer who logs in, where there is one
abbrev pub login_changes : Option CustomerRow → List Key
login_changes None = []
login_changes (Some customer) = key.TheVariants.Customer customer.id ∷ []

-- an address that is new
abbrev pub address_changes : Tables → AddressText → Option Address → List Key
address_changes t text (Some same) = []
address_changes t text None = key.TheVariants.Address (length t.addresses + 1) ∷ key.TheVariants.SameAddress text ∷ []

-- what a buyer changes who logs in or is entered
abbrev pub buyer_changes : Tables → Buyer → List Key
buyer_changes t (Returning asked) = login_changes (customer_named t asked.user)
buyer_changes t (Newcomer asked) =
    key.TheVariants.Customer (length t.customers + 1)
    ∷ key.TheVariants.Name (digsyl (length t.customers + 1))
    ∷ address_changes t asked.address (address_saying t asked.address)

-- the order that leaves the latest ones, so many at most, where one more comes
abbrev pub leaving : ℕ → List OrderRow → Option OrderRow
leaving most orders = if nat_lt (length orders) most then None else slice_get orders (length orders - most)

-- the items of an order, a line each
abbrev pub items_of : OrderRow → List ℕ
items_of order = map (λ l. l.item) order.lines

-- the subject of the item with an id
abbrev pub subject_at : Tables → ℕ → Subject
subject_at t item = unwrap_or (option_map (λ i. i.subject) (row_numbered t.items item)) Arts

-- what is sold, or no longer counts as sold lately
abbrev pub ranks_change : Tables → List ℕ → List Key
ranks_change t items = map (λ item. key.TheVariants.BestIn (subject_at t item)) items

-- who buys, or is no longer one who did lately
abbrev pub buyers_change : ℕ → List ℕ → List Key
buyers_change customer items = key.TheVariants.Bought customer ∷ map key.TheVariants.Buyers items

-- what an order that leaves the latest ones has, if one does
abbrev pub of_left : {A : Type 0} → (OrderRow → List A) → Option OrderRow → List A
of_left names None = []
of_left names (Some order) = names order

-- what an order that leaves the latest ones changes
abbrev pub unranked_changes : Tables → Option OrderRow → List Key
unranked_changes t gone = of_left (λ o. ranks_change t (items_of o)) gone

abbrev pub forgotten_changes : Option OrderRow → List Key
forgotten_changes gone = of_left (λ o. buyers_change o.customer (items_of o)) gone

-- what a purchase changes of the lists that are kept, for a customer who buys these items
abbrev pub lists_change : Tables → ℕ → List ℕ → List Key
lists_change t customer items =
    ranks_change t items
    ++ unranked_changes t (leaving counted_orders t.orders)
    ++ buyers_change customer items
    ++ forgotten_changes (leaving recent_orders t.orders)

-- where an order ships to, if that is new
abbrev pub ship_changes : Tables → Option AddressText → List Key
ship_changes t None = []
ship_changes t (Some text) = address_changes t text (address_saying t text)

-- what a purchase changes
abbrev pub purchase_changes : Tables → PurchaseAsked → List Key
purchase_changes t asked =
    let items : List ℕ = map (λ l. l.0) (unwrap_or (lines_named t.carts (Some asked.cart)) []) in
    key.TheVariants.Cart asked.cart
    ∷ key.TheVariants.Order (length t.orders + 1)
    ∷ key.TheVariants.LastOrder asked.c
    ∷ map key.TheVariants.Item items
    ++ ship_changes t asked.address
    ++ lists_change t asked.c items

-- what an item that is added changes, besides the searches that find it
abbrev pub add_changes : Tables → AddAsked → List Key
add_changes t asked =
    key.TheVariants.Item (length t.items + 1)
    ∷ key.TheVariants.Label (length t.items + 1)
    ∷ key.TheVariants.Count
    ∷ key.TheVariants.NewIn asked.subject
    ∷ []

-- the keys that an act can change, but for searches
abbrev pub may_change : Tables → Act → List Key
may_change t (act.TheVariants.Cart asked draw) = key.TheVariants.Cart (cart_meant t.carts asked.ids.cart) ∷ []
may_change t (act.TheVariants.Enter asked draw) = buyer_changes t asked.buyer
may_change t (act.TheVariants.Confirm asked draw auth tax) = purchase_changes t asked
may_change t (act.TheVariants.Admin asked) =
    key.TheVariants.Item asked.item ∷ key.TheVariants.NewIn (subject_at t asked.item) ∷ []
may_change t (act.TheVariants.Add asked) = add_changes t asked

-- that an act can change a key: one of those, or a search where an item is added, which any may find
abbrev pub MayChange : Tables → Act → Key → Type 0
MayChange t (act.TheVariants.Add asked) (key.TheVariants.Added search) = Unit {0}
MayChange t act key = Contains (may_change t act) key
