-- Sound tables stay sound where an item is added.
use Rattle.std.proofs.Common.{◌≡◌, ℕ, ◌+◌, ◌^◌, ◌<◌, ◌≤◌, List, [], ◌∷◌, length, filter, get_or, sum_by, nat_lt, eqb, false, All, Some, refl, sym, ◌∙◌, arith, length-append}
use Rattle.std.proofs.lemmas.Bool.{ne_eqb}
use Rattle.std.proofs.lemmas.List.Elements.{All-weaker, All-push, All-filter, All-head, All-tail}
use Rattle.std.proofs.lemmas.List.FromFn.{get_or-range_with_len}
use Rattle.std.proofs.lemmas.List.Sums.{sum_by-le}
use Rattle.shop_model.specs.declared.author.Author.{Author}
use Rattle.shop_model.specs.declared.tables.Tables.{Tables}
use Rattle.shop_model.specs.asked.AddAsked.{AddAsked, IsAddAsked}
use Rattle.shop_model.specs.rows.Limits.{stamp_limit}
use Rattle.shop_model.specs.rows.Lookups.{row_numbered}
use Rattle.shop_model.specs.rows.Rows.{ItemRow, LineRow, OrderRow, CartRow, IsItem}
use Rattle.shop_model.specs.rows.Sound.{Sound, Has, HasFive, IsStocked, OrderNames, sold, units_in}
use Rattle.shop_model.specs.trade.Adding.{added_item, with_item}
use Rattle.shop_history.proofs.SoundSales.{rows_push}
use Rattle.shop_history.proofs.cited.Places.{has_row}

-- an item that no line names has no units
no_units : (item most : ℕ) (lines : List LineRow) → most < item → All (λ l. Has most l.item) lines → units_in item lines ≡ 0
no_units item most [] above all = refl
no_units item most (line ∷ lines) above all =
    let here : Has most line.item = All-head (λ (l : LineRow). Has most l.item) line lines all in
    let rest : units_in item lines ≡ 0 = no_units item most lines above (All-tail (λ (l : LineRow). Has most l.item) line lines all) in
    let apart : eqb line.item item ≡ false = ne_eqb line.item item (λ same. omega (arith, same, above, here.last)) in
    rw apart rest

-- nor has any of orders
pub none_sold : (item : ℕ) (orders : List OrderRow) → All (λ o. units_in item o.lines ≡ 0) orders → sum_by (λ o. units_in item o.lines) orders ≡ 0
none_sold item orders all =
    let few = sum_by-le (λ (o : OrderRow). units_in item o.lines) 0 orders (λ k d within. let none = all k d within in omega (arith, none)) in
    omega (arith, few)

-- no order has an item that is not there
pub never_sold : (t : Tables) (item : ℕ) → Sound t → length t.items < item → All (λ o. units_in item o.lines ≡ 0) t.orders
never_sold t item sound above =
    All-weaker (OrderNames t) (λ (o : OrderRow). units_in item o.lines ≡ 0) (λ o names. no_units item (length t.items) o.lines above names.items) t.orders sound.names.orders

module _ (t : Tables) (sound : Sound t) (fits : length t.items + 1 < 2 ^ 32) (stamp : ℕ) (bound : stamp ≤ stamp_limit) (asked : AddAsked) (form : IsAddAsked asked)
    (author : Author) (written : row_numbered t.authors asked.author ≡ Some author) where
  abbrev row : ItemRow
  row = added_item t stamp asked

  abbrev now : Tables
  now = with_item t row

  pub one_more : length now.items ≡ length t.items + 1
  one_more = length-append t.items (row ∷ [])

  still : (id : ℕ) → Has (length t.items) id → Has (length now.items) id
  still id has = record { first = has.first; last = omega (arith, has.last, one_more) }

  -- its related items are the first five
  first : (k d : ℕ) → k < 5 → get_or row.related k d ≡ 1 + k
  first k d few = get_or-range_with_len 1 5 k d few

  five : HasFive row
  five = record {
    five = refl;
    distinct = λ i j d less within same.
        let few : j < 5 = within in
        let both : 1 + i ≡ 1 + j = sym (first i d (omega (arith, less, few))) ∙ same ∙ first j d few in
        omega (arith, less, both);
    others = λ k d within same.
        let few : k < 5 = within in
        let is : 1 + k ≡ length t.items + 1 = sym (first k d few) ∙ same in
        omega (arith, is, few, sound.six);
  }

  first_five : All (Has (length now.items)) row.related
  first_five k d within =
      let few : k < 5 = within in
      record { first = omega (arith, first k d few); last = omega (arith, first k d few, few, sound.six, one_more) }

  unsold : sold now row.id ≡ 0
  unsold =
      none_sold row.id (filter (λ (o : OrderRow). nat_lt t.born_orders o.id) t.orders)
      (All-filter (λ (o : OrderRow). nat_lt t.born_orders o.id) (λ (o : OrderRow). units_in row.id o.lines ≡ 0) t.orders (never_sold t row.id sound (omega arith)))

  pub added_sound : Sound now
  added_sound = record {
    lines = sound.lines;
    charges = sound.charges;
    payments = sound.payments;
    stock =
        All-push (IsStocked now) t.items row (All-weaker (IsStocked t) (IsStocked now) (λ i h. record { level = h.level; low = h.low }) t.items sound.stock)
        (record { level = omega (arith, unsold); low = form.stock.low });
    names = record {
      addresses = sound.names.addresses;
      customers = sound.names.customers;
      authors = record {
        authors = All-push (λ (i : ItemRow). Has (length t.authors) i.author) t.items row sound.names.authors.authors (has_row t.authors asked.author author written);
      };
      related =
          All-push (λ (i : ItemRow). All (Has (length now.items)) i.related) t.items row
          (All-weaker _ (λ (i : ItemRow). All (Has (length now.items)) i.related) (λ i h. All-weaker (Has (length t.items)) (Has (length now.items)) still i.related h) t.items sound.names.related)
          first_five;
      orders =
          All-weaker (OrderNames t) (OrderNames now)
          (λ (o : OrderRow) h. record { customer = h.customer; ship_address = h.ship_address; country = h.country; items = All-weaker _ _ (λ (l : LineRow) is. still l.item is) o.lines h.items })
          t.orders sound.names.orders;
      carts = All-weaker _ _ (λ (c : CartRow) h. All-weaker _ _ (λ l is. still l.0 is) c.lines h) t.carts sound.names.carts;
      last = sound.names.last;
    };
    related = All-push HasFive t.items row sound.related five;
    users = sound.users;
    ids = record {
      countries = sound.ids.countries;
      addresses = sound.ids.addresses;
      customers = sound.ids.customers;
      authors = sound.ids.authors;
      items = rows_push (λ (i : ItemRow). i.id) t.items row refl fits sound.ids.items;
      orders = sound.ids.orders;
      carts = sound.ids.carts;
    };
    carts = sound.carts;
    last = sound.last;
    bounds = record {
      countries = sound.bounds.countries;
      customers = sound.bounds.customers;
      items =
          All-push IsItem t.items row sound.bounds.items
          (record {
            published = omega (arith, bound);
            srp = form.srp.low;
            cost = form.cost.low;
            stock = omega (arith, form.stock.high);
            first_stock = omega (arith, form.stock.high);
            restocks = omega arith;
          });
      orders = sound.bounds.orders;
      lines = sound.bounds.lines;
      cards = sound.bounds.cards;
      carts = sound.bounds.carts;
    };
    countries = sound.countries;
    six = omega (arith, sound.six, one_more);
    born = sound.born;
    born_items = omega (arith, sound.born_items, one_more);
  }
