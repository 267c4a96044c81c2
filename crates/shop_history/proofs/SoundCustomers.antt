-- Sound tables stay sound as customers log in and come, and as addresses come.
use Rattle.std.proofs.Common.{◌≡◌, ℕ, suc, ◌+◌, ◌^◌, ◌<◌, ◌≤◌, ◌==◌, Bool, List, [], ◌∷◌, ◌++◌, length, map, filter, max, Option, Some, None, IfSome, All, refl, sym, ◌∙◌, ap, subst, arith, length-append}
use Rattle.std.specs.List.{reduce, find}
use Rattle.std.proofs.lemmas.Bool.{ne_eqb}
use Rattle.std.proofs.lemmas.List.{length-map, map-append}
use Rattle.std.proofs.lemmas.List.Elements.{All-weaker, All-push}
use Rattle.shop_text.specs.Texts.{digsyl}
use Rattle.shop_model.specs.declared.address.Address.{Address}
use Rattle.shop_model.specs.declared.address.AddressText.{AddressText}
use Rattle.shop_model.specs.declared.tables.Tables.{Tables}
use Rattle.shop_model.specs.asked.CustomersAsked.{IsAddressAsked}
use Rattle.shop_model.specs.rows.Limits.{stamp_limit}
use Rattle.shop_model.specs.rows.Rows.{CustomerRow, OrderRow, IsCustomer}
use Rattle.shop_model.specs.rows.Sound.{Sound, Has, IsStocked, OrderNames, Runs, last_of}
use Rattle.shop_model.specs.trade.Buyers.{changed_at, logged_in, addresses_with, address_id}
use Rattle.shop_history.proofs.Changed.{changed_keeps, changed_all, changed_length}
use Rattle.shop_history.proofs.cited.Found.{found_has}
use Rattle.shop_history.proofs.SoundCarts.{runs_push}

has_more : (size more id : ℕ) → size ≤ more → Has size id → Has more id
has_more size more id longer has = record { first = has.first; last = omega (arith, has.last, longer) }

-- other customers whose ids run, and of whom the same is known
record AreCustomers (t : Tables) (customers : List CustomerRow) (lasts : List (Option ℕ)) : Type 0 where
  addresses : All (λ c. Has (length t.addresses) c.address) customers
  users : All (λ c. c.user ≡ digsyl c.id) customers
  ids : Runs (map (λ c. c.id) customers)
  last : lasts ≡ map (λ c. last_of t.orders c.id) customers
  there : All (λ o. IfSome o (Has (length t.orders))) lasts
  bounds : All IsCustomer customers
  more : length t.customers ≤ length customers

customers_sound : (t : Tables) (customers : List CustomerRow) (lasts : List (Option ℕ)) → AreCustomers t customers lasts → Sound t
    → Sound (record t { customers = customers; last = lasts })
customers_sound t customers lasts are sound = record {
  lines = sound.lines;
  charges = sound.charges;
  payments = sound.payments;
  stock = All-weaker (IsStocked t) (IsStocked (record t { customers = customers; last = lasts })) (λ i h. record { level = h.level; low = h.low }) t.items sound.stock;
  names = record {
    addresses = sound.names.addresses;
    customers = are.addresses;
    authors = record { authors = sound.names.authors.authors };
    related = sound.names.related;
    orders =
        All-weaker (OrderNames t) (OrderNames (record t { customers = customers; last = lasts }))
        (λ o h. record { customer = has_more (length t.customers) (length customers) o.customer are.more h.customer; ship_address = h.ship_address; country = h.country; items = h.items })
        t.orders sound.names.orders;
    carts = sound.names.carts;
    last = are.there;
  };
  related = sound.related;
  users = are.users;
  ids = record {
    countries = sound.ids.countries;
    addresses = sound.ids.addresses;
    customers = are.ids;
    authors = sound.ids.authors;
    items = sound.ids.items;
    orders = sound.ids.orders;
    carts = sound.ids.carts;
  };
  carts = sound.carts;
  last = are.last;
  bounds = record {
    countries = sound.bounds.countries;
    customers = are.bounds;
    items = sound.bounds.items;
    orders = sound.bounds.orders;
    lines = sound.bounds.lines;
    cards = sound.bounds.cards;
    carts = sound.bounds.carts;
  };
  countries = sound.countries;
  six = sound.six;
  born = sound.born;
  born_items = sound.born_items;
}

-- a customer logs in
pub login_sound : (t : Tables) (id stamp : ℕ) → stamp ≤ stamp_limit → Sound t → Sound (record t { customers = changed_at t.customers id (logged_in stamp) })
login_sound t id stamp bound sound =
    let change : CustomerRow → CustomerRow = logged_in stamp in
    customers_sound t (changed_at t.customers id change) t.last
    (record {
      addresses = changed_all t.customers id change (λ c. Has (length t.addresses) c.address) (λ c h. h) sound.names.customers;
      users = changed_all t.customers id change (λ c. c.user ≡ digsyl c.id) (λ c h. h) sound.users;
      ids = subst Runs (sym (changed_keeps t.customers id change (λ (c : CustomerRow). c.id) (λ c. refl))) sound.ids.customers;
      last = sound.last ∙ sym (changed_keeps t.customers id change (λ (c : CustomerRow). last_of t.orders c.id) (λ c. refl));
      there = sound.names.last;
      bounds =
          changed_all t.customers id change IsCustomer
          (λ c h. record { discount = h.discount; login = bound; expiry = omega (arith, bound) }) sound.bounds.customers;
      more = omega (arith, changed_length t.customers id change);
    })
    sound

-- who is new has no order
none_of : (customers : ℕ) (orders : List OrderRow) → All (λ o. Has customers o.customer) orders → filter (λ o. o.customer == customers + 1) orders ≡ []
none_of customers [] known = refl
none_of customers (o ∷ orders) known =
    let has : Has customers o.customer = known 0 o (omega arith) in
    rw (ne_eqb o.customer (customers + 1) (λ e. omega (arith, e, has.last))) (none_of customers orders (λ k d within. known (suc k) d (omega arith)))

no_last : (t : Tables) → Sound t → last_of t.orders (length t.customers + 1) ≡ None
unfolding last_of
no_last t sound =
    ap (λ (orders : List OrderRow). reduce max (map (λ o. o.id) orders))
    (none_of (length t.customers) t.orders (All-weaker (OrderNames t) (λ o. Has (length t.customers) o.customer) (λ o h. h.customer) t.orders sound.names.orders))

-- a customer comes
pub entered_sound : (t : Tables) (c : CustomerRow) → c.id ≡ length t.customers + 1 → length t.customers + 1 < 2 ^ 32 → c.user ≡ digsyl c.id
    → Has (length t.addresses) c.address → IsCustomer c → Sound t → Sound (record t { customers = t.customers ++ c ∷ []; last = t.last ++ None ∷ [] })
entered_sound t c next fits user address bounds sound =
    let ids : List ℕ = map (λ c. c.id) t.customers in
    let last : last_of t.orders c.id ≡ None = ap (last_of t.orders) next ∙ no_last t sound in
    customers_sound t (t.customers ++ c ∷ []) (t.last ++ None ∷ [])
    (record {
      addresses = All-push (λ (c : CustomerRow). Has (length t.addresses) c.address) t.customers c sound.names.customers address;
      users = All-push (λ (c : CustomerRow). c.user ≡ digsyl c.id) t.customers c sound.users user;
      ids =
          subst Runs (sym (map-append (λ (c : CustomerRow). c.id) t.customers (c ∷ [])))
          (runs_push ids c.id (omega (arith, next, length-map t.customers (λ (c : CustomerRow). c.id))) (omega (arith, next, fits)) sound.ids.customers);
      last =
          ap (λ (xs : List (Option ℕ)). xs ++ None ∷ []) sound.last
          ∙ ap (λ (x : Option ℕ). map (λ (c : CustomerRow). last_of t.orders c.id) t.customers ++ x ∷ []) (sym last)
          ∙ sym (map-append (λ (c : CustomerRow). last_of t.orders c.id) t.customers (c ∷ []));
      there = All-push (λ o. IfSome o (Has (length t.orders))) t.last None sound.names.last tt;
      bounds = All-push IsCustomer t.customers c sound.bounds.customers bounds;
      more = omega (arith, length-append t.customers (c ∷ []));
    })
    sound

-- an address comes

addresses_sound : (t : Tables) (address : Address) → address.id ≡ length t.addresses + 1 → length t.addresses + 1 < 2 ^ 32
    → Has 92 address.text.country → Sound t → Sound (record t { addresses = t.addresses ++ address ∷ [] })
addresses_sound t address next fits country sound =
    let addresses : List Address = t.addresses ++ address ∷ [] in
    let longer : length t.addresses ≤ length addresses = omega (arith, length-append t.addresses (address ∷ [])) in
    let ids : List ℕ = map (λ a. a.id) t.addresses in
    record {
      lines = sound.lines;
      charges = sound.charges;
      payments = sound.payments;
      stock = All-weaker (IsStocked t) (IsStocked (record t { addresses = addresses })) (λ i h. record { level = h.level; low = h.low }) t.items sound.stock;
      names = record {
        addresses =
            All-push (λ (a : Address). Has (length t.countries) a.text.country) t.addresses address sound.names.addresses
            (record { first = country.first; last = omega (arith, country.last, sound.countries) });
        customers = All-weaker (λ c. Has (length t.addresses) c.address) (λ c. Has (length addresses) c.address) (λ c h. has_more (length t.addresses) (length addresses) c.address longer h) t.customers sound.names.customers;
        authors = record { authors = sound.names.authors.authors };
        related = sound.names.related;
        orders =
            All-weaker (OrderNames t) (OrderNames (record t { addresses = addresses }))
            (λ o h. record { customer = h.customer; ship_address = has_more (length t.addresses) (length addresses) o.ship_address longer h.ship_address; country = h.country; items = h.items })
            t.orders sound.names.orders;
        carts = sound.names.carts;
        last = sound.names.last;
      };
      related = sound.related;
      users = sound.users;
      ids = record {
        countries = sound.ids.countries;
        addresses =
            subst Runs (sym (map-append (λ (a : Address). a.id) t.addresses (address ∷ [])))
            (runs_push ids address.id (omega (arith, next, length-map t.addresses (λ (a : Address). a.id))) (omega (arith, next, fits)) sound.ids.addresses);
        customers = sound.ids.customers;
        authors = sound.ids.authors;
        items = sound.ids.items;
        orders = sound.ids.orders;
        carts = sound.ids.carts;
      };
      carts = sound.carts;
      last = sound.last;
      bounds = record {
        countries = sound.bounds.countries;
        customers = sound.bounds.customers;
        items = sound.bounds.items;
        orders = sound.bounds.orders;
        lines = sound.bounds.lines;
        cards = sound.bounds.cards;
        carts = sound.bounds.carts;
      };
      countries = sound.countries;
      six = sound.six;
      born = sound.born;
      born_items = sound.born_items;
    }

pub shared_sound : (t : Tables) (text : AddressText) (same : Option Address) → length t.addresses + 1 < 2 ^ 32 → IsAddressAsked text
    → Sound t → Sound (record t { addresses = addresses_with t.addresses text same })
shared_sound t text None fits asked sound = addresses_sound t (record { id = length t.addresses + 1; text = text }) refl fits asked.country sound
shared_sound t text (Some same) fits asked sound = sound

-- the address of who is new
pub address_there : (p : Address → Bool) (t : Tables) (text : AddressText) (same : Option Address) → Sound t
    → find p t.addresses ≡ same → Has (length (addresses_with t.addresses text same)) (address_id t.addresses same)
address_there p t text None sound is =
    record { first = omega arith; last = omega (arith, length-append t.addresses (record { id = length t.addresses + 1; text = text } ∷ [])) }
address_there p t text (Some same) sound is = found_has p (λ (a : Address). a.id) t.addresses same sound.ids.addresses is
