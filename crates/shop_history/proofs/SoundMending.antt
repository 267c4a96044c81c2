-- Sound tables stay sound where an item is administered.
use Rattle.std.proofs.Common.{◌≡◌, ◌≢◌, ℕ, ◌-◌, ◌≤◌, List, length, map, All, Some, refl, sym, ◌∙◌, ap, subst, arith}
use Rattle.std.proofs.lemmas.List.{length-map}
use Rattle.std.proofs.lemmas.List.Elements.{All-weaker, All-set}
use Rattle.shop_model.specs.declared.tables.Tables.{Tables}
use Rattle.shop_model.specs.asked.AdminAsked.{AdminAsked, IsAdminAsked}
use Rattle.shop_model.specs.lists.Related.{bought, buyers}
use Rattle.shop_model.specs.rows.Limits.{stamp_limit, day_limit, day_of}
use Rattle.shop_model.specs.rows.Lookups.{row_numbered}
use Rattle.shop_model.specs.rows.Rows.{ItemRow, OrderRow, CartRow, IsItem}
use Rattle.shop_model.specs.rows.Sound.{Sound, Has, HasFive, IsStocked, OrderNames, Runs}
use Rattle.shop_model.specs.trade.Mending.{mended_item, with_mended}
use Rattle.shop_model.proofs.cited.RelatedFive.{related_five, related_distinct, related_others, related_there}
use Rattle.shop_history.proofs.cited.Places.{id_numbered, all_numbered, has_row, seen_set}

module _ (t : Tables) (sound : Sound t) (stamp : ℕ) (bound : stamp ≤ stamp_limit) (asked : AdminAsked) (form : IsAdminAsked asked)
    (item : ItemRow) (there : row_numbered t.items asked.item ≡ Some item) where
  abbrev row : ItemRow
  row = mended_item t stamp asked item

  abbrev now : Tables
  now = with_mended t stamp asked (Some item)

  its_id : item.id ≡ asked.item
  its_id = id_numbered (λ (i : ItemRow). i.id) t.items asked.item item sound.ids.items there

  has : Has (length t.items) asked.item
  has = has_row t.items asked.item item there

  seen : map (λ (i : ItemRow). i.id) now.items ≡ map (λ (i : ItemRow). i.id) t.items
  seen = seen_set (λ (i : ItemRow). i.id) t.items asked.item item row there refl

  pub same_length : length t.items ≡ length now.items
  same_length = sym (length-map t.items (λ (i : ItemRow). i.id)) ∙ ap (λ (ids : List ℕ). length ids) (sym seen) ∙ length-map now.items (λ (i : ItemRow). i.id)

  -- what holds of all items, and of this one as it is now
  pub holds : (P : ItemRow → Type 0) → (P item → P row) → All P t.items → All P now.items
  holds P says all = All-set P t.items (asked.item - 1) row (says (all_numbered P t.items asked.item item there all)) all

  five : HasFive row
  five = record {
    five = related_five (map (bought t) (buyers t asked.item)) asked.item (length t.items) has sound.six;
    distinct = related_distinct (map (bought t) (buyers t asked.item)) asked.item (length t.items) has sound.six;
    others =
        subst (λ id. All (λ a. a ≢ id) row.related) (sym its_id)
        (related_others (map (bought t) (buyers t asked.item)) asked.item (length t.items) has sound.six);
  }

  day_bound : day_of stamp ≤ day_limit
  day_bound = omega (arith, bound)

  pub mended_sound : Sound now
  mended_sound = record {
    lines = sound.lines;
    charges = sound.charges;
    payments = sound.payments;
    stock =
        holds (IsStocked now) (λ h. record { level = h.level; low = h.low })
        (All-weaker (IsStocked t) (IsStocked now) (λ i h. record { level = h.level; low = h.low }) t.items sound.stock);
    names = record {
      addresses = sound.names.addresses;
      customers = sound.names.customers;
      authors = record { authors = holds (λ i. Has (length t.authors) i.author) (λ h. h) sound.names.authors.authors };
      related =
          subst (λ n. All (λ i. All (Has n) i.related) now.items) same_length
          (holds (λ i. All (Has (length t.items)) i.related) (λ h. related_there (map (bought t) (buyers t asked.item)) asked.item (length t.items) has sound.six) sound.names.related);
      orders =
          All-weaker (OrderNames t) (OrderNames now)
          (λ (o : OrderRow) h. record { customer = h.customer; ship_address = h.ship_address; country = h.country; items = subst (λ n. All (λ l. Has n l.item) o.lines) same_length h.items })
          t.orders sound.names.orders;
      carts =
          All-weaker (λ (c : CartRow). All (λ l. Has (length t.items) l.0) c.lines) (λ (c : CartRow). All (λ l. Has (length now.items) l.0) c.lines)
          (λ c h. subst (λ n. All (λ l. Has n l.0) c.lines) same_length h) t.carts sound.names.carts;
      last = sound.names.last;
    };
    related = All-set HasFive t.items (asked.item - 1) row five sound.related;
    users = sound.users;
    ids = record {
      countries = sound.ids.countries;
      addresses = sound.ids.addresses;
      customers = sound.ids.customers;
      authors = sound.ids.authors;
      items = subst Runs (sym seen) sound.ids.items;
      orders = sound.ids.orders;
      carts = sound.ids.carts;
    };
    carts = sound.carts;
    last = sound.last;
    bounds = record {
      countries = sound.bounds.countries;
      customers = sound.bounds.customers;
      items =
          holds IsItem
          (λ h. record { published = day_bound; srp = h.srp; cost = form.cost.low; stock = h.stock; first_stock = h.first_stock; restocks = h.restocks })
          sound.bounds.items;
      orders = sound.bounds.orders;
      lines = sound.bounds.lines;
      cards = sound.bounds.cards;
      carts = sound.bounds.carts;
    };
    countries = sound.countries;
    six = omega (arith, sound.six, same_length);
    born = sound.born;
    born_items = omega (arith, sound.born_items, same_length);
  }
