-- Tables of the desk in which two addresses say the same are tables of the desk.
use Rattle.std.proofs.Common.{◌≡◌, ◌<◌, List, [], ◌∷◌, length, map, All, slice_index_or, slice_set, refl, sym, subst, arith}
use Rattle.std.proofs.lemmas.List.Elements.{All-weaker, All-cons, All-head, All-tail}
use Rattle.shop_model.specs.declared.address.Address.{Address}
use Rattle.shop_model.specs.declared.tables.Tables.{Tables}
use Rattle.shop_model.specs.rows.Sound.{Sound, Has, IsStocked, OrderNames, Runs}
use Rattle.shop_answers.specs.Desks.{IsDesk, twinned}

pub twinned_few : (addresses : List Address) → length addresses < 2 → addresses ≡ twinned addresses
unfolding twinned
twinned_few [] few = refl
twinned_few (a ∷ []) few = refl
twinned_few (a ∷ b ∷ rest) few = absurd (omega (arith, few))

pub twinned_set : (addresses : List Address) (a b : Address) → 1 < length addresses
    → slice_set addresses 1 (record (slice_index_or addresses 1 b) { text = (slice_index_or addresses 0 a).text }) ≡ twinned addresses
unfolding twinned
twinned_set [] a b two = absurd (omega (arith, two))
twinned_set (x ∷ []) a b two = absurd (omega (arith, two))
twinned_set (x ∷ y ∷ rest) a b two = refl

twins_ids : (addresses : List Address) → map (λ a. a.id) (twinned addresses) ≡ map (λ a. a.id) addresses
unfolding twinned
twins_ids [] = refl
twins_ids (a ∷ []) = refl
twins_ids (a ∷ b ∷ rest) = refl

twins_length : (addresses : List Address) → length (twinned addresses) ≡ length addresses
unfolding twinned
twins_length [] = refl
twins_length (a ∷ []) = refl
twins_length (a ∷ b ∷ rest) = refl

twins_all : (P : Address → Type 0) (addresses : List Address) → ((a b : Address) → P a → P (record b { text = a.text }))
    → All P addresses → All P (twinned addresses)
unfolding twinned
twins_all P [] same all = all
twins_all P (a ∷ []) same all = all
twins_all P (a ∷ b ∷ rest) same all =
    let first : P a = All-head P a (b ∷ rest) all in
    let others : All P (b ∷ rest) = All-tail P a (b ∷ rest) all in
    All-cons P a (record b { text = a.text } ∷ rest) first (All-cons P (record b { text = a.text }) rest (same a b first) (All-tail P b rest others))

twins_sound : (t : Tables) → Sound t → Sound (record t { addresses = twinned t.addresses })
twins_sound t sound =
    let addresses : List Address = twinned t.addresses in
    let many : length addresses ≡ length t.addresses = twins_length t.addresses in
    record {
      lines = sound.lines;
      charges = sound.charges;
      payments = sound.payments;
      stock = All-weaker (IsStocked t) (IsStocked (record t { addresses = addresses })) (λ i h. record { level = h.level; low = h.low }) t.items sound.stock;
      names = record {
        addresses = twins_all (λ (a : Address). Has (length t.countries) a.text.country) t.addresses (λ a b h. h) sound.names.addresses;
        customers = subst (λ n. All (λ c. Has n c.address) t.customers) (sym many) sound.names.customers;
        authors = record { authors = sound.names.authors.authors };
        related = sound.names.related;
        orders =
            All-weaker (OrderNames t) (OrderNames (record t { addresses = addresses }))
            (λ o h. record { customer = h.customer; ship_address = subst (λ n. Has n o.ship_address) (sym many) h.ship_address; country = h.country; items = h.items })
            t.orders sound.names.orders;
        carts = sound.names.carts;
        last = sound.names.last;
      };
      related = sound.related;
      users = sound.users;
      ids = record {
        countries = sound.ids.countries;
        addresses = subst Runs (sym (twins_ids t.addresses)) sound.ids.addresses;
        customers = sound.ids.customers;
        authors = sound.ids.authors;
        items = sound.ids.items;
        orders = sound.ids.orders;
        carts = sound.ids.carts;
      };
      carts = sound.carts;
      last = sound.last;
      bounds = record {
        countries = sound.bounds.countries;
        customers = sound.bounds.customers;
        items = sound.bounds.items;
        orders = sound.bounds.orders;
        lines = sound.bounds.lines;
        cards = sound.bounds.cards;
        carts = sound.bounds.carts;
      };
      countries = sound.countries;
      six = sound.six;
      born = sound.born;
      born_items = sound.born_items;
    }

pub twins_desk : (t : Tables) → IsDesk t → IsDesk (record t { addresses = twinned t.addresses })
twins_desk t desk =
    let room = desk.good.room_for in
    record {
      good = record {
        sound = twins_sound t desk.good.sound;
        room_for = record {
          countries = room.countries;
          addresses = omega (arith, twins_length t.addresses, room.addresses);
          customers = room.customers;
          authors = room.authors;
          items = room.items;
          orders = room.orders;
          carts = room.carts;
          restocks = room.restocks;
        };
      };
      born = desk.born;
      born_items = desk.born_items;
      items = desk.items;
    }
