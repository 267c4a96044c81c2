-- Sound tables stay sound with other carts whose ids run and whose lines are fit.
use Rattle.std.proofs.Common.{◌≡◌, ℕ, suc, ◌+◌, ◌-◌, ◌^◌, ◌<◌, List, [], ◌∷◌, ◌++◌, length, map, Some, slice_set, get_or, All, sym, ◌∙◌, ap, subst, arith, length-append}
use Rattle.std.specs.List.{range_with_len}
use Rattle.std.proofs.Math.Seq.{map-set_same}
use Rattle.std.proofs.lemmas.List.{length-map, map-append}
use Rattle.std.proofs.lemmas.List.Elements.{All-weaker, All-push, All-set}
use Rattle.std.proofs.lemmas.Option.{get_or_from_slice_get}
use Rattle.shop_text.proofs.cited.Lists.{range_more}
use Rattle.shop_model.specs.declared.tables.Tables.{Tables}
use Rattle.shop_model.specs.rows.Lookups.{row_numbered}
use Rattle.shop_model.specs.rows.Rows.{CartRow}
use Rattle.shop_model.specs.rows.Sound.{Sound, IsFit, IsStocked, Runs, OrderNames}
use Rattle.shop_history.proofs.Lines.{AreFit}
use Rattle.shop_history.proofs.cited.Places.{IsThere, is_there, id_numbered}

-- carts in a shop of so many items: their ids run, and their lines are fit
pub record AreSound (items : ℕ) (carts : List CartRow) : Type 0 where
  pub runs : Runs (map (λ c. c.id) carts)
  pub fit : All (λ c. AreFit items c.lines) carts

pub carts_sound : (t : Tables) → Sound t → AreSound (length t.items) t.carts
carts_sound t sound = record {
  runs = sound.ids.carts;
  fit = λ k d within.
      let fit : IsFit (get_or t.carts k d) = sound.carts k d within in
      record { few = fit.few; distinct = fit.distinct; quantities = fit.quantities; exist = sound.names.carts k d within };
}

pub sound_with : (t : Tables) (carts : List CartRow) → AreSound (length t.items) carts → Sound t → Sound (record t { carts = carts })
sound_with t carts are sound = record {
  lines = sound.lines;
  charges = sound.charges;
  payments = sound.payments;
  stock = All-weaker (IsStocked t) (IsStocked (record t { carts = carts })) (λ i h. record { level = h.level; low = h.low }) t.items sound.stock;
  names = record {
    addresses = sound.names.addresses;
    customers = sound.names.customers;
    authors = record { authors = sound.names.authors.authors };
    related = sound.names.related;
    orders =
        All-weaker (OrderNames t) (OrderNames (record t { carts = carts }))
        (λ o h. record { customer = h.customer; ship_address = h.ship_address; country = h.country; items = h.items }) t.orders sound.names.orders;
    carts = λ k d within. (are.fit k d within).exist;
    last = sound.names.last;
  };
  related = sound.related;
  users = sound.users;
  ids = record {
    countries = sound.ids.countries;
    addresses = sound.ids.addresses;
    customers = sound.ids.customers;
    authors = sound.ids.authors;
    items = sound.ids.items;
    orders = sound.ids.orders;
    carts = are.runs;
  };
  carts = λ k d within. let fit = are.fit k d within in record { few = fit.few; distinct = fit.distinct; quantities = fit.quantities };
  last = sound.last;
  bounds = record {
    countries = sound.bounds.countries;
    customers = sound.bounds.customers;
    items = sound.bounds.items;
    orders = sound.bounds.orders;
    lines = sound.bounds.lines;
    cards = sound.bounds.cards;
    carts = λ k d within. record { quantities = λ i l inside. ((are.fit k d within).quantities i l inside).few };
  };
  countries = sound.countries;
  six = sound.six;
  born = sound.born;
  born_items = sound.born_items;
}

-- a new cart, and one in the place of another

pub runs_push : (ids : List ℕ) (id : ℕ) → id ≡ 1 + length ids → id < 2 ^ 32 → Runs ids → Runs (ids ++ id ∷ [])
runs_push ids id next fits runs =
    let longer : suc (length ids) ≡ length (ids ++ id ∷ []) = omega (arith, length-append ids (id ∷ [])) in
    record {
      from_one = ap (λ ns. ns ++ id ∷ []) runs.from_one ∙ ap (λ m. range_with_len 1 (length ids) ++ m ∷ []) next ∙ sym (range_more 1 (length ids)) ∙ ap (range_with_len 1) longer;
      fits = omega (arith, longer, next, fits);
    }

pub push_sound : (items : ℕ) (carts : List CartRow) (cart : CartRow) → cart.id ≡ length carts + 1 → length carts + 1 < 2 ^ 32
    → AreFit items cart.lines → AreSound items carts → AreSound items (carts ++ cart ∷ [])
push_sound items carts cart next fits fit are =
    let ids : List ℕ = map (λ c. c.id) carts in
    record {
      runs =
          subst Runs (sym (map-append (λ (c : CartRow). c.id) carts (cart ∷ [])))
          (runs_push ids cart.id (omega (arith, next, length-map carts (λ (c : CartRow). c.id))) (omega (arith, next, fits)) are.runs);
      fit = All-push (λ (c : CartRow). AreFit items c.lines) carts cart are.fit fit;
    }

pub set_sound : (items : ℕ) (carts : List CartRow) (was cart : CartRow) → row_numbered carts cart.id ≡ Some was
    → AreFit items cart.lines → AreSound items carts → AreSound items (slice_set carts (cart.id - 1) cart)
set_sound items carts was cart is fit are =
    let id_of : CartRow → ℕ = λ c. c.id in
    let there : IsThere carts cart.id was = is_there carts cart.id was is in
    let same : cart.id ≡ was.id = sym (id_numbered id_of carts cart.id was are.runs is) in
    let at : was.id ≡ (get_or carts (cart.id - 1) was).id = ap id_of (sym (get_or_from_slice_get carts (cart.id - 1) was was there.at)) in
    record {
      runs = subst Runs (sym (map-set_same id_of carts (cart.id - 1) cart was (same ∙ at))) are.runs;
      fit = All-set (λ (c : CartRow). AreFit items c.lines) carts (cart.id - 1) cart fit are.fit;
    }
