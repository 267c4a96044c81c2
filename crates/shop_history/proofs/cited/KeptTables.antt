-- What acts keep of the tables, and that tables only grow.
use Rattle.std.proofs.Common.{◌≡◌, ℕ, ◌-◌, ◌≤◌, List, [], ◌∷◌, length, map, take, slice_set, Option, Some, None, refl, sym, ◌∙◌, ap, subst, arith, length-append}
use Rattle.std.proofs.lemmas.List.{length-map, length-set}
use Rattle.shop_log.proofs.cited.ListEnds.{by_end}
use Rattle.shop_model.specs.declared.buying.Buyer.{Buyer}
use Rattle.shop_model.specs.declared.buying.Buyer.TheVariants.{Returning, Newcomer}
use Rattle.shop_model.specs.declared.tables.Tables.{Tables}
use Rattle.shop_model.specs.lists.Catalogues.{Naming, naming, opened}
use Rattle.shop_model.specs.asked.AdminAsked.{AdminAsked}
use Rattle.shop_model.specs.asked.PurchaseAsked.{PurchaseAsked}
use Rattle.shop_model.specs.rows.Lookups.{row_numbered}
use Rattle.shop_model.specs.rows.Rows.{ItemRow, CustomerRow, OrderRow}
use Rattle.shop_model.specs.trade.Adding.{added_item, with_item}
use Rattle.shop_model.specs.trade.Buyers.{tables_entered}
use Rattle.shop_model.specs.trade.Mending.{mended_item, with_mended}
use Rattle.shop_model.specs.trade.Sales.{Terms, new_order, sold_item, with_purchase, tables_bought}
use Rattle.shop_model.proofs.cited.Opened.{opened_push}
use Rattle.shop_history.specs.declared.acts.Act.{Act}
use Rattle.shop_history.specs.declared.acts.Act.TheVariants.{Cart, Enter, Confirm, Admin, Add}
use Rattle.shop_history.specs.declared.acts.Entry.{Entry}
use Rattle.shop_history.specs.Acts.{play}
use Rattle.shop_history.specs.Logs.{after, tables, SameCatalogue}
use Rattle.shop_history.proofs.cited.Places.{seen_set}
use Rattle.shop_history.proofs.cited.Rows.{tables_nil, tables_push}

-- tables that opened with what others opened with, and have their authors, their countries, and no fewer items
pub record Keeps (t u : Tables) : Type 0 where
  pub catalogue : SameCatalogue t u
  pub authors : u.authors ≡ t.authors
  pub countries : u.countries ≡ t.countries
  pub born_orders : u.born_orders ≡ t.born_orders
  pub born_items : u.born_items ≡ t.born_items
  pub items : length t.items ≤ length u.items

same_tables : (t : Tables) → Keeps t t
same_tables t = record { catalogue = refl; authors = refl; countries = refl; born_orders = refl; born_items = refl; items = omega arith }

-- what others see of the items is all that the catalogue says of them
seen_opened : (t : Tables) (items : List ItemRow) → map naming items ≡ map naming t.items → opened (record t { items = items }) ≡ opened t
seen_opened t items same = ap (λ (names : List Naming). record { items = take t.born_items names; authors = t.authors }) same

enter_keeps : (t : Tables) (stamp draw : ℕ) (buyer : Buyer) → Keeps t (tables_entered t stamp draw buyer)
enter_keeps t stamp draw (Returning asked) = record { catalogue = refl; authors = refl; countries = refl; born_orders = refl; born_items = refl; items = omega arith }
enter_keeps t stamp draw (Newcomer asked) = record { catalogue = refl; authors = refl; countries = refl; born_orders = refl; born_items = refl; items = omega arith }

-- a map that leaves what another sees
pub map_seen : {A B : Type 0} (see : A → B) (f : A → A) (xs : List A) → ((x : A) → see (f x) ≡ see x) → map see (map f xs) ≡ map see xs
map_seen see f [] same = refl
map_seen see f (x ∷ xs) same = rw (same x, map_seen see f xs same) refl

purchase_keeps : (t : Tables) (asked : PurchaseAsked) (order : OrderRow) → Keeps t (with_purchase t asked order)
purchase_keeps t asked order = record {
  catalogue = seen_opened t (map (sold_item order) t.items) (map_seen naming (sold_item order) t.items (λ i. refl));
  authors = refl;
  countries = refl;
  born_orders = refl;
  born_items = refl;
  items = omega (arith, length-map t.items (sold_item order));
}

confirm_keeps : (t : Tables) (stamp draw : ℕ) (terms : Terms) (asked : PurchaseAsked) (customer : Option CustomerRow) → Keeps t (tables_bought t stamp draw terms asked customer)
confirm_keeps t stamp draw terms asked None = same_tables t
confirm_keeps t stamp draw terms asked (Some customer) = purchase_keeps t asked (new_order t stamp draw terms asked customer)

admin_keeps : (t : Tables) (stamp : ℕ) (asked : AdminAsked) (item : Option ItemRow) → row_numbered t.items asked.item ≡ item → Keeps t (with_mended t stamp asked item)
admin_keeps t stamp asked None there = same_tables t
admin_keeps t stamp asked (Some item) there = record {
  catalogue =
      seen_opened t (slice_set t.items (asked.item - 1) (mended_item t stamp asked item))
      (seen_set naming t.items asked.item item (mended_item t stamp asked item) there refl);
  authors = refl;
  countries = refl;
  born_orders = refl;
  born_items = refl;
  items = omega (arith, length-set t.items (asked.item - 1) (mended_item t stamp asked item));
}

add_keeps : (t : Tables) (item : ItemRow) → t.born_items ≤ length t.items → Keeps t (with_item t item)
add_keeps t item within = record {
  catalogue = opened_push t item within;
  authors = refl;
  countries = refl;
  born_orders = refl;
  born_items = refl;
  items = omega (arith, length-append t.items (item ∷ []));
}

pub play_keeps : (t : Tables) (stamp : ℕ) (act : Act) → t.born_items ≤ length t.items → Keeps t (play t stamp act).tables
play_keeps t stamp (Cart asked draw) within = record { catalogue = refl; authors = refl; countries = refl; born_orders = refl; born_items = refl; items = omega arith }
play_keeps t stamp (Enter asked draw) within = enter_keeps t stamp draw asked.buyer
play_keeps t stamp (Confirm asked draw auth tax) within = confirm_keeps t stamp draw (record { auth = auth; tax = tax }) asked (row_numbered t.customers asked.c)
play_keeps t stamp (Admin asked) within = admin_keeps t stamp asked (row_numbered t.items asked.item) refl
play_keeps t stamp (Add asked) within = add_keeps t (added_item t stamp asked) within

keeps_then : (t u w : Tables) → Keeps t u → Keeps u w → Keeps t w
keeps_then t u w first second = record {
  catalogue = second.catalogue ∙ first.catalogue;
  authors = second.authors ∙ first.authors;
  countries = second.countries ∙ first.countries;
  born_orders = second.born_orders ∙ first.born_orders;
  born_items = second.born_items ∙ first.born_items;
  items = omega (arith, first.items, second.items);
}

pub kept : (t : Tables) (log : List Entry) → t.born_items ≤ length t.items → Keeps t (tables t log)
kept t log within =
    by_end (λ log. Keeps t (tables t log))
    (subst (Keeps t) (sym (tables_nil t)) (same_tables t))
    (λ log entry before.
    let still : (tables t log).born_items ≤ length (tables t log).items = omega (arith, within, before.born_items, before.items) in
    subst (Keeps t) (sym (tables_push t log entry)) (keeps_then t (tables t log) (after (tables t log) entry) before (play_keeps (tables t log) entry.stamp entry.act still)))
    log

-- tables with at least as many rows as others
pub record Grows (t u : Tables) : Type 0 where
  pub addresses : length t.addresses ≤ length u.addresses
  pub customers : length t.customers ≤ length u.customers
  pub items : length t.items ≤ length u.items
  pub orders : length t.orders ≤ length u.orders
  pub carts : length t.carts ≤ length u.carts
  pub last : length t.last ≤ length u.last
