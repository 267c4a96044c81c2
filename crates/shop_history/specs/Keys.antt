-- What keys show.
use Rattle.std.specs.Prelude.{length, Option, Some, None, option_map}
use Rattle.shop_model.specs.declared.tables.Tables.{Tables}
use Rattle.shop_model.specs.rows.Lookups.{row_numbered, author_of, joined}
use Rattle.shop_model.specs.lists.Catalogues.{added, found}
use Rattle.shop_model.specs.lists.Rankings.{newest, best}
use Rattle.shop_model.specs.lists.Related.{buyers, bought}
use Rattle.shop_model.specs.rows.Rows.{ItemRow}
use Rattle.shop_model.specs.trade.Buyers.{customer_named, address_saying}
use Rattle.shop_history.specs.declared.keys.Key as key
use Rattle.shop_history.specs.declared.keys.Key.{Key}
use Rattle.shop_history.specs.Labels.{LabelRow}
use Rattle.shop_history.specs.declared.keys.Row as row
use Rattle.shop_history.specs.declared.keys.Row.{Row}

-- a row of this kind, where there is one
abbrev pub shown : {A : Type 0} → (A → Row) → Option A → Row
shown make None = row.TheVariants.Absent
shown make (Some x) = make x

-- how an item is named in lists
abbrev pub label_of : Tables → ItemRow → LabelRow
label_of t item =
    record { title = item.title; first = (author_of t item).first; last = (author_of t item).last }

-- what a key shows
abbrev pub row_of : Tables → Key → Row
row_of t (key.TheVariants.Item id) = shown row.TheVariants.Item (row_numbered t.items id)
row_of t (key.TheVariants.Label id) = shown (λ item. row.TheVariants.Label (label_of t item)) (row_numbered t.items id)
row_of t (key.TheVariants.Customer id) = shown row.TheVariants.Customer (row_numbered t.customers id)
row_of t (key.TheVariants.Cart id) = shown row.TheVariants.Cart (row_numbered t.carts id)
row_of t (key.TheVariants.NewIn subject) = row.TheVariants.Items (newest t subject)
row_of t (key.TheVariants.BestIn subject) = row.TheVariants.Items (best t subject)
row_of t (key.TheVariants.Buyers item) = row.TheVariants.Customers (buyers t item)
row_of t (key.TheVariants.Bought customer) = row.TheVariants.Totals (bought t customer)
row_of t (key.TheVariants.Name user) = shown row.TheVariants.Id (option_map (λ c. c.id) (customer_named t user))
row_of t (key.TheVariants.Address id) = shown row.TheVariants.Address (row_numbered t.addresses id)
row_of t (key.TheVariants.SameAddress text) = shown row.TheVariants.Id (option_map (λ a. a.id) (address_saying t text))
row_of t (key.TheVariants.Country id) = shown row.TheVariants.Country (row_numbered t.countries id)
row_of t (key.TheVariants.Order id) = shown row.TheVariants.Order (row_numbered t.orders id)
row_of t (key.TheVariants.LastOrder customer) = shown row.TheVariants.Id (joined (row_numbered t.last customer))
row_of t key.TheVariants.Count = row.TheVariants.Number (length t.items)
row_of t (key.TheVariants.Added search) = row.TheVariants.Items (found (added t) search.kind search.text)
