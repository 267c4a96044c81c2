-- Rows by their ids. What names a row that is not there, which sound tables rule out, gets an
-- empty one.
use Rattle.std.specs.Prelude.{ℕ, ◌-◌, ◌==◌, List, [], if◌then◌else◌, slice_get, Option, Some, None, option_map, unwrap_or}
use Rattle.shop_model.specs.declared.author.Author.{Author}
use Rattle.shop_model.specs.declared.tables.Tables.{Tables}
use Rattle.shop_model.specs.rows.Rows.{ItemRow, OrderRow}

-- the row with an id, where ids run from 1
abbrev pub row_numbered : {A : Type 0} → List A → ℕ → Option A
row_numbered rows id = if id == 0 then None else slice_get rows (id - 1)

-- the author of an item
abbrev pub author_of : Tables → ItemRow → Author
author_of tables item =
    unwrap_or (row_numbered tables.authors item.author) (record { id = 0; first = []; last = [] })

-- the title of the item with an id
abbrev pub title_of : Tables → ℕ → List ℕ
title_of tables id = unwrap_or (option_map (λ i. i.title) (row_numbered tables.items id)) []

-- the items that are related to the item with an id
abbrev pub related_of : Tables → ℕ → List ℕ
related_of tables id = unwrap_or (option_map (λ i. i.related) (row_numbered tables.items id)) []

-- the cost of one unit of the item with an id
abbrev pub cost_of : Tables → ℕ → ℕ
cost_of tables id = unwrap_or (option_map (λ i. i.cost) (row_numbered tables.items id)) 0

-- the city of the address with an id
abbrev pub city_of : Tables → ℕ → List ℕ
city_of tables id = unwrap_or (option_map (λ a. a.text.city) (row_numbered tables.addresses id)) []

-- the country of the address with an id
abbrev pub country_of : Tables → ℕ → ℕ
country_of tables id = unwrap_or (option_map (λ a. a.text.country) (row_numbered tables.addresses id)) 0

-- the name of the country with an id
abbrev pub country_name : Tables → ℕ → List ℕ
country_name tables id = unwrap_or (option_map (λ c. c.name) (row_numbered tables.countries id)) []

-- the rate of the country with an id
abbrev pub rate_of : Tables → ℕ → ℕ
rate_of tables id = unwrap_or (option_map (λ c. c.rate) (row_numbered tables.countries id)) 0

-- what may be there may itself be there or not
abbrev pub joined : {A : Type 0} → Option (Option A) → Option A
joined None = None
joined (Some x) = x

-- the order with an id, where there is an id
abbrev pub order_of : Tables → Option ℕ → Option OrderRow
order_of tables None = None
order_of tables (Some id) = row_numbered tables.orders id

-- the last order of the customer with an id
abbrev pub last_order : Tables → ℕ → Option OrderRow
last_order tables customer = order_of tables (joined (row_numbered tables.last customer))
