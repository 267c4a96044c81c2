-- The lists of new and of best sold items of a subject. How the TPC-W specification's New Products
-- and Best Sellers break ties is this project's own.
use Rattle.std.specs.Prelude.{ℕ, ◌-◌, nat_lt, List, [], ◌∷◌, length, map, filter, take, drop, sum_by, if◌then◌else◌}
use Rattle.std.specs.declared.cmp.Ordering.{Ordering}
use Rattle.std.specs.Ordering.{is_gt, ordering_then, nat_cmp}
use Rattle.std.specs.Cmp.Lexicographic.{slice_cmp}
use Rattle.std.specs.Str.{bytes_eq}
use Rattle.shop_model.specs.declared.subject.Subject.{Subject}
use Rattle.shop_model.specs.declared.tables.Tables.{Tables}
use Rattle.shop_model.specs.rows.Limits.{list_limit, counted_orders}
use Rattle.shop_model.specs.rows.Rows.{ItemRow, OrderRow}
use Rattle.shop_model.specs.rows.Sound.{units_in}
use Rattle.shop_model.specs.rows.Subjects.{subject_name}

-- an element among others in order: before the first that it does not come after
unfoldable pub put_among : {A : Type 0} → (A → A → Ordering) → A → List A → List A
put_among order x [] = x ∷ []
put_among order x (y ∷ ys) = if is_gt (order x y) then y ∷ put_among order x ys else x ∷ y ∷ ys

-- elements in order
unfoldable pub in_order : {A : Type 0} → (A → A → Ordering) → List A → List A
in_order order [] = []
in_order order (x ∷ xs) = put_among order x (in_order order xs)

-- the items of a subject
abbrev pub in_subject : Subject → List ItemRow → List ItemRow
in_subject subject items = filter (λ i. bytes_eq (subject_name i.subject) (subject_name subject)) items

-- later days come first, then titles in the order of their bytes, then smaller ids
abbrev pub newer : ItemRow → ItemRow → Ordering
newer a b =
    ordering_then (nat_cmp b.published a.published)
    (ordering_then (slice_cmp nat_cmp a.title b.title) (nat_cmp a.id b.id))

-- the ids of the newest items of a subject
unfoldable pub newest : Tables → Subject → List ℕ
newest t subject = map (λ i. i.id) (take list_limit (in_order newer (in_subject subject t.items)))

-- the orders that count: the latest ones
abbrev pub latest_orders : List OrderRow → List OrderRow
latest_orders orders = drop (length orders - counted_orders) orders

-- the units of an item in the orders that count
unfoldable pub sold_lately : Tables → ℕ → ℕ
sold_lately t item = sum_by (λ o. units_in item o.lines) (latest_orders t.orders)

-- an item, and the units of it that were sold lately
pub record Sale : Type 0 where
  pub id : ℕ
  pub units : ℕ

-- the items of a subject of which some were sold lately
abbrev pub sales : Tables → Subject → List Sale
sales t subject =
    filter (λ s. nat_lt 0 s.units)
    (map (λ i. record { id = i.id; units = sold_lately t i.id }) (in_subject subject t.items))

-- more units come first, then smaller ids
abbrev pub better : Sale → Sale → Ordering
better a b = ordering_then (nat_cmp b.units a.units) (nat_cmp a.id b.id)

-- the ids of the best sold items of a subject
unfoldable pub best : Tables → Subject → List ℕ
best t subject = map (λ s. s.id) (take list_limit (in_order better (sales t subject)))
