-- What a settle draws, as a page shows it: ids, a user name, a day.
use Rattle.std.specs.Prelude.{ℕ, ◌+◌, min, List, [], Option, Some, None, option_map, unwrap_or, decimal}
use Rattle.shop_text.specs.Texts.{digsyl, day_text, escape}
use Rattle.shop_model.specs.declared.requests.IdsAsked.{IdsAsked}
use Rattle.shop_model.specs.rows.Limits.{day_limit, day_of}
use Rattle.shop_history.specs.declared.acts.Drawn.{Drawn}
use Rattle.shop_draft.specs.declared.holes.Hole.{Hole}
use Rattle.shop_draft.specs.declared.holes.Hole.TheVariants.{CartId, CustomerId, OrderId, User, Day}
use Rattle.shop_draft.specs.declared.ids.Id.{Id}
use Rattle.shop_draft.specs.declared.ids.Id.TheVariants.{Known, NewCart, NewCustomer, NewOrder}
use Rattle.shop_draft.specs.declared.ids.PageIds.{PageIds}

-- an id that a settle may have drawn; 0 where it did not
abbrev pub or_zero : Option ℕ → ℕ
or_zero id = unwrap_or id 0

-- the number of an id
abbrev pub id_at : Drawn → Id → ℕ
id_at drawn (Known id) = id
id_at drawn NewCart = or_zero drawn.ids.cart
id_at drawn NewCustomer = or_zero drawn.ids.customer
id_at drawn NewOrder = or_zero drawn.ids.order

-- the number of an id, where there is one
abbrev pub maybe_at : Drawn → Option Id → Option ℕ
maybe_at drawn id = option_map (id_at drawn) id

-- the ids that a page hands on
abbrev pub ids_at : Drawn → PageIds → IdsAsked
ids_at drawn ids = record { c = maybe_at drawn ids.c; cart = maybe_at drawn ids.cart }

-- the user name of the customer with an id; none where there is none
abbrev pub user_text : Option ℕ → List ℕ
user_text None = []
user_text (Some customer) = digsyl customer

-- the user name of a customer, known or new; what is made for a cart or an order has none
abbrev pub user_at : Drawn → Id → List ℕ
user_at drawn (Known id) = digsyl id
user_at drawn NewCustomer = user_text drawn.ids.customer
user_at drawn NewCart = []
user_at drawn NewOrder = []

-- the day that comes so many days after that of a stamp, 9999-12-31 at most
abbrev pub day_after : ℕ → ℕ → ℕ
day_after stamp later = min (day_of stamp + later) day_limit

-- the text of what a hole stands for
abbrev pub drawn_text : Drawn → Hole → List ℕ
drawn_text drawn CartId = decimal (or_zero drawn.ids.cart)
drawn_text drawn CustomerId = decimal (or_zero drawn.ids.customer)
drawn_text drawn OrderId = decimal (or_zero drawn.ids.order)
drawn_text drawn User = user_text drawn.ids.customer
drawn_text drawn (Day later) = day_text (day_after drawn.stamp later)

-- what fills a hole
unfoldable pub hole_text : Drawn → Hole → List ℕ
hole_text drawn hole = escape (drawn_text drawn hole)

-- the most bytes of one: the user name of the largest id
abbrev pub hole_room : ℕ
hole_room = 20
