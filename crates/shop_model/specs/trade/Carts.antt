-- What a request for the shopping cart makes of a cart, and when it is refused; all this project's
-- own after the TPC-W specification's Shopping Cart. Lines are pairs of an item and a quantity.
use Rattle.std.specs.Prelude.{ℕ, ◌+◌, ◌-◌, ◌%◌, ◌==◌, ◌&&◌, ◌||◌, not, nat_eq, nat_lt, Bool, List, [], ◌∷◌, ◌++◌, length, slice_set, Option, Some, None, option_map, unwrap_or, is_some, if◌then◌else◌}
use Rattle.std.specs.Map.{lookup}
use Rattle.shop_model.specs.declared.refusal.Refusal.{Refusal}
use Rattle.shop_model.specs.declared.refusal.Refusal.TheVariants.{NoItem, NoCart, FullLine, FullCart}
use Rattle.shop_model.specs.declared.tables.Tables.{Tables}
use Rattle.shop_model.specs.asked.CartAsked.{CartAsked}
use Rattle.shop_model.specs.rows.Limits.{lines_limit, quantity_limit}
use Rattle.shop_model.specs.rows.Lookups.{row_numbered}
use Rattle.shop_model.specs.rows.Rows.{CartRow}

-- the units of an item in these lines, 0 where it has none
unfoldable pub quantity_of : ℕ → List (ℕ × ℕ) → ℕ
quantity_of item lines = unwrap_or (lookup (nat_eq item) lines) 0

-- a quantity set: a line that is there takes it in place, or goes at 0, and a new one comes last
unfoldable pub set_line : ℕ → ℕ → List (ℕ × ℕ) → List (ℕ × ℕ)
set_line item quantity [] = if quantity == 0 then [] else (item, quantity) ∷ []
set_line item quantity (line ∷ lines) =
    if nat_eq item line.0 then (if quantity == 0 then lines else (line.0, quantity) ∷ lines)
    else line ∷ set_line item quantity lines

-- quantities set one after another
unfoldable pub set_lines : List (ℕ × ℕ) → List (ℕ × ℕ) → List (ℕ × ℕ)
set_lines [] lines = lines
set_lines (set ∷ sets) lines = set_lines sets (set_line set.0 set.1 lines)

-- one unit more of an item, where one is named
abbrev pub one_more : Option ℕ → List (ℕ × ℕ) → List (ℕ × ℕ)
one_more None lines = []
one_more (Some item) lines = (item, quantity_of item lines + 1) ∷ []

-- the quantities that a request sets: one unit more of its item, then its sets in their order
abbrev pub wanted : CartAsked → List (ℕ × ℕ) → List (ℕ × ℕ)
wanted asked lines = one_more asked.item lines ++ asked.sets

-- a cart that would be empty gets one unit of a drawn item
abbrev pub or_drawn : ℕ → ℕ → List (ℕ × ℕ) → List (ℕ × ℕ)
or_drawn items draw [] = (1 + draw % items, 1) ∷ []
or_drawn items draw (line ∷ lines) = line ∷ lines

-- the lines that a request makes of these, in a shop of so many items
unfoldable pub cart_lines : ℕ → CartAsked → ℕ → List (ℕ × ℕ) → List (ℕ × ℕ)
cart_lines items asked draw lines = or_drawn items draw (set_lines (wanted asked lines) lines)

-- no item has this id
abbrev pub is_no_item : ℕ → ℕ → Bool
is_no_item items id = (id == 0) || nat_lt items id

-- a set would add a line to as many as a cart holds
abbrev pub is_too_many : ℕ → ℕ → List (ℕ × ℕ) → Bool
is_too_many item quantity lines =
    not (quantity == 0) && not (is_some (lookup (nat_eq item) lines)) && not (nat_lt (length lines) lines_limit)

-- why a quantity can't be set
unfoldable pub check_line : ℕ → ℕ → ℕ → List (ℕ × ℕ) → Option Refusal
check_line items item quantity lines =
    if is_no_item items item then Some NoItem
    else if nat_lt quantity_limit quantity then Some FullLine
    else if is_too_many item quantity lines then Some FullCart
    else None

-- the first refusal of two
abbrev pub first_of : Option Refusal → Option Refusal → Option Refusal
first_of (Some refusal) other = Some refusal
first_of None other = other

-- why the first quantity that can't be set can't be, when they are set one after another
unfoldable pub check_lines : ℕ → List (ℕ × ℕ) → List (ℕ × ℕ) → Option Refusal
check_lines items [] lines = None
check_lines items (set ∷ sets) lines =
    first_of (check_line items set.0 set.1 lines) (check_lines items sets (set_line set.0 set.1 lines))

-- the lines that a request begins with: none of a new cart, and no list where the cart that it names is not there
abbrev pub lines_named : List CartRow → Option ℕ → Option (List (ℕ × ℕ))
lines_named carts None = Some []
lines_named carts (Some id) = option_map (λ c. c.lines) (row_numbered carts id)

-- why a request for these lines is refused
abbrev pub check_asked : ℕ → CartAsked → Option (List (ℕ × ℕ)) → Option Refusal
check_asked items asked None = Some NoCart
check_asked items asked (Some lines) = check_lines items (wanted asked lines) lines

-- why a request for a cart is refused, if it is: the cart is there; then, one by one, its items are, and the lines hold them
abbrev pub check_cart : Tables → CartAsked → Option Refusal
check_cart t asked = check_asked (length t.items) asked (lines_named t.carts asked.ids.cart)

-- the lines that a request which is not refused leaves
abbrev pub lines_after : Tables → CartAsked → ℕ → List (ℕ × ℕ)
lines_after t asked draw =
    cart_lines (length t.items) asked draw (unwrap_or (lines_named t.carts asked.ids.cart) [])

-- the id of the cart that a request is about: the one that it names, or the next
abbrev pub cart_meant : List CartRow → Option ℕ → ℕ
cart_meant carts None = length carts + 1
cart_meant carts (Some id) = id

-- a cart with these lines: in its place, or a new one behind the others
abbrev pub carts_with : List CartRow → Option ℕ → List (ℕ × ℕ) → List CartRow
carts_with carts None lines = carts ++ record { id = length carts + 1; lines = lines } ∷ []
carts_with carts (Some id) lines = slice_set carts (id - 1) (record { id = id; lines = lines })
