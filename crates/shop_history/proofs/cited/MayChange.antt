-- An act changes no other keys than those that it may.
use Rattle.std.proofs.Common.{◌≡◌, ◌≢◌, ℕ, zero, suc, ◌+◌, ◌≤◌, cond, eqb, subst, List, [], ◌∷◌, length, Option, Some, None, option_map, Contains, ◌⊎◌, inl, inr, ⊎_elim, refl, sym, ap, arith}
use Rattle.std.proofs.lemmas.Bool.{cases_eq}
use Rattle.shop_model.specs.declared.tables.Tables.{Tables}
use Rattle.shop_model.specs.asked.CartAsked.{CartAsked}
use Rattle.shop_model.specs.trade.Carts.{first_of, check_asked, lines_named, lines_after, cart_meant, carts_with}
use Rattle.shop_model.specs.declared.refusal.Refusal.TheVariants.{EmptyCart, NoItem}
use Rattle.shop_model.specs.asked.AdminAsked.{AdminAsked}
use Rattle.shop_model.specs.asked.PurchaseAsked.{PurchaseAsked}
use Rattle.shop_model.specs.trade.Buyers.{check_bought}
use Rattle.shop_model.specs.trade.Sales.{Terms, check_known, check_purchase, tables_bought}
use Rattle.shop_model.specs.trade.Mending.{with_mended}
use Rattle.shop_model.specs.pages.Show.{check, check_there}
use Rattle.shop_model.specs.rows.Lookups.{row_numbered}
use Rattle.shop_model.specs.lists.Rankings.{newest, best, sold_lately}
use Rattle.shop_model.specs.rows.Rows.{CartRow, CustomerRow, ItemRow}
use Rattle.shop_model.specs.rows.Sound.{Sound}
use Rattle.shop_history.specs.declared.acts.Act.{Act}
use Rattle.shop_history.specs.declared.acts.Act.TheVariants.{Cart, Enter, Confirm, Admin, Add}
use Rattle.shop_history.specs.declared.keys.Key as key
use Rattle.shop_history.specs.declared.keys.Key.{Key}
use Rattle.shop_history.specs.declared.keys.Row as row
use Rattle.shop_history.specs.Acts.{play, request_of}
use Rattle.shop_history.specs.Keys.{row_of, shown}
use Rattle.shop_history.specs.MayChange.{MayChange, purchase_changes, subject_at}
use Rattle.shop_history.proofs.AddFrame.{add_frame}
use Rattle.shop_history.proofs.EnterFrame.{enter_frame}
use Rattle.shop_history.proofs.MendFrame.{mended_frame}
use Rattle.shop_history.proofs.SaleFrame.{purchase_frame}
use Rattle.shop_history.proofs.cited.Places.{row_set_other, row_push_other}

pub named_there : (items : ℕ) (asked : CartAsked) (there : Option CartRow) → check_asked items asked (option_map (λ c. c.lines) there) ≡ None → (cart : CartRow) × (there ≡ Some cart)
named_there items asked None passes = absurd cc
named_there items asked (Some cart) passes = (cart, refl)

-- a cart that a request is not about
carts_other : (carts : List CartRow) (items : ℕ) (asked : CartAsked) (named : Option ℕ) (lines : List (ℕ × ℕ)) (id : ℕ)
    → check_asked items asked (lines_named carts named) ≡ None → id ≢ cart_meant carts named → row_numbered (carts_with carts named lines) id ≡ row_numbered carts id
carts_other carts items asked None lines id passes apart = row_push_other carts id (record { id = length carts + 1; lines = lines }) apart
carts_other carts items asked (Some other) lines id passes apart =
    let cart = named_there items asked (row_numbered carts other) passes in
    row_set_other carts other id cart.0 (record { id = other; lines = lines }) cart.1 apart

-- where a purchase is not refused, its customer and its cart are there, and the cart has lines
pub record Buys (t : Tables) (asked : PurchaseAsked) : Type 0 where
  pub customer : CustomerRow
  pub buys : row_numbered t.customers asked.c ≡ Some customer
  pub cart : CartRow
  pub bought : row_numbered t.carts asked.cart ≡ Some cart
  pub some : 1 ≤ length cart.lines

lines_some : (n : ℕ) → cond (eqb n 0) (Some EmptyCart) None ≡ None → 1 ≤ n
lines_some zero none = absurd cc
lines_some (suc n) none = omega arith

has_bought : (t : Tables) (asked : PurchaseAsked) (customer : Option CustomerRow) (cart : Option CartRow) → row_numbered t.customers asked.c ≡ customer → row_numbered t.carts asked.cart ≡ cart
    → first_of (check_known customer) (check_bought cart) ≡ None → Buys t asked
has_bought t asked None cart buys bought passes = absurd cc
has_bought t asked (Some customer) None buys bought passes = absurd cc
has_bought t asked (Some customer) (Some cart) buys bought passes = record { customer = customer; buys = buys; cart = cart; bought = bought; some = lines_some (length cart.lines) passes }

pub who_buys : (t : Tables) (asked : PurchaseAsked) → check_purchase t asked ≡ None → Buys t asked
who_buys t asked passes = has_bought t asked (row_numbered t.customers asked.c) (row_numbered t.carts asked.cart) refl refl passes

confirm_frame : (t : Tables) (stamp draw : ℕ) (terms : Terms) (asked : PurchaseAsked) → Sound t → check_purchase t asked ≡ None → (key : Key)
    → Contains (purchase_changes t asked) key ⊎ (row_of (tables_bought t stamp draw terms asked (row_numbered t.customers asked.c)) key ≡ row_of t key)
confirm_frame t stamp draw terms asked sound passes key =
    let who : Buys t asked = who_buys t asked passes in
    subst (λ o. Contains (purchase_changes t asked) key ⊎ (row_of (tables_bought t stamp draw terms asked o) key ≡ row_of t key)) (sym who.buys)
    (purchase_frame t sound asked stamp draw terms who.customer who.cart who.buys who.bought key)

admin_frame : (t : Tables) (stamp : ℕ) (asked : AdminAsked) (item : Option ItemRow) → row_numbered t.items asked.item ≡ item → check_there NoItem item ≡ None → (any : Key)
    → Contains (key.TheVariants.Item asked.item ∷ key.TheVariants.NewIn (subject_at t asked.item) ∷ []) any ⊎ (row_of (with_mended t stamp asked item) any ≡ row_of t any)
admin_frame t stamp asked None there passes any = absurd cc
admin_frame t stamp asked (Some item) there passes any = mended_frame t stamp asked item there any

-- what a key shows after an act, unless the act may change it
pub frame : (t : Tables) (stamp : ℕ) (act : Act) → Sound t → check t (request_of act) ≡ None → (key : Key) → MayChange t act key ⊎ (row_of (play t stamp act).tables key ≡ row_of t key)
unfolding newest best sold_lately
frame t stamp (Cart asked draw) sound passes (key.TheVariants.Cart id) = ⊎_elim
    (λ same. inl (0, omega arith, ap key.TheVariants.Cart (sym same)))
    (λ apart. inr (ap (shown row.TheVariants.Cart) (carts_other t.carts (length t.items) asked asked.ids.cart (lines_after t asked draw) id passes apart)))
    (cases_eq id (cart_meant t.carts asked.ids.cart))
frame t stamp (Cart asked draw) sound passes _ = inr refl
frame t stamp (Enter asked draw) sound passes key = enter_frame t stamp draw asked.buyer key
frame t stamp (Confirm asked draw auth tax) sound passes key = confirm_frame t stamp draw (record { auth = auth; tax = tax }) asked sound passes key
frame t stamp (Admin asked) sound passes key = admin_frame t stamp asked (row_numbered t.items asked.item) refl passes key
frame t stamp (Add asked) sound passes key = add_frame t sound stamp asked key
