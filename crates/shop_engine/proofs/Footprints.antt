-- What a request may read, it may read after a longer log.
use Rattle.std.proofs.Common.{◌≡◌, ℕ, ◌<◌, ◌≤◌, List, length, take, Option, Some, None, sym, ◌∙◌, ap, subst, arith, ⊎_elim, inl, inr, ◌⊎◌}
use Rattle.std.proofs.lemmas.Bool.{cases_lt}
use Rattle.std.proofs.lemmas.List.{take-append-le, take_all}
use Rattle.shop_log.specs.Histories.{Extends}
use Rattle.shop_model.specs.declared.address.AddressText.{AddressText}
use Rattle.shop_model.specs.declared.buying.Buyer.{Buyer}
use Rattle.shop_model.specs.declared.buying.Buyer.TheVariants.{Returning, Newcomer}
use Rattle.shop_model.specs.declared.requests.Request.{Request}
use Rattle.shop_model.specs.declared.requests.Request.TheVariants.{Home, SearchRequest, CartRequest, BuyRequest, BuyConfirm, OrderDisplay, AdminConfirm}
use Rattle.shop_model.specs.declared.tables.Tables.{Tables}
use Rattle.shop_model.specs.asked.CartAsked.{CartAsked}
use Rattle.shop_model.specs.trade.Carts.{lines_named}
use Rattle.shop_model.specs.rows.Lookups.{row_numbered}
use Rattle.shop_model.specs.rows.Sound.{Has}
use Rattle.shop_history.specs.declared.acts.Entry.{Entry}
use Rattle.shop_history.specs.declared.keys.Key.{Key}
use Rattle.shop_history.specs.declared.keys.Key.TheVariants as keys
use Rattle.shop_history.specs.declared.keys.Row.{Row}
use Rattle.shop_history.specs.declared.keys.Row.TheVariants as rows
use Rattle.shop_history.specs.Keys.{row_of}
use Rattle.shop_history.specs.Logs.{tables}
use Rattle.shop_attempt.specs.Seats.{Seat, Follows}
use Rattle.shop_browse.specs.Footprints.{IsAmong, WasOnCart, LeavesNoLine, IsCartItem, WasShown, IsShipAddress, IsLastOrder, IsUser, IsOfOrder, IsHome, IsCountry, IsBuyer, IsShippedTo, IsBoughtBeside, IsCustomerAsked, IsDrawn, IsDrawnKey, IsAbout, InFootprint, IsLabel}

-- a beginning of a log is one of a longer log
front_later : (log longer : List Entry) (front : ℕ) → Extends log longer → (more : ℕ) × (take more longer ≡ take front log)
front_later log longer front extends = ⊎_elim
    (λ (behind : length log < front).
    (length log, ap (take (length log)) extends.is ∙ take-append-le (length log) log extends.rest (omega arith) ∙ take_all (length log) log (omega arith) ∙ sym (take_all front log (omega (arith, behind)))))
    (λ (within : front ≤ length log). (front, ap (take front) extends.is ∙ take-append-le front log extends.rest within))
    (cases_lt (length log) front)

shown_later : (t : Tables) (log longer : List Entry) (key : Key) (row : Row) → Extends log longer → WasShown t log key row → WasShown t longer key row
shown_later t log longer key row extends was =
    let same = front_later log longer was.front extends in
    record { front = same.0; is = ap (λ (l : List Entry). row_of (tables t l) key) same.1 ∙ was.is }

drawn_later : (t : Tables) (log longer : List Entry) (draw item : ℕ) → Extends log longer → IsDrawn t log draw item → IsDrawn t longer draw item
drawn_later t log longer draw item extends is = (is.0, shown_later t log longer keys.Count (rows.Number is.0) extends is.1, is.2)

drawn_key_later : (t : Tables) (log longer : List Entry) (draw : ℕ) (key : Key) → Extends log longer → IsDrawnKey t log draw key → IsDrawnKey t longer draw key
drawn_key_later t log longer draw key extends is = (is.0, drawn_later t log longer draw is.0 extends is.1, is.2)

label_later : (t : Tables) (log longer : List Entry) (key : Key) → Extends log longer → IsLabel t log key → IsLabel t longer key
label_later t log longer key extends is =
    let same = front_later log longer is.front extends in
    record {
      front = same.0;
      id = is.id;
      there = subst (λ (l : List Entry). Has (length (tables t l).items) is.id) (sym same.1) is.there;
      key_is = is.key_is;
    }

on_cart_later : (t : Tables) (log longer : List Entry) (cart item : ℕ) → Extends log longer → WasOnCart t log cart item → WasOnCart t longer cart item
on_cart_later t log longer cart item extends was =
    let same = front_later log longer was.front extends in
    record {
      front = same.0;
      row = was.row;
      there = ap (λ (l : List Entry). row_numbered (tables t l).carts cart) same.1 ∙ was.there;
      line = was.line;
    }

no_line_later : (t : Tables) (log longer : List Entry) (asked : CartAsked) → Extends log longer → LeavesNoLine t log asked → LeavesNoLine t longer asked
no_line_later t log longer asked extends leaves =
    let same = front_later log longer leaves.front extends in
    record {
      front = same.0;
      lines = leaves.lines;
      there = ap (λ (l : List Entry). lines_named (tables t l).carts asked.ids.cart) same.1 ∙ leaves.there;
      none_left = leaves.none_left;
    }

cart_item_later : (t : Tables) (log longer : List Entry) (asked : CartAsked) (draw item : ℕ) → Extends log longer → IsCartItem t log asked draw item → IsCartItem t longer asked draw item
cart_item_later t log longer asked draw item extends may = ⊎_elim
    (λ (named : (asked.item ≡ Some item) ⊎ IsAmong item asked.sets). inl named)
    (λ (other : ((cart : ℕ) × (asked.ids.cart ≡ Some cart) × WasOnCart t log cart item) ⊎ (LeavesNoLine t log asked × IsDrawn t log draw item)). ⊎_elim
    (λ (on : (cart : ℕ) × (asked.ids.cart ≡ Some cart) × WasOnCart t log cart item). inr (inl (on.0, on.1, on_cart_later t log longer on.0 item extends on.2)))
    (λ (added : LeavesNoLine t log asked × IsDrawn t log draw item). inr (inr (no_line_later t log longer asked extends added.0, drawn_later t log longer draw item extends added.1)))
    other)
    may

-- what was shown

module _ (t : Tables) (log longer : List Entry) (extends : Extends log longer) where
  address_later : (order : ℕ) (key : Key) → IsShipAddress t log order key → IsShipAddress t longer order key
  address_later order key is = (is.0, shown_later t log longer (keys.Order order) (rows.Order is.0) extends is.1, is.2)

  last_later : (id : ℕ) (key : Key) → IsLastOrder t log id key → IsLastOrder t longer id key
  last_later id key is = (is.0, shown_later t log longer (keys.LastOrder id) (rows.Id is.0) extends is.1, ⊎_elim (λ (order : key ≡ keys.Order is.0). inl order) (λ (ship : IsShipAddress t log is.0 key). inr (address_later is.0 key ship)) is.2)

  user_later : (user : List ℕ) (key : Key) → IsUser t log user key → IsUser t longer user key
  user_later user key is = ⊎_elim
      (λ (name : key ≡ keys.Name user). inl name)
      (λ (customer : (id : ℕ) × WasShown t log (keys.Name user) (rows.Id id) × (key ≡ keys.Customer id)). inr (customer.0, shown_later t log longer (keys.Name user) (rows.Id customer.0) extends customer.1, customer.2))
      is

  of_order_later : (user : List ℕ) (key : Key) → IsOfOrder t log user key → IsOfOrder t longer user key
  of_order_later user key of =
      (of.0, shown_later t log longer (keys.Name user) (rows.Id of.0) extends of.1, ⊎_elim (λ (last : key ≡ keys.LastOrder of.0). inl last) (λ (order : IsLastOrder t log of.0 key). inr (last_later of.0 key order)) of.2)

  home_later : (user : List ℕ) (key : Key) → IsHome t log user key → IsHome t longer user key
  home_later user key is =
      (is.0, shown_later t log longer (keys.Name user) (rows.Id is.0) extends is.1, (is.2.0, shown_later t log longer (keys.Customer is.0) (rows.Customer is.2.0) extends is.2.1, is.2.2))

  buyer_later : (buyer : Buyer) (key : Key) → IsBuyer t log buyer key → IsBuyer t longer buyer key
  buyer_later (Returning asked) key is = ⊎_elim
      (λ (user : IsUser t log asked.user key). inl (user_later asked.user key user))
      (λ (home : IsHome t log asked.user key). inr (home_later asked.user key home))
      is
  buyer_later (Newcomer asked) key is = is

  shipped_later : (c : ℕ) (address : Option AddressText) (key : Key) → IsShippedTo t log c address key → IsShippedTo t longer c address key
  shipped_later c None key is = (is.0, shown_later t log longer (keys.Customer c) (rows.Customer is.0) extends is.1, is.2)
  shipped_later c (Some text) key is = is

  beside_later : (item : ℕ) (key : Key) → IsBoughtBeside t log item key → IsBoughtBeside t longer item key
  beside_later item key is = (is.0, shown_later t log longer (keys.Buyers item) (rows.Customers is.0) extends is.1, is.2, is.3, is.4)

bought_later : (t : Tables) (log longer : List Entry) (cart : ℕ) (key : Key) → Extends log longer → (item : ℕ) × WasOnCart t log cart item × (key ≡ keys.Item item)
    → (item : ℕ) × WasOnCart t longer cart item × (key ≡ keys.Item item)
bought_later t log longer cart key extends item = (item.0, on_cart_later t log longer cart item.0 extends item.1, item.2)

about_later : (t : Tables) (log longer : List Entry) (request : Request) (draw : ℕ) (key : Key) → Extends log longer → IsAbout t log request draw key → IsAbout t longer request draw key
about_later t log longer (Home asked) draw key extends may =
    ⊎_elim
    (λ (count : key ≡ keys.Count). inl count)
    (λ (other : IsCustomerAsked asked.ids.c key ⊎ IsDrawnKey t log draw key). inr (⊎_elim
    (λ (customer : IsCustomerAsked asked.ids.c key). inl customer)
    (λ (drawn : IsDrawnKey t log draw key). inr (drawn_key_later t log longer draw key extends drawn))
    other))
    may
about_later t log longer (SearchRequest asked) draw key extends may = ⊎_elim
    (λ (count : key ≡ keys.Count). inl count)
    (λ (drawn : IsDrawnKey t log draw key). inr (drawn_key_later t log longer draw key extends drawn))
    may
about_later t log longer (CartRequest asked) draw key extends may = ⊎_elim
    (λ (named : (key ≡ keys.Count) ⊎ ((id : ℕ) × (asked.ids.cart ≡ Some id) × (key ≡ keys.Cart id))). inl named)
    (λ (item : (id : ℕ) × IsCartItem t log asked draw id × (key ≡ keys.Item id)). inr (item.0, cart_item_later t log longer asked draw item.0 extends item.1, item.2))
    may
about_later t log longer (BuyRequest asked) draw key extends may = ⊎_elim
    (λ (bought : (key ≡ keys.Cart asked.cart) ⊎ ((item : ℕ) × WasOnCart t log asked.cart item × (key ≡ keys.Item item))). inl (⊎_elim
    (λ (cart : key ≡ keys.Cart asked.cart). inl cart)
    (λ (item : (id : ℕ) × WasOnCart t log asked.cart id × (key ≡ keys.Item id)). inr (bought_later t log longer asked.cart key extends item))
    bought))
    (λ (buyer : IsBuyer t log asked.buyer key). inr (buyer_later t log longer extends asked.buyer key buyer))
    may
about_later t log longer (BuyConfirm asked) draw key extends may = ⊎_elim
    (λ (named : (key ≡ keys.Customer asked.c) ⊎ (key ≡ keys.Cart asked.cart)). inl named)
    (λ (other : IsShippedTo t log asked.c asked.address key ⊎ ((item : ℕ) × WasOnCart t log asked.cart item × (key ≡ keys.Item item))). inr (⊎_elim
    (λ (ship : IsShippedTo t log asked.c asked.address key). inl (shipped_later t log longer extends asked.c asked.address key ship))
    (λ (item : (id : ℕ) × WasOnCart t log asked.cart id × (key ≡ keys.Item id)). inr (bought_later t log longer asked.cart key extends item))
    other))
    may
about_later t log longer (OrderDisplay asked) draw key extends may = ⊎_elim
    (λ (user : IsUser t log asked.login.user key). inl (user_later t log longer extends asked.login.user key user))
    (λ (order : IsOfOrder t log asked.login.user key). inr (of_order_later t log longer extends asked.login.user key order))
    may
about_later t log longer (AdminConfirm asked) draw key extends may = ⊎_elim
    (λ (named : (key ≡ keys.Count) ⊎ ((key ≡ keys.Item asked.item) ⊎ (key ≡ keys.Buyers asked.item))). inl named)
    (λ (bought : IsBoughtBeside t log asked.item key). inr (beside_later t log longer extends asked.item key bought))
    may
about_later t log longer _ draw key extends may = may

footprint_longer : (t : Tables) (log longer : List Entry) (request : Request) (draw : ℕ) (key : Key) → Extends log longer → InFootprint t log request draw key → InFootprint t longer request draw key
footprint_longer t log longer request draw key extends may = ⊎_elim
    (λ (about : IsAbout t log request draw key). inl (about_later t log longer request draw key extends about))
    (λ (any : IsLabel t log key ⊎ IsCountry key). inr (⊎_elim
    (λ (label : IsLabel t log key). inl (label_later t log longer key extends label))
    (λ (country : IsCountry key). inr country)
    any))
    may

pub footprint_later : (old new : Seat) (request : Request) (draw : ℕ) (key : Key) → Follows old new → InFootprint old.opening old.seen request draw key → InFootprint new.opening new.seen request draw key
footprint_later old new request draw key follows may =
    footprint_longer new.opening old.seen new.seen request draw key follows.grows (subst (λ t. InFootprint t old.seen request draw key) (sym follows.opening) may)
