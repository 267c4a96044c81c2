-- What Order Display asks for, round by round, by what it has read.
use Rattle.std.proofs.Common.{◌≡◌, ℕ, List, [], ◌∷◌, ◌++◌, length, take, All, Some, refl, sym, ◌∙◌, ap, subst, inl, inr, arith}
use Rattle.std.proofs.lemmas.List.Elements.{All-nil, All-cons, All-map}
use Rattle.shop_model.specs.declared.address.Address.{Address}
use Rattle.shop_model.specs.declared.buying.OrderDisplay as asked_for
use Rattle.shop_model.specs.declared.requests.Request.TheVariants.{OrderDisplay}
use Rattle.shop_model.specs.declared.tables.Tables.{Tables}
use Rattle.shop_model.specs.asked.CustomersAsked.{LoginAsked}
use Rattle.shop_model.specs.lists.Catalogues.{Catalogue}
use Rattle.shop_model.specs.rows.Lookups.{row_numbered}
use Rattle.shop_model.specs.rows.Rows.{LineRow, OrderRow}
use Rattle.shop_model.specs.rows.Sound.{Has, Sound, OrderNames}
use Rattle.shop_history.specs.declared.acts.Entry.{Entry}
use Rattle.shop_history.specs.declared.keys.Key.{Key}
use Rattle.shop_history.specs.declared.keys.Key.TheVariants as key
use Rattle.shop_history.specs.declared.keys.Row.{Row}
use Rattle.shop_history.specs.declared.keys.Row.TheVariants as row
use Rattle.shop_history.specs.Keys.{row_of}
use Rattle.shop_history.specs.Logs.{history, tables}
use Rattle.shop_history.proofs.cited.Places.{all_numbered}
use Rattle.shop_attempt.specs.declared.attempts.ReadOf.{ReadOf}
use Rattle.shop_attempt.specs.Reads.{AreTrue}
use Rattle.shop_browse.specs.declared.attempted.Ask.{Ask}
use Rattle.shop_browse.specs.Driver.{keys_of, AsksFor}
use Rattle.shop_browse.specs.Footprints.{InFootprint, WasShown, IsOfOrder}
use Rattle.shop_browse.specs.Names.{label_keys}
use Rattle.shop_browse.specs.OrderDisplay.{Then, Ends, HasUser, HasLogin, HasLast, HasOrder, HasAddress, HasAll, FollowsDisplay, items_of}
use Rattle.shop_browse.proofs.Rows.{found_by}
use Rattle.shop_browse.proofs.cited.Names.{labels_may}

-- one read more, behind what holds of those so far

then_true : (opening : Tables) (log : List Entry) (before : List ReadOf → Type 0) (k : Key) (r : Row) (rest : List ReadOf) → ((all : List ReadOf) → before all → AreTrue opening log all) → Then before k r rest
    → WasShown opening log k r × AreTrue opening log rest
unfolding history
then_true opening log before k r rest are is =
    let both = are (is.read ∷ rest) is.has in
    let then : Tables = tables opening (take is.read.version log) in
    (record { front = is.read.version; is = ap (row_of then) (sym is.key_is) ∙ both.0.row_is ∙ is.row_is }, both.1)

then_more : (before after : List ReadOf → Type 0) (k : Key) (r : Row) (rest more : List ReadOf) → ((all : List ReadOf) → before all → after (all ++ more)) → Then before k r rest → Then after k r (rest ++ more)
then_more before after k r rest more each is = record { read = is.read; has = each (is.read ∷ rest) is.has; key_is = is.key_is; row_is = is.row_is }

-- the reads go on

module _ (asked : LoginAsked) (reads more : List ReadOf) where
  user_more : (id : ℕ) (rest : List ReadOf) → HasUser asked.user id reads rest → HasUser asked.user id (reads ++ more) (rest ++ more)
  user_more id rest is = then_more _ (λ all. reads ++ more ≡ all) _ _ rest more (λ all same. ap (λ (l : List ReadOf). l ++ more) same) is

  login_more : (id : ℕ) (rest : List ReadOf) → HasLogin asked id reads rest → HasLogin asked id (reads ++ more) (rest ++ more)
  login_more id rest has = record { customer = has.customer; passes = has.passes; is = then_more _ _ _ _ rest more (λ all. user_more id all) has.is }

  last_more : (order : ℕ) (rest : List ReadOf) → HasLast asked order reads rest → HasLast asked order (reads ++ more) (rest ++ more)
  last_more order rest has = record { id = has.id; is = then_more _ _ _ _ rest more (λ all. login_more has.id all) has.is }

  order_more : (order : OrderRow) (rest : List ReadOf) → HasOrder asked order reads rest → HasOrder asked order (reads ++ more) (rest ++ more)
  order_more order rest has = record { id = has.id; is = then_more _ _ _ _ rest more (λ all. last_more has.id all) has.is }

-- what the log shows of them

module _ (opening : Tables) (log : List Entry) (asked : LoginAsked) (reads : List ReadOf) (are : AreTrue opening log reads) where
  -- rows were shown, and the rest of the reads are true
  user_true : (id : ℕ) (rest : List ReadOf) → HasUser asked.user id reads rest → WasShown opening log (key.Name asked.user) (row.Id id) × AreTrue opening log rest
  user_true id rest is = then_true opening log _ _ _ rest (λ all same. subst (AreTrue opening log) same are) is

  login_true : (id : ℕ) (rest : List ReadOf) → HasLogin asked id reads rest → WasShown opening log (key.Name asked.user) (row.Id id) × AreTrue opening log rest
  login_true id rest has =
      let user = user_true id (has.is.read ∷ rest) has.is.has in
      (user.0, user.1.1)

  -- the ids of a customer and of its last order were shown
  record LastShown (order : ℕ) (rest : List ReadOf) : Type 0 where
    pub id : ℕ
    pub named : WasShown opening log (key.Name asked.user) (row.Id id)
    pub last : WasShown opening log (key.LastOrder id) (row.Id order)
    pub behind : AreTrue opening log rest

  last_true : (order : ℕ) (rest : List ReadOf) → HasLast asked order reads rest → LastShown order rest
  last_true order rest has =
      let login = login_true has.id (has.is.read ∷ rest) has.is.has in
      let last = then_true opening log (HasLogin asked has.id reads) _ _ rest (λ all is. (login_true has.id all is).1) has.is in
      record { id = has.id; named = login.0; last = last.0; behind = last.1 }

  order_true : (order : OrderRow) (rest : List ReadOf) (has : HasOrder asked order reads rest) → WasShown opening log (key.Order has.id) (row.Order order)
  order_true order rest has = (then_true opening log (HasLast asked has.id reads) _ _ rest (λ all is. (last_true has.id all is).behind) has.is).0

-- what an order names is there
pub order_names : (t : Tables) (order : OrderRow) (id : ℕ) → Sound t → row_numbered t.orders id ≡ Some order → OrderNames t order
order_names t order id sound is = all_numbered (OrderNames t) t.orders id order is sound.names.orders

pub items_there : (t : Tables) (order : OrderRow) → OrderNames t order → All (Has (length t.items)) (items_of order.lines)
items_there t order names = All-map (Has (length t.items)) (λ (l : LineRow). l.item) order.lines names.items

-- what is asked for next

one_key : (k : Key) (after : List ReadOf → Type 0) (more : List ReadOf) → after more → keys_of more ≡ k ∷ [] → Ends after k
one_key k after [] has are = absurd cc
one_key k after (read ∷ []) has are = record { read = read; has = has; key_is = cc }
one_key k after (read ∷ other ∷ more) has are = absurd cc

module _ (c : Catalogue) (asked : asked_for.OrderDisplay) (ask : Ask) (reads : List ReadOf) where
  -- a row that an order's request is about
  one_may : (opening : Tables) (log : List Entry) (k : Key) → IsOfOrder opening log asked.login.user k → All (InFootprint opening log (OrderDisplay asked) ask.draw) (k ∷ [])
  one_may opening log k is =
      let P : Key → Type 0 = InFootprint opening log (OrderDisplay asked) ask.draw in
      All-cons P k [] (inl (inr is)) (All-nil P)

  pub asks_customer : (id : ℕ) → HasUser asked.login.user id reads [] → AsksFor (FollowsDisplay asked c) (OrderDisplay asked) ask 1 reads (key.Customer id ∷ [])
  asks_customer id has = record {
    few = omega arith;
    goes_on = λ more of. (id, one_key (key.Customer id) (HasUser asked.login.user id (reads ++ more)) more (user_more asked.login reads more id [] has) of);
    may = λ opening log were.
        let P : Key → Type 0 = InFootprint opening log (OrderDisplay asked) ask.draw in
        let named = (user_true opening log asked.login reads were.are id [] has).0 in
        All-cons P (key.Customer id) [] (inl (inl (inr (id, named, refl)))) (All-nil P);
  }

  pub asks_last : (id : ℕ) → HasLogin asked.login id reads [] → AsksFor (FollowsDisplay asked c) (OrderDisplay asked) ask 2 reads (key.LastOrder id ∷ [])
  asks_last id has = record {
    few = omega arith;
    goes_on = λ more of. (id, one_key (key.LastOrder id) (HasLogin asked.login id (reads ++ more)) more (login_more asked.login reads more id [] has) of);
    may = λ opening log were. one_may opening log (key.LastOrder id) (id, (login_true opening log asked.login reads were.are id [] has).0, inl refl);
  }

  pub asks_order : (order : ℕ) → HasLast asked.login order reads [] → AsksFor (FollowsDisplay asked c) (OrderDisplay asked) ask 3 reads (key.Order order ∷ [])
  asks_order order has = record {
    few = omega arith;
    goes_on = λ more of. (order, one_key (key.Order order) (HasLast asked.login order (reads ++ more)) more (last_more asked.login reads more order [] has) of);
    may = λ opening log were.
        let last = last_true opening log asked.login reads were.are order [] has in
        one_may opening log (key.Order order) (last.id, last.named, inr (order, last.last, inl refl));
  }

  pub asks_address : (order : OrderRow) → HasOrder asked.login order reads [] → AsksFor (FollowsDisplay asked c) (OrderDisplay asked) ask 4 reads (key.Address order.ship_address ∷ [])
  asks_address order has = record {
    few = omega arith;
    goes_on = λ more of. (order, one_key (key.Address order.ship_address) (HasOrder asked.login order (reads ++ more)) more (order_more asked.login reads more order [] has) of);
    may = λ opening log were.
        let last = last_true opening log asked.login reads were.are has.id (has.is.read ∷ []) has.is.has in
        let was = order_true opening log asked.login reads were.are order [] has in
        one_may opening log (key.Address order.ship_address) (last.id, last.named, inr (has.id, last.last, inr (order, was, refl)));
  }

  pub asks_last_keys : (order : OrderRow) (address : Address) → HasAddress asked.login order address reads []
      → AsksFor (FollowsDisplay asked c) (OrderDisplay asked) ask 5 reads (key.Country address.text.country ∷ label_keys c (items_of order.lines))
  asks_last_keys order address has = record {
    few = omega arith;
    goes_on = λ more of. goes more of;
    may = λ opening log were.
        let P : Key → Type 0 = InFootprint opening log (OrderDisplay asked) ask.draw in
        let was = order_true opening log asked.login reads were.are order (has.read ∷ []) has.has in
        let t : Tables = tables opening (take was.front log) in
        let found : row_numbered t.orders has.has.id ≡ Some order = found_by row.Order (λ x is. absurd cc) (λ x y is. cc) (row_numbered t.orders has.has.id) order was.is in
        All-cons P (key.Country address.text.country) (label_keys c (items_of order.lines)) (inr (inr (address.text.country, refl)))
        (labels_may c opening log was.front (OrderDisplay asked) ask.draw (items_of order.lines) (items_there t order (order_names t order has.has.id (were.sound was.front) found)));
  }
    where
      goes : (more : List ReadOf) → keys_of more ≡ key.Country address.text.country ∷ label_keys c (items_of order.lines) → HasAll asked.login c (reads ++ more)
      goes [] of = absurd cc
      goes (read ∷ labels) of = record {
        order = order;
        address = address;
        labels = labels;
        is = record {
          read = read;
          has = then_more _ _ _ _ [] (read ∷ labels) (λ all. order_more asked.login reads (read ∷ labels) order all) has;
          key_is = cc;
        };
        labels_are = cc;
      }
