-- What Order Display shows, by what it has read.
use Rattle.std.proofs.Common.{◌≡◌, ℕ, ◌-◌, List, [], ◌∷◌, length, take, drop, get_or, Option, Some, None, IfSome, option_map, unwrap_or, refl, sym, ◌∙◌, ap, subst}
use Rattle.std.proofs.lemmas.List.{length-map}
use Rattle.std.proofs.Math.ListN.{get_or-map}
use Rattle.shop_model.specs.declared.address.Address.{Address}
use Rattle.shop_model.specs.declared.buying.OrderDisplay as asked_for
use Rattle.shop_model.specs.declared.refusal.Refusal.TheVariants.{NoUserName, WrongPassword}
use Rattle.shop_model.specs.declared.requests.Request.TheVariants.{OrderDisplay}
use Rattle.shop_model.specs.declared.tables.Tables.{Tables}
use Rattle.shop_model.specs.asked.CustomersAsked.{LoginAsked}
use Rattle.shop_model.specs.asked.Refusals.{page_of}
use Rattle.shop_model.specs.lists.Catalogues.{Catalogue}
use Rattle.shop_model.specs.pages.OrderDisplay.{last_page, order_page, no_order_page}
use Rattle.shop_model.specs.pages.Show.{show, refused_or}
use Rattle.shop_model.specs.rows.Lookups.{row_numbered, joined, order_of, last_order, country_name, title_of}
use Rattle.shop_model.specs.rows.Rows.{CountryRow, CustomerRow, LineRow, OrderRow}
use Rattle.shop_model.specs.rows.Sound.{Has, Sound}
use Rattle.shop_model.specs.trade.Buyers.{customer_named, check_password}
use Rattle.shop_history.specs.declared.keys.Key.{Key}
use Rattle.shop_history.specs.declared.keys.Key.TheVariants as key
use Rattle.shop_history.specs.declared.keys.Row.{Row}
use Rattle.shop_history.specs.declared.keys.Row.TheVariants as row
use Rattle.shop_history.specs.Keys.{row_of}
use Rattle.shop_history.proofs.cited.Places.{all_numbered}
use Rattle.shop_attempt.specs.declared.attempts.ReadOf.{ReadOf}
use Rattle.shop_attempt.specs.Reads.{Shows}
use Rattle.shop_browse.specs.Driver.{keys_of, Fits}
use Rattle.shop_model.specs.declared.refusal.Refusal.{Refusal}
use Rattle.shop_browse.proofs.Items.{row_missing}
use Rattle.shop_browse.proofs.Logins.{customer_of_name, no_name, password_passes, password_fails}
use Rattle.shop_browse.proofs.Rows.{shown_some, found_by, there_shown}
use Rattle.shop_browse.proofs.OrderReads.{order_names, items_there}
use Rattle.shop_browse.proofs.cited.Names.{titles_known}
use Rattle.shop_browse.proofs.cited.Reads.{rest_of}
use Rattle.shop_browse.specs.declared.names.Names.{Names}
use Rattle.shop_browse.specs.Names.{known_title, label_keys}
use Rattle.shop_browse.specs.OrderDisplay.{Then, Ends, HasUser, HasLogin, HasLast, HasOrder, HasAddress, HasAll, HaveItems, ShipsTo, items_of}

-- one read more, behind what holds of those so far
then_shows : (t : Tables) (before : List ReadOf → Type 0) (k : Key) (r : Row) (rest : List ReadOf) → ((all : List ReadOf) → before all → Shows t all) → Then before k r rest
    → (row_of t k ≡ r) × Shows t rest
then_shows t before k r rest shows is =
    let both = shows (is.read ∷ rest) is.has in
    (ap (row_of t) (sym is.key_is) ∙ both.0 ∙ is.row_is, both.1)

-- what is shown by who has the name, and has the password
module _ (t : Tables) (asked : asked_for.OrderDisplay) (draw : ℕ) where
  shows_for : (o : Option CustomerRow) → customer_named t asked.login.user ≡ o
      → show t (OrderDisplay asked) draw ≡ refused_or (check_password asked.login.pass o) (option_map (λ c. last_page t asked.ids (last_order t c.id)) o)
  shows_for o is = ap (λ p. refused_or (check_password asked.login.pass p) (option_map (λ (c : CustomerRow). last_page t asked.ids (last_order t c.id)) p)) is

  pub none_named : row_of t (key.Name asked.login.user) ≡ row.Absent → show t (OrderDisplay asked) draw ≡ Some (page_of NoUserName)
  none_named is = shows_for None (no_name (customer_named t asked.login.user) is)

  by_check : (c : CustomerRow) (r : Option Refusal) → customer_named t asked.login.user ≡ Some c → check_password asked.login.pass (Some c) ≡ r
      → show t (OrderDisplay asked) draw ≡ refused_or r (Some (last_page t asked.ids (last_order t c.id)))
  by_check c r named is = shows_for (Some c) named ∙ ap (λ x. refused_or x (Some (last_page t asked.ids (last_order t c.id)))) is

  refused_shows : (c : CustomerRow) → customer_named t asked.login.user ≡ Some c → (asked.login.pass ≡ c.password → ⊥) → show t (OrderDisplay asked) draw ≡ Some (page_of WrongPassword)
  refused_shows c named other = by_check c (Some WrongPassword) named (password_fails asked.login.pass c other)

  login_shows : (c : CustomerRow) (o : Option ℕ) → customer_named t asked.login.user ≡ Some c → asked.login.pass ≡ c.password → joined (row_numbered t.last c.id) ≡ o
      → show t (OrderDisplay asked) draw ≡ Some (last_page t asked.ids (order_of t o))
  login_shows c o named same is =
      by_check c None named (password_passes asked.login.pass c same) ∙ ap (λ (p : Option ℕ). Some (last_page t asked.ids (order_of t p))) is

-- what tables show by the reads

-- who logs in
pub record LogsIn (t : Tables) (asked : LoginAsked) (id : ℕ) : Type 0 where
  pub customer : CustomerRow
  pub named : customer_named t asked.user ≡ Some customer
  pub passes : asked.pass ≡ customer.password
  pub id_is : customer.id ≡ id

-- the last order
pub record LastIs (t : Tables) (asked : LoginAsked) (order : ℕ) : Type 0 where
  pub id : ℕ
  pub login : LogsIn t asked id
  pub last : joined (row_numbered t.last id) ≡ Some order

module _ (t : Tables) (sound : Sound t) (asked : LoginAsked) (reads : List ReadOf) (shows : Shows t reads) where
  user_shows : (id : ℕ) (rest : List ReadOf) → HasUser asked.user id reads rest → (row_of t (key.Name asked.user) ≡ row.Id id) × Shows t rest
  user_shows id rest is = then_shows t _ _ _ rest (λ all same. subst (Shows t) same shows) is

  -- the customer whose number was found is the one with the name
  pub same_customer : (id : ℕ) (r : Row) (rest : List ReadOf) (read : ReadOf) → HasUser asked.user id reads (read ∷ rest) → read.key ≡ key.Customer id → read.row ≡ r
      → (c : CustomerRow) × (customer_named t asked.user ≡ Some c) × (r ≡ row.Customer c) × (c.id ≡ id)
  same_customer id r rest read has key_is row_is =
      let user = user_shows id (read ∷ rest) has in
      let named = customer_of_name t sound asked.user id user.0 in
      (named.0, named.1, shown_some row.Customer (row_numbered t.customers id) named.0 r named.2 (ap (row_of t) (sym key_is) ∙ user.1.0 ∙ row_is), named.3)

  logs_in : (id : ℕ) (rest : List ReadOf) → HasLogin asked id reads rest → LogsIn t asked id × Shows t rest
  logs_in id rest has =
      let found = same_customer id (row.Customer has.customer) rest has.is.read has.is.has has.is.key_is has.is.row_is in
      let same : has.customer ≡ found.0 = cc (found.2) in
      (record { customer = found.0; named = found.1; passes = has.passes ∙ ap (λ (c : CustomerRow). c.password) same; id_is = found.3 }, (user_shows id (has.is.read ∷ rest) has.is.has).1.1)

  last_is : (order : ℕ) (rest : List ReadOf) → HasLast asked order reads rest → LastIs t asked order × Shows t rest
  last_is order rest has =
      let last = then_shows t (HasLogin asked has.id reads) _ _ rest (λ all is. (logs_in has.id all is).1) has.is in (
        record {
          id = has.id;
          login = (logs_in has.id (has.is.read ∷ rest) has.is.has).0;
          last = found_by row.Id (λ x is. absurd cc) (λ x y is. cc) (joined (row_numbered t.last has.id)) order last.0;
        },
        last.1,
      )

  -- it is there
  last_there : (order : ℕ) → LastIs t asked order → Has (length t.orders) order
  last_there order is = by (row_numbered t.last is.id) refl is.last
    where
      by : (o : Option (Option ℕ)) → row_numbered t.last is.id ≡ o → joined o ≡ Some order → Has (length t.orders) order
      by None at same = absurd cc
      by (Some o) at same = subst (λ p. IfSome p (Has (length t.orders))) same (all_numbered (λ p. IfSome p (Has (length t.orders))) t.last is.id o at sound.names.last)

  -- the order
  order_is : (order : OrderRow) (rest : List ReadOf) → HasOrder asked order reads rest → (id : ℕ) × LastIs t asked id × (row_numbered t.orders id ≡ Some order) × Shows t rest
  order_is order rest has =
      let last = last_is has.id (has.is.read ∷ rest) has.is.has in
      let shown_here = then_shows t (HasLast asked has.id reads) _ _ rest (λ all is. (last_is has.id all is).1) has.is in
      (has.id, last.0, found_by row.Order (λ x is. absurd cc) (λ x y is. cc) (row_numbered t.orders has.id) order shown_here.0, shown_here.1)

-- what is shown by the reads of each round

ended : (before : List ReadOf → Type 0) (k : Key) (r : Row) (ends : Ends before k) → ends.read.row ≡ r → Then before k r []
ended before k r ends is = record { read = ends.read; has = ends.has; key_is = ends.key_is; row_is = is }

reads_one : (k : Key) (reads : List ReadOf) (d : ReadOf) → keys_of reads ≡ k ∷ [] → (reads ≡ get_or reads 0 d ∷ []) × ((get_or reads 0 d).key ≡ k)
reads_one k [] d are = absurd cc
reads_one k (read ∷ []) d are = (refl, cc)
reads_one k (read ∷ other ∷ reads) d are = absurd cc

module _ (asked : asked_for.OrderDisplay) (reads : List ReadOf) (d : ReadOf) (are : keys_of reads ≡ key.Name asked.login.user ∷ []) where
  pub has_user : (id : ℕ) → (get_or reads 0 d).row ≡ row.Id id → HasUser asked.login.user id reads []
  has_user id is =
      let one = reads_one (key.Name asked.login.user) reads d are in record { read = get_or reads 0 d; has = one.0; key_is = one.1; row_is = is }

  pub user_missing : (t : Tables) (draw : ℕ) → (get_or reads 0 d).row ≡ row.Absent → Shows t reads → show t (OrderDisplay asked) draw ≡ Some (page_of NoUserName)
  user_missing t draw is shows =
      let one = reads_one (key.Name asked.login.user) reads d are in
      let here = subst (Shows t) one.0 shows in
      none_named t asked draw (ap (row_of t) (sym one.1) ∙ here.0 ∙ is)

module _ (asked : LoginAsked) (reads : List ReadOf) (at : (id : ℕ) × Ends (HasUser asked.user id reads) (key.Customer id)) (d : ReadOf) where
  same_read : get_or reads 1 d ≡ at.1.read
  same_read = ap (λ (l : List ReadOf). get_or l 1 d) at.1.has.has

  pub is_user : (get_or reads 0 d).row ≡ row.Id at.0
  is_user = ap (λ (l : List ReadOf). (get_or l 0 d).row) at.1.has.has ∙ at.1.has.row_is

  pub has_login : (x : CustomerRow) → (get_or reads 1 d).row ≡ row.Customer x → asked.pass ≡ x.password → HasLogin asked at.0 reads []
  has_login x is same = record {
    customer = x;
    passes = same;
    is = ended (HasUser asked.user at.0 reads) (key.Customer at.0) (row.Customer x) at.1 (ap (λ (r : ReadOf). r.row) (sym same_read) ∙ is);
  }

  -- the row is that of the customer with the name
  pub is_named : (c : Catalogue) (t : Tables) → Fits c t reads → (x : CustomerRow) × (customer_named t asked.user ≡ Some x) × ((get_or reads 1 d).row ≡ row.Customer x)
  is_named c t fits =
      let found = same_customer t fits.sound asked reads fits.shows at.0 at.1.read.row [] at.1.read at.1.has at.1.key_is refl in
      (found.0, found.1, ap (λ (r : ReadOf). r.row) same_read ∙ found.2)

pub password_refused : (asked : asked_for.OrderDisplay) (draw : ℕ) (reads : List ReadOf) (at : (id : ℕ) × Ends (HasUser asked.login.user id reads) (key.Customer id)) (d : ReadOf) (x : CustomerRow) (c : Catalogue) (t : Tables)
    → (get_or reads 1 d).row ≡ row.Customer x → (asked.login.pass ≡ x.password → ⊥) → Fits c t reads → show t (OrderDisplay asked) draw ≡ Some (page_of WrongPassword)
password_refused asked draw reads at d x c t is other fits =
    let found = is_named asked.login reads at d c t fits in
    let same : x ≡ found.0 = cc (is, found.2) in
    refused_shows t asked draw found.0 found.1 (λ passes. other (passes ∙ ap (λ (y : CustomerRow). y.password) (sym same)))

-- the last order's id

module _ (asked : asked_for.OrderDisplay) (reads : List ReadOf) (at : (id : ℕ) × Ends (HasLogin asked.login id reads) (key.LastOrder id)) (d : ReadOf) where
  then_last : (r : Row) → (get_or reads 2 d).row ≡ r → Then (HasLogin asked.login at.0 reads) (key.LastOrder at.0) r []
  then_last r is =
      let same : get_or reads 2 d ≡ at.1.read = ap (λ (l : List ReadOf). get_or l 2 d) at.1.has.is.has.has in
      ended (HasLogin asked.login at.0 reads) (key.LastOrder at.0) r at.1 (ap (λ (x : ReadOf). x.row) (sym same) ∙ is)

  pub has_last : (order : ℕ) → (get_or reads 2 d).row ≡ row.Id order → HasLast asked.login order reads []
  has_last order is = record { id = at.0; is = then_last (row.Id order) is }

  pub order_missing : (draw : ℕ) (c : Catalogue) (t : Tables) → (get_or reads 2 d).row ≡ row.Absent → Fits c t reads → show t (OrderDisplay asked) draw ≡ Some (no_order_page asked.ids)
  order_missing draw c t is fits =
      let login = (logs_in t fits.sound asked.login reads fits.shows at.0 (at.1.read ∷ []) at.1.has).0 in
      let last = (then_shows t (HasLogin asked.login at.0 reads) _ _ [] (λ all has. (logs_in t fits.sound asked.login reads fits.shows at.0 all has).1) (then_last row.Absent is)).0 in
      let none : joined (row_numbered t.last login.customer.id) ≡ None
      = ap (λ n. joined (row_numbered t.last n)) login.id_is ∙ row_missing row.Id (λ x is. absurd cc) (joined (row_numbered t.last at.0)) last in
      login_shows t asked draw login.customer None login.named login.passes none

-- the order

module _ (asked : LoginAsked) (reads : List ReadOf) (at : (order : ℕ) × Ends (HasLast asked order reads) (key.Order order)) (d : ReadOf) where
  order_read : get_or reads 3 d ≡ at.1.read
  order_read = ap (λ (l : List ReadOf). get_or l 3 d) at.1.has.is.has.is.has.has

  pub has_order : (order : OrderRow) → (get_or reads 3 d).row ≡ row.Order order → HasOrder asked order reads []
  has_order order is = record {
    id = at.0;
    is = ended (HasLast asked at.0 reads) (key.Order at.0) (row.Order order) at.1 (ap (λ (r : ReadOf). r.row) (sym order_read) ∙ is);
  }

  pub order_there : (c : Catalogue) (t : Tables) → Fits c t reads → (x : OrderRow) × ((get_or reads 3 d).row ≡ row.Order x)
  order_there c t fits =
      let last = last_is t fits.sound asked reads fits.shows at.0 (at.1.read ∷ []) at.1.has in
      let found = there_shown row.Order t.orders at.0 at.1.read.row (last_there t fits.sound asked reads fits.shows at.0 last.0) (ap (row_of t) (sym at.1.key_is) ∙ last.1.0) in
      (found.0, ap (λ (r : ReadOf). r.row) order_read ∙ found.1)

-- the address

module _ (asked : LoginAsked) (reads : List ReadOf) (order : OrderRow) (at : Ends (HasOrder asked order reads) (key.Address order.ship_address)) (d : ReadOf) where
  pub is_order : (get_or reads 3 d).row ≡ row.Order order
  is_order = ap (λ (l : List ReadOf). (get_or l 3 d).row) at.has.is.has.is.has.is.has.has ∙ at.has.is.row_is

  address_read : get_or reads 4 d ≡ at.read
  address_read = ap (λ (l : List ReadOf). get_or l 4 d) at.has.is.has.is.has.is.has.has

  pub has_address : (address : Address) → (get_or reads 4 d).row ≡ row.Address address → HasAddress asked order address reads []
  has_address address is =
      ended (HasOrder asked order reads) (key.Address order.ship_address) (row.Address address) at (ap (λ (r : ReadOf). r.row) (sym address_read) ∙ is)

  pub address_there : (c : Catalogue) (t : Tables) → Fits c t reads → (x : Address) × ((get_or reads 4 d).row ≡ row.Address x)
  address_there c t fits =
      let is = order_is t fits.sound asked reads fits.shows order (at.read ∷ []) at.has in
      let found = there_shown row.Address t.addresses order.ship_address at.read.row (order_names t order is.0 fits.sound is.2).ship_address (ap (row_of t) (sym at.key_is) ∙ is.3.0) in
      (found.0, ap (λ (r : ReadOf). r.row) address_read ∙ found.1)

-- all that is read

module _ (asked : asked_for.OrderDisplay) (c : Catalogue) (reads : List ReadOf) (all : HasAll asked.login c reads) where
  reads_of : reads
      ≡ all.is.has.has.is.has.is.has.is.has.read ∷ all.is.has.has.is.has.is.has.is.read ∷ all.is.has.has.is.has.is.read ∷ all.is.has.has.is.read ∷ all.is.has.read ∷ all.is.read ∷ all.labels
  reads_of = all.is.has.has.is.has.is.has.is.has.has

  pub all_order : (d : ReadOf) → (get_or reads 3 d).row ≡ row.Order all.order
  all_order d = ap (λ (l : List ReadOf). (get_or l 3 d).row) reads_of ∙ all.is.has.has.is.row_is

  pub all_address : (d : ReadOf) → (get_or reads 4 d).row ≡ row.Address all.address
  all_address d = ap (λ (l : List ReadOf). (get_or l 4 d).row) reads_of ∙ all.is.has.row_is

  -- the labels are behind the sixth
  pub labels_behind : take (length reads - 6) (drop 6 reads) ≡ all.labels
  labels_behind = rest_of 6 reads ∙ ap (drop 6) reads_of

  -- what tables show of it
  module _ (t : Tables) (fits : Fits c t reads) where
    address_found : (row_numbered t.addresses all.order.ship_address ≡ Some all.address) × Shows t (all.is.read ∷ all.labels)
    address_found =
        let behind = then_shows t (HasOrder asked.login all.order reads) _ _ (all.is.read ∷ all.labels) (λ rest is. (order_is t fits.sound asked.login reads fits.shows all.order rest is).3) all.is.has in
        (found_by row.Address (λ x is. absurd cc) (λ x y is. cc) (row_numbered t.addresses all.order.ship_address) all.address behind.0, behind.1)

    pub country_there : (d : ReadOf) → (x : CountryRow) × ((get_or reads 5 d).row ≡ row.Country x)
    country_there d =
        let address = address_found in
        let has : Has (length t.countries) all.address.text.country
        = all_numbered (λ (a : Address). Has (length t.countries) a.text.country) t.addresses all.order.ship_address all.address address.0 fits.sound.names.addresses in
        let found = there_shown row.Country t.countries all.address.text.country all.is.read.row has (ap (row_of t) (sym all.is.key_is) ∙ address.1.0) in
        (found.0, ap (λ (l : List ReadOf). (get_or l 5 d).row) reads_of ∙ found.1)

    pub ships_to : (d : ReadOf) (x : CountryRow) → (get_or reads 5 d).row ≡ row.Country x → ShipsTo t all.order.ship_address all.address.text.city x.name
    ships_to d x is =
        let address = address_found in
        let row_is : all.is.read.row ≡ row.Country x = sym (ap (λ (l : List ReadOf). (get_or l 5 d).row) reads_of) ∙ is in
        let country : row_numbered t.countries all.address.text.country ≡ Some x
        = found_by row.Country (λ x is. absurd cc) (λ x y is. cc) (row_numbered t.countries all.address.text.country) x (ap (row_of t) (sym all.is.key_is) ∙ address.1.0 ∙ row_is) in
        record {
          city_is = ap (λ o. unwrap_or (option_map (λ (a : Address). a.text.city) o) []) address.0;
          country_is = ap (λ o. country_name t (unwrap_or (option_map (λ (a : Address). a.text.country) o) 0)) address.0 ∙ ap (λ o. unwrap_or (option_map (λ (x : CountryRow). x.name) o) []) country;
        }

    pub have_items : (names : Names) → names.index.now ≡ c → names.labels.now ≡ all.labels → (lines : List LineRow) → lines ≡ all.order.lines → HaveItems t names lines
    have_items names same labels lines lines_are =
        let is = order_is t fits.sound asked.login reads fits.shows all.order (all.is.has.read ∷ all.is.read ∷ all.labels) all.is.has.has in
        let item : LineRow → ℕ = λ l. l.item in
        let items : List ℕ = items_of all.order.lines in
        let known = titles_known names t (fits.named ∙ sym same) (subst (Shows t) (sym labels) address_found.1.1) items
        (ap keys_of labels ∙ all.labels_are ∙ ap (λ d. label_keys d items) (sym same)) (items_there t all.order (order_names t all.order is.0 fits.sound is.2)) in
        subst (HaveItems t names) (sym lines_are)
        (λ k d within. subst (λ i. known_title names i ≡ Some (title_of t i)) (get_or-map item all.order.lines k d) (known k (item d) (rw length-map within)))

    pub order_shown : (draw : ℕ) → show t (OrderDisplay asked) draw ≡ Some (order_page t asked.ids all.order)
    order_shown draw =
        let is = order_is t fits.sound asked.login reads fits.shows all.order (all.is.has.read ∷ all.is.read ∷ all.labels) all.is.has.has in
        let login : LogsIn t asked.login is.1.id = is.1.login in
        let last : joined (row_numbered t.last login.customer.id) ≡ Some is.0 = ap (λ n. joined (row_numbered t.last n)) login.id_is ∙ is.1.last in
        login_shows t asked draw login.customer (Some is.0) login.named login.passes last ∙ ap (λ (o : Option OrderRow). Some (last_page t asked.ids o)) is.2
