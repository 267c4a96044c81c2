-- Buy Confirm: what a purchase may read, and what it has when all is read.
use Rattle.std.proofs.Common.{◌≡◌, ◌≢◌, ℕ, zero, suc, true, false, List, [], ◌∷◌, ◌++◌, ◌-◌, length, take, get_or, All, Option, Some, None, IfSome, option_map, refl, sym, ◌∙◌, ap, subst, inl, inr, arith}
use Rattle.std.proofs.lemmas.List.{append-nil, map-append}
use Rattle.std.proofs.lemmas.List.Elements.{All-nil, All-cons, All-append, All-map}
use Rattle.std.proofs.lemmas.Option.{slice_get-get_or}
use Rattle.shop_model.specs.declared.address.Address.{Address}
use Rattle.shop_model.specs.declared.address.AddressText.{AddressText}
use Rattle.shop_model.specs.declared.requests.Request.TheVariants.{BuyConfirm}
use Rattle.shop_model.specs.declared.tables.Tables.{Tables}
use Rattle.shop_model.specs.declared.tax.TaxRule.{TaxRule}
use Rattle.shop_model.specs.declared.tax.TaxRule.TheVariants.{Flat, ByCountry}
use Rattle.shop_model.specs.asked.CustomersAsked.{IsAddressAsked}
use Rattle.shop_model.specs.asked.PurchaseAsked.{PurchaseAsked, IsPurchaseAsked}
use Rattle.shop_model.specs.rows.Lookups.{row_numbered}
use Rattle.shop_model.specs.rows.Rows.{CartRow, CountryRow, CustomerRow}
use Rattle.shop_model.specs.rows.Sound.{Sound, Has}
use Rattle.shop_model.specs.trade.Buyers.{check_bought, address_saying}
use Rattle.shop_history.specs.declared.acts.Entry.{Entry}
use Rattle.shop_history.specs.declared.keys.Key.{Key}
use Rattle.shop_history.specs.declared.keys.Key.TheVariants as key
use Rattle.shop_history.specs.declared.keys.Row.{Row}
use Rattle.shop_history.specs.declared.keys.Row.TheVariants as row
use Rattle.shop_history.specs.Keys.{row_of, shown}
use Rattle.shop_history.specs.Logs.{history, tables}
use Rattle.shop_history.proofs.cited.Places.{all_numbered, some_row}
use Rattle.shop_attempt.specs.declared.attempts.ReadOf.{ReadOf}
use Rattle.shop_attempt.specs.Reads.{Shows, AreTrue}
use Rattle.shop_browse.specs.declared.attempted.Ask.{Ask}
use Rattle.shop_browse.specs.Baskets.{IsShip, IsTaxed, IsBasket, country_read}
use Rattle.shop_browse.specs.Driver.{keys_of, Fits, AreSeen, AsksFor}
use Rattle.shop_browse.specs.Footprints.{IsAmong, WasOnCart, WasShown, IsShippedTo, InFootprint}
use Rattle.shop_order.specs.declared.basket.Basket.{Basket}
use Rattle.shop_order.specs.BuyConfirm.{text_keys, home_keys, ship_key, item_keys, first_keys, second_keys, address_in, is_ship, is_country, ship_in, Begins, HasFirst, HasSecond, FollowsConfirm}
use Rattle.shop_order.specs.ShoppingCart.{IsFitRow, lines_in}
use Rattle.shop_order.specs.Stops.{AreBought}
use Rattle.shop_order.proofs.ReadsLemmas.{one_read, last_read, shows_both}
use Rattle.shop_order.proofs.ShoppingCartLemmas.{fit_shown}
use Rattle.shop_history.proofs.cited.Shown.{cart_found, customer_found, address_found}

-- the reads of the first round

two_reads : (asked : PurchaseAsked) (reads : List ReadOf) → keys_of reads ≡ first_keys asked → HasFirst asked reads
two_reads asked [] are = absurd cc
two_reads asked (buyer ∷ []) are = absurd cc
two_reads asked (buyer ∷ cart ∷ more) are = record { buyer = buyer; cart = cart; more = more; reads_are = refl; buyer_is = cc; cart_is = cc }

-- with more behind them
abbrev first_more : (asked : PurchaseAsked) (before rest reads : List ReadOf) → reads ≡ before ++ rest → HasFirst asked before → HasFirst asked reads
first_more asked before rest reads is has = record {
  buyer = has.buyer;
  cart = has.cart;
  more = has.more ++ rest;
  reads_are = is ∙ ap (λ (l : List ReadOf). l ++ rest) has.reads_are;
  buyer_is = has.buyer_is;
  cart_is = has.cart_is;
}

pub has_first : (asked : PurchaseAsked) (tax : TaxRule) (round : ℕ) (reads : List ReadOf) → (round ≡ 0 → ⊥) → FollowsConfirm asked tax round reads → HasFirst asked reads
has_first asked tax zero reads later follows = absurd (later refl)
has_first asked tax (suc zero) reads later follows = two_reads asked reads follows
has_first asked tax (suc (suc zero)) reads later follows = follows.first
has_first asked Flat (suc (suc (suc more))) reads later follows = absurd follows
has_first asked ByCountry (suc (suc (suc more))) reads later follows = first_more asked follows.before (follows.country ∷ []) reads follows.reads_are follows.second.first

-- the reads of two rounds
pub second_at : (asked : PurchaseAsked) (tax : TaxRule) (round : ℕ) (reads : List ReadOf) → round ≡ 2 → FollowsConfirm asked tax round reads → HasSecond asked reads
second_at asked tax round reads is follows = subst (λ r. FollowsConfirm asked tax r reads) is follows

-- and what came behind them: nothing, or the country
pub record HasMost (asked : PurchaseAsked) (tax : TaxRule) (round : ℕ) (reads : List ReadOf) : Type 0 where
  pub before : List ReadOf
  pub rest : List ReadOf
  pub reads_are : reads ≡ before ++ rest
  pub second : HasSecond asked before
  pub flat : tax ≡ Flat → rest ≡ []
  pub country : (round ≡ 2 → ⊥) → (read : ReadOf) × (rest ≡ read ∷ []) × (read.key ≡ key.Country (country_read asked.address (ship_in before)))

pub has_most : (asked : PurchaseAsked) (tax : TaxRule) (round : ℕ) (reads : List ReadOf) → (round ≡ 0 → ⊥) → (round ≡ 1 → ⊥) → FollowsConfirm asked tax round reads → HasMost asked tax round reads
has_most asked tax zero reads later last follows = absurd (later refl)
has_most asked tax (suc zero) reads later last follows = absurd (last refl)
has_most asked tax (suc (suc zero)) reads later last follows =
    record { before = reads; rest = []; reads_are = sym (append-nil reads); second = follows; flat = λ is. refl; country = λ other. absurd (other refl) }
has_most asked Flat (suc (suc (suc more))) reads later last follows = absurd follows
has_most asked ByCountry (suc (suc (suc more))) reads later last follows = record {
  before = follows.before;
  rest = follows.country ∷ [];
  reads_are = follows.reads_are;
  second = follows.second;
  flat = λ is. absurd (cc is);
  country = λ other. (follows.country, refl, follows.country_is);
}

-- the reads of the first round in front of these
abbrev pub first_of : (asked : PurchaseAsked) (tax : TaxRule) (round : ℕ) (reads : List ReadOf) → HasMost asked tax round reads → HasFirst asked reads
first_of asked tax round reads most = first_more asked most.before most.rest reads most.reads_are most.second.first

-- the second of them is a fit cart
pub fit_first : (asked : PurchaseAsked) (ask : Ask) (reads : List ReadOf) → (has : HasFirst asked reads) → AreSeen ask.index.now reads → IsFitRow has.cart.row
fit_first asked ask reads has seen =
    let second = (subst (AreSeen ask.index.now) has.reads_are seen).1.0 in
    let t : Tables = second.0 in
    subst IsFitRow (ap (row_of t) (sym has.cart_is) ∙ second.1.shows.0) (fit_shown t asked.cart (row_numbered t.carts asked.cart) refl second.1.sound)

-- the reads by their places

pub at_buyer : (asked : PurchaseAsked) (reads : List ReadOf) (read : ReadOf) → (has : HasFirst asked reads) → get_or reads 0 read ≡ has.buyer
at_buyer asked reads read has = ap (λ (l : List ReadOf). get_or l 0 read) has.reads_are

pub at_cart : (asked : PurchaseAsked) (reads : List ReadOf) (read : ReadOf) → (has : HasFirst asked reads) → get_or reads 1 read ≡ has.cart
at_cart asked reads read has = ap (λ (l : List ReadOf). get_or l 1 read) has.reads_are

-- the first two are shown
pub shows_first : (asked : PurchaseAsked) (reads : List ReadOf) (buyer cart : ReadOf) (t : Tables) → (has : HasFirst asked reads) → buyer ≡ get_or reads 0 buyer → cart ≡ get_or reads 1 cart
    → Shows t reads → Shows t (buyer ∷ cart ∷ [])
shows_first asked reads buyer cart t has at_first at_second shows =
    let all = subst (Shows t) has.reads_are shows in (
      subst (λ (r : ReadOf). row_of t r.key ≡ r.row) (sym (at_first ∙ at_buyer asked reads buyer has)) all.0,
      (subst (λ (r : ReadOf). row_of t r.key ≡ r.row) (sym (at_second ∙ at_cart asked reads cart has)) all.1.0, tt),
    )

-- what was made of them by their places
pub begun_first : (asked : PurchaseAsked) (reads : List ReadOf) (buyer cart : ReadOf) (basket : Basket) → (has : HasFirst asked reads) → buyer ≡ get_or reads 0 buyer → cart ≡ get_or reads 1 cart
    → Begins buyer.row cart.row basket → Begins has.buyer.row has.cart.row basket
begun_first asked reads buyer cart basket has at_first at_second begins =
    subst (λ (r : ReadOf). Begins r.row has.cart.row basket) (at_first ∙ at_buyer asked reads buyer has)
    (subst (λ (r : ReadOf). Begins buyer.row r.row basket) (at_second ∙ at_cart asked reads cart has) begins)

-- what is asked for next

-- the keys of both rounds behind those of the customer and of the cart
keys_behind : (text : Option AddressText) (address : ℕ) (lines : List (ℕ × ℕ)) → text_keys text ++ second_keys text address lines ≡ ship_key text address ∷ item_keys lines
keys_behind None address lines = refl
keys_behind (Some text) address lines = refl

-- which customer and which lines they come to
behind_is : (text : Option AddressText) (buyer cart : Row) (basket : Basket) → Begins buyer cart basket
    → ship_key text (address_in buyer) ∷ item_keys (lines_in cart) ≡ ship_key text basket.customer.now.address ∷ item_keys basket.lines.now
behind_is text buyer cart basket begins =
    ap (λ r. ship_key text (address_in r) ∷ item_keys (lines_in cart)) begins.customer
    ∙ ap (λ r. ship_key text basket.customer.now.address ∷ item_keys (lines_in r)) begins.bought.row_is
    ∙ ap (λ (lines : List (ℕ × ℕ)). ship_key text basket.customer.now.address ∷ item_keys lines) (sym begins.bought.lines_are)

-- it may read these

module _ (opening : Tables) (log : List Entry) (asked : PurchaseAsked) (draw : ℕ) where
  item_on : (cart : ReadOf) (lines : List (ℕ × ℕ)) (item : ℕ) → cart.key ≡ key.Cart asked.cart → AreBought cart.row lines → AreTrue opening log (cart ∷ [])
      → IsAmong item lines → WasOnCart opening log asked.cart item
  unfolding history
  item_on cart lines item is bought are among =
      let t : Tables = tables opening (take cart.version log) in
      record {
        front = cart.version;
        row = bought.cart;
        there = cart_found (row_numbered t.carts asked.cart) bought.cart (ap (row_of t) (sym is) ∙ are.0.row_is ∙ bought.row_is);
        line = subst (IsAmong item) bought.lines_are among;
      }

  home_on : (buyer : ReadOf) (customer : CustomerRow) (text : Option AddressText) → asked.address ≡ text → buyer.key ≡ key.Customer asked.c → buyer.row ≡ row.Customer customer → AreTrue opening log (buyer ∷ [])
      → All (InFootprint opening log (BuyConfirm asked) draw) (home_keys text customer.address)
  unfolding history
  home_on buyer customer (Some text) given is row_is are = All-nil (InFootprint opening log (BuyConfirm asked) draw)
  home_on buyer customer None given is row_is are =
      let t : Tables = tables opening (take buyer.version log) in
      let P : Key → Type 0 = InFootprint opening log (BuyConfirm asked) draw in
      let was : WasShown opening log (key.Customer asked.c) (row.Customer customer) = record { front = buyer.version; is = ap (row_of t) (sym is) ∙ are.0.row_is ∙ row_is } in
      All-cons P (key.Address customer.address) [] (inl (inr (inl (subst (λ o. IsShippedTo opening log asked.c o (key.Address customer.address)) (sym given) (customer, was, refl))))) (All-nil P)

  second_may : (buyer cart : ReadOf) (basket : Basket) → buyer.key ≡ key.Customer asked.c → cart.key ≡ key.Cart asked.cart → Begins buyer.row cart.row basket → AreTrue opening log (buyer ∷ cart ∷ [])
      → All (InFootprint opening log (BuyConfirm asked) draw) (second_keys asked.address basket.customer.now.address basket.lines.now)
  second_may buyer cart basket buyer_is cart_is begins are =
      let P : Key → Type 0 = InFootprint opening log (BuyConfirm asked) draw in
      let lines : List (ℕ × ℕ) = basket.lines.now in
      All-append P (home_keys asked.address basket.customer.now.address) (item_keys lines)
      (home_on buyer basket.customer.now asked.address refl buyer_is begins.customer (are.0, tt))
      (All-map P (λ (l : ℕ × ℕ). key.Item l.0) lines
      (λ k d within. inl (inr (inr ((get_or lines k d).0, item_on cart lines (get_or lines k d).0 cart_is begins.bought (are.1.0, tt) (k, (get_or lines k d).1, slice_get-get_or lines k d within), refl)))))

pub asks_second : (asked : PurchaseAsked) (ask : Ask) (round : ℕ) (reads : List ReadOf) (keys : List Key) (basket : Basket) → round ≡ 1 → FollowsConfirm asked ask.tax round reads → (has : HasFirst asked reads)
    → Begins has.buyer.row has.cart.row basket → keys ≡ second_keys asked.address basket.customer.now.address basket.lines.now → AsksFor (FollowsConfirm asked ask.tax) (BuyConfirm asked) ask round reads keys
asks_second asked ask zero reads keys basket is follows has begins are = absurd (omega (arith, is))
asks_second asked ask (suc (suc round)) reads keys basket is follows has begins are = absurd (omega (arith, is))
asks_second asked ask (suc zero) reads keys basket is follows has begins are =
    let first : keys_of has.more ≡ text_keys asked.address = (let both = ap keys_of (sym has.reads_are) ∙ follows in cc) in
    record {
      few = omega arith;
      goes_on = λ more of. record {
        first = record { buyer = has.buyer; cart = has.cart; more = has.more ++ more; reads_are = ap (λ (l : List ReadOf). l ++ more) has.reads_are; buyer_is = has.buyer_is; cart_is = has.cart_is };
        more_are =
            map-append (λ (r : ReadOf). r.key) has.more more
            ∙ ap (λ (l : List Key). l ++ keys_of more) first
            ∙ ap (λ (l : List Key). text_keys asked.address ++ l) (of ∙ are)
            ∙ keys_behind asked.address basket.customer.now.address basket.lines.now
            ∙ sym (behind_is asked.address has.buyer.row has.cart.row basket begins);
      };
      may = λ opening log were.
          let two = subst (AreTrue opening log) has.reads_are were.are in
          subst (All (InFootprint opening log (BuyConfirm asked) ask.draw)) (sym are)
          (second_may opening log asked ask.draw has.buyer has.cart basket has.buyer_is has.cart_is begins (two.0, (two.1.0, tt)));
    }

-- the country is asked for behind these
pub asks_country : (asked : PurchaseAsked) (ask : Ask) (round : ℕ) (reads : List ReadOf) (country : ℕ) → round ≡ 2 → ask.tax ≡ ByCountry → HasSecond asked reads → country ≡ country_read asked.address (ship_in reads)
    → AsksFor (FollowsConfirm asked ask.tax) (BuyConfirm asked) ask round reads (key.Country country ∷ [])
asks_country asked ask round reads country at rule has is = record {
  few = omega (arith, at);
  goes_on = λ more of.
      let one : (read : ReadOf) × (more ≡ read ∷ []) × (read.key ≡ key.Country country) = one_read (key.Country country) more of in
      subst (λ r. FollowsConfirm asked ask.tax (suc r) (reads ++ more)) (sym at) (subst (λ x. FollowsConfirm asked x 3 (reads ++ more)) (sym rule) (record {
        before = reads;
        country = one.0;
        reads_are = ap (λ (l : List ReadOf). reads ++ l) one.1;
        second = has;
        country_is = one.2 ∙ ap key.Country is;
      }));
  may = λ opening log were.
      let P : Key → Type 0 = InFootprint opening log (BuyConfirm asked) ask.draw in
      All-cons P (key.Country country) [] (inr (inr (country, refl))) (All-nil P);
}

-- where all is read

-- behind the customer and the cart come where it ships to and the items
pub record HasShip (text : Option AddressText) (address : ℕ) (lines : List (ℕ × ℕ)) (more : List ReadOf) : Type 0 where
  pub ship : ReadOf
  pub items : List ReadOf
  pub more_is : more ≡ ship ∷ items
  pub key_is : ship.key ≡ ship_key text address
  pub items_are : keys_of items ≡ item_keys lines

ship_first : (text : Option AddressText) (address : ℕ) (lines : List (ℕ × ℕ)) (more : List ReadOf) → keys_of more ≡ ship_key text address ∷ item_keys lines → HasShip text address lines more
ship_first text address lines [] are = absurd cc
ship_first text address lines (ship ∷ items) are = record { ship = ship; items = items; more_is = refl; key_is = cc are; items_are = cc are }

module _ (asked : PurchaseAsked) (reads : List ReadOf) (basket : Basket) (has : HasSecond asked reads) (begins : Begins has.first.buyer.row has.first.cart.row basket) where
  pub has_ship : HasShip asked.address basket.customer.now.address basket.lines.now has.first.more
  has_ship = ship_first asked.address basket.customer.now.address basket.lines.now has.first.more (has.more_are ∙ behind_is asked.address has.first.buyer.row has.first.cart.row basket begins)

  reads_by : reads ≡ has.first.buyer ∷ has.first.cart ∷ has_ship.ship ∷ has_ship.items
  reads_by = has.first.reads_are ∙ ap (λ (more : List ReadOf). has.first.buyer ∷ has.first.cart ∷ more) has_ship.more_is

  pub ship_row : ship_in reads ≡ has_ship.ship.row
  ship_row = ap ship_in reads_by

  pub at_ship : (rest all : List ReadOf) (read : ReadOf) → all ≡ reads ++ rest → get_or all 2 read ≡ has_ship.ship
  at_ship rest all read is = ap (λ (l : List ReadOf). get_or l 2 read) (is ∙ ap (λ (l : List ReadOf). l ++ rest) reads_by)

  pub country_at : (read : ReadOf) → country_read asked.address (get_or reads 2 read).row ≡ country_read asked.address (ship_in reads)
  country_at read =
      ap (λ (r : ReadOf). country_read asked.address r.row) (at_ship [] reads read (sym (append-nil reads)))
      ∙ ap (λ (r : Row). country_read asked.address r) (sym ship_row)

  some_lines : (cart : CartRow) → check_bought (Some cart) ≡ None → cart.lines ≢ []
  some_lines cart passes empty = let same : check_bought (Some cart) ≡ check_bought (Some (record { id = cart.id; lines = [] })) = ap (λ (lines : List (ℕ × ℕ)). check_bought (Some (record { id = cart.id; lines = lines }))) empty in absurd cc

  ship_is : (text : Option AddressText) (read : ReadOf) (r : Row) → read.row ≡ r → read.key ≡ ship_key text basket.customer.now.address → is_ship text r ≡ true → IsShip text basket.customer.now read
  ship_is None read (row.Address address) at is ships = (address, is, at)
  ship_is (Some text) read (row.Id id) at is ships = (Some id, is, at)
  ship_is (Some text) read row.Absent at is ships = (None, is, at)
  ship_is None read _ at is ships = absurd cc
  ship_is (Some text) read _ at is ships = absurd cc

  pub is_basket : (tax : TaxRule) (rest all : List ReadOf) → all ≡ reads ++ rest → is_ship asked.address has_ship.ship.row ≡ true
      → IsTaxed tax (country_read asked.address has_ship.ship.row) rest → IsBasket tax asked all
  is_basket tax rest all is ships taxed = record {
    buyer = has.first.buyer;
    basket = has.first.cart;
    ship = has_ship.ship;
    items = has_ship.items;
    rest = rest;
    reads_are = is ∙ ap (λ (l : List ReadOf). l ++ rest) reads_by;
    customer = basket.customer.now;
    buyer_key = has.first.buyer_is;
    buyer_row = begins.customer;
    cart = begins.bought.cart;
    basket_key = has.first.cart_is;
    basket_row = begins.bought.row_is;
    some = some_lines begins.bought.cart begins.bought.passes;
    ship_is = ship_is asked.address has_ship.ship has_ship.ship.row refl has_ship.key_is ships;
    items_are = has_ship.items_are ∙ ap item_keys begins.bought.lines_are;
    taxed = taxed;
  }

  -- tables that are sound show where it ships to

  address_there : (t : Tables) → Sound t → row_of t (key.Customer asked.c) ≡ row.Customer basket.customer.now → (address : Address) × (row_numbered t.addresses basket.customer.now.address ≡ Some address)
  address_there t sound is =
      let there = customer_found (row_numbered t.customers asked.c) basket.customer.now is in
      some_row t.addresses basket.customer.now.address (all_numbered (λ (c : CustomerRow). Has (length t.addresses) c.address) t.customers asked.c basket.customer.now there sound.names.customers)

  ships_there : (t : Tables) (text : Option AddressText) → Sound t → row_of t (key.Customer asked.c) ≡ row.Customer basket.customer.now → is_ship text (row_of t (ship_key text basket.customer.now.address)) ≡ true
  ships_there t None sound is = ap (λ (o : Option Address). is_ship None (shown row.Address o)) (address_there t sound is).1
  ships_there t (Some text) sound is = id_ships text (option_map (λ a. a.id) (address_saying t text))
    where
      id_ships : (text : AddressText) (o : Option ℕ) → is_ship (Some text) (shown row.Id o) ≡ true
      id_ships text None = refl
      id_ships text (Some id) = refl

  shows_all : (t : Tables) (rest all : List ReadOf) → all ≡ reads ++ rest → Shows t all → Shows t (has.first.buyer ∷ has.first.cart ∷ has_ship.ship ∷ has_ship.items) × Shows t rest
  shows_all t rest all is shows = shows_both t (has.first.buyer ∷ has.first.cart ∷ has_ship.ship ∷ has_ship.items) rest (subst (Shows t) (is ∙ ap (λ (l : List ReadOf). l ++ rest) reads_by) shows)

  pub never_ships : (ask : Ask) (rest all : List ReadOf) → all ≡ reads ++ rest → is_ship asked.address has_ship.ship.row ≡ false → (t : Tables) → Fits ask.index.now t all → ⊥
  never_ships ask rest all is fails t fits =
      let shows = (shows_all t rest all is fits.shows).0 in
      let ships : is_ship asked.address has_ship.ship.row ≡ true
      = ap (is_ship asked.address) (sym shows.1.1.0 ∙ ap (row_of t) has_ship.key_is)
      ∙ ships_there t asked.address fits.sound (ap (row_of t) (sym has.first.buyer_is) ∙ shows.0 ∙ begins.customer) in
      absurd cc

  -- and the country to which it ships

  country_has : (t : Tables) (text : Option AddressText) → IfSome text IsAddressAsked → Sound t → (r : Row) → r ≡ row_of t (ship_key text basket.customer.now.address) → is_ship text r ≡ true
      → Has (length t.countries) (country_read text r)
  country_has t (Some text) form sound r is ships = record { first = form.country.first; last = omega (arith, form.country.last, sound.countries) }
  country_has t None form sound (row.Address address) is ships =
      let there = address_found (row_numbered t.addresses basket.customer.now.address) address (sym is) in
      all_numbered (λ (a : Address). Has (length t.countries) a.text.country) t.addresses basket.customer.now.address address there sound.names.addresses
  country_has t None form sound _ is ships = absurd cc

  country_shown : (t : Tables) (country : ℕ) → Has (length t.countries) country → is_country (row_of t (key.Country country)) ≡ true
  country_shown t country has = let there = some_row t.countries country has in ap (λ (o : Option CountryRow). is_country (shown row.Country o)) there.1

  pub never_country : (ask : Ask) (read : ReadOf) (all : List ReadOf) → all ≡ reads ++ read ∷ [] → IsPurchaseAsked asked → is_ship asked.address has_ship.ship.row ≡ true
      → read.key ≡ key.Country (country_read asked.address has_ship.ship.row) → is_country read.row ≡ false → (t : Tables) → Fits ask.index.now t all → ⊥
  never_country ask read all is form ships key_is fails t fits =
      let shows = shows_all t (read ∷ []) all is fits.shows in
      let ship : has_ship.ship.row ≡ row_of t (ship_key asked.address basket.customer.now.address) = sym shows.0.1.1.0 ∙ ap (row_of t) has_ship.key_is in
      let there : is_country read.row ≡ true
      = ap is_country (sym shows.1.0 ∙ ap (row_of t) key_is)
      ∙ country_shown t (country_read asked.address has_ship.ship.row) (country_has t asked.address form.address fits.sound has_ship.ship.row ship ships) in
      absurd cc

-- by the round

-- a row that is a country
country_in : (r : Row) → is_country r ≡ true → (shown : CountryRow) × (r ≡ row.Country shown)
country_in (row.Country shown) is = (shown, refl)
country_in _ is = absurd cc

-- a rule that is not the flat one
pub by_country : (tax : TaxRule) → (tax ≡ Flat → ⊥) → tax ≡ ByCountry
by_country Flat other = absurd (other refl)
by_country ByCountry other = refl

module _ (asked : PurchaseAsked) (tax : TaxRule) (round : ℕ) (reads : List ReadOf) (basket : Basket) (most : HasMost asked tax round reads)
    (begins : Begins most.second.first.buyer.row most.second.first.cart.row basket) where
  abbrev ship : ReadOf
  ship = (has_ship asked most.before basket most.second begins).ship

  pub most_ship : (read : ReadOf) → get_or reads 2 read ≡ ship
  most_ship read = at_ship asked most.before basket most.second begins most.rest reads read most.reads_are

  pub ship_never : (ask : Ask) → is_ship asked.address ship.row ≡ false → (t : Tables) → Fits ask.index.now t reads → ⊥
  ship_never ask fails = never_ships asked most.before basket most.second begins ask most.rest reads most.reads_are fails

  pub flat_basket : tax ≡ Flat → is_ship asked.address ship.row ≡ true → IsBasket tax asked reads
  flat_basket flat ships =
      is_basket asked most.before basket most.second begins tax most.rest reads most.reads_are ships
      (subst (λ x. IsTaxed x (country_read asked.address ship.row) most.rest) (sym flat) (most.flat flat))

  module _ (later : round ≡ 2 → ⊥) where
    abbrev country : ReadOf
    country = (most.country later).0

    country_key : country.key ≡ key.Country (country_read asked.address ship.row)
    country_key = (most.country later).2 ∙ ap (λ (r : Row). key.Country (country_read asked.address r)) (ship_row asked most.before basket most.second begins)

    reads_last : reads ≡ most.before ++ country ∷ []
    reads_last = most.reads_are ∙ ap (λ (l : List ReadOf). most.before ++ l) (most.country later).1

    pub at_country : (read : ReadOf) → get_or reads (length reads - 1) read ≡ country
    at_country read = last_read most.before reads country read reads_last

    pub country_basket : tax ≡ ByCountry → is_ship asked.address ship.row ≡ true → is_country country.row ≡ true → IsBasket tax asked reads
    country_basket rule ships is =
        let shown = country_in country.row is in
        is_basket asked most.before basket most.second begins tax most.rest reads most.reads_are ships
        (subst (λ x. IsTaxed x (country_read asked.address ship.row) most.rest) (sym rule) (country, shown.0, (most.country later).1, country_key, shown.1))

    pub country_never : (ask : Ask) → IsPurchaseAsked asked → is_ship asked.address ship.row ≡ true → is_country country.row ≡ false → (t : Tables) → Fits ask.index.now t reads → ⊥
    country_never ask form ships fails = never_country asked most.before basket most.second begins ask country reads reads_last form ships country_key fails
