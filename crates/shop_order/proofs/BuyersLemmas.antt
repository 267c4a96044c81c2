-- Buy Request: the change that it makes by what it has read.
use Rattle.std.proofs.Common.{◌≡◌, ℕ, ◌+◌, ◌-◌, List, [], ◌∷◌, ◌++◌, length, take, drop, get_or, Option, Some, None, option_map, unwrap_or, refl, sym, ◌∙◌, ap, subst, inl, inr, arith}
use Rattle.std.proofs.Math.Seq.{take-append_seam}
use Rattle.std.proofs.lemmas.List.{append_assoc}
use Rattle.std.proofs.lemmas.List.Elements.{All-nil, All-cons}
use Rattle.shop_model.specs.declared.address.Address.{Address}
use Rattle.shop_model.specs.declared.buying.BuyRequest as buying
use Rattle.shop_model.specs.declared.buying.Buyer.TheVariants.{Returning, Newcomer}
use Rattle.shop_model.specs.declared.requests.Request.TheVariants.{BuyRequest}
use Rattle.shop_model.specs.declared.tables.Tables.{Tables}
use Rattle.shop_model.specs.asked.CustomersAsked.{LoginAsked, NewcomerAsked, IsNewcomerAsked}
use Rattle.shop_model.specs.pages.BuyRequest.{buy_request}
use Rattle.shop_model.specs.rows.Lookups.{row_numbered, rate_of}
use Rattle.shop_model.specs.rows.Rows.{CartRow, CountryRow, CustomerRow}
use Rattle.shop_model.specs.rows.Sound.{Has, Sound}
use Rattle.shop_model.specs.trade.Buyers.{customer_named, address_saying, check_bought, check_password, check_buyer, check_enter, logged_in, new_customer, buyer_row, buyer_country, tables_entered}
use Rattle.shop_model.specs.trade.Carts.{first_of, lines_named}
use Rattle.shop_history.specs.declared.acts.Act.TheVariants.{Enter}
use Rattle.shop_history.specs.declared.acts.Drawn.{Drawn}
use Rattle.shop_history.specs.declared.keys.Key.{Key}
use Rattle.shop_history.specs.declared.keys.Key.TheVariants as key
use Rattle.shop_history.specs.declared.keys.Row.TheVariants as row
use Rattle.shop_history.specs.Acts.{play, buyer_page}
use Rattle.shop_history.specs.Drawing.{new_ids}
use Rattle.shop_history.specs.Keys.{row_of, shown}
use Rattle.shop_history.specs.Logs.{history, tables}
use Rattle.shop_history.proofs.cited.Drawing.{id_pushed}
use Rattle.shop_history.proofs.cited.Places.{all_numbered, some_row}
use Rattle.shop_draft.specs.declared.draft.Draft.{Draft}
use Rattle.shop_draft.specs.Pages.{IsPage}
use Rattle.shop_attempt.specs.declared.attempts.ReadOf.{ReadOf}
use Rattle.shop_attempt.specs.declared.attempts.Write.TheVariants.{Login}
use Rattle.shop_attempt.specs.Reads.{Shows, AreTrue}
use Rattle.shop_attempt.specs.Writes.{written}
use Rattle.shop_browse.specs.declared.attempted.Ask.{Ask}
use Rattle.shop_browse.specs.Baskets.{country_read}
use Rattle.shop_browse.specs.Driver.{keys_of, Fits, MayRead, IsChange}
use Rattle.shop_browse.specs.Footprints.{WasShown, IsBuyer, InFootprint}
use Rattle.shop_order.specs.declared.buy_request.Begun.{Begun}
use Rattle.shop_order.specs.declared.stops.Stop.{Stop}
use Rattle.shop_order.specs.declared.stops.Stop.TheVariants as stops
use Rattle.shop_order.specs.BuyConfirm.{address_in}
use Rattle.shop_order.specs.BuyRequest.{buyer_key, second_keys, check_found, customer_row, home_key, IsCustomerIn, BeginsBy, HasMost, HasHome}
use Rattle.shop_order.specs.Entries.{newcomer_writes}
use Rattle.shop_order.specs.ShoppingCart.{AreItems}
use Rattle.shop_order.specs.Stops.{StopsBy, IsStop}
use Rattle.shop_order.proofs.BuyRequestLemmas.{HasAll, has_all}
use Rattle.shop_order.proofs.ReadsLemmas.{many_items, last_read, shows_both, rate_found}
use Rattle.shop_order.proofs.EnterLemmas.{user_numbered, login_written, newcomer_written}
use Rattle.shop_history.proofs.cited.Shown.{cart_found, customer_found, id_found}

-- what the reads show

-- tables that show the reads have the cart that is bought, and what was found of the buyer
record ShowsFirst (t : Tables) (asked : buying.BuyRequest) (begun : Begun) : Type 0 where
  passes : check_bought (row_numbered t.carts asked.cart) ≡ None
  lines : lines_named t.carts (Some asked.cart) ≡ Some begun.lines.now
  found : row_of t (buyer_key asked.buyer) ≡ shown row.Id begun.found

first_shown : (t : Tables) (asked : buying.BuyRequest) (begun : Begun) (reads : List ReadOf) → (all : HasAll asked begun reads) → Shows t reads → ShowsFirst t asked begun
first_shown t asked begun reads all shows =
    let first = subst (Shows t) all.first.reads_are shows in
    let bought = all.begins.bought in
    let there : row_numbered t.carts asked.cart ≡ Some bought.cart
    = cart_found (row_numbered t.carts asked.cart) bought.cart (ap (row_of t) (sym all.first.cart_is) ∙ first.0 ∙ bought.row_is) in
    record {
      passes = ap check_bought there ∙ bought.passes;
      lines = ap (λ (o : Option CartRow). option_map (λ c. c.lines) o) there ∙ ap (λ (l : List (ℕ × ℕ)). Some l) (sym bought.lines_are);
      found = ap (row_of t) (sym all.first.found_is) ∙ first.1.0 ∙ all.begins.known.row_is;
    }

-- the page of who buys
page_is : (t : Tables) (asked : buying.BuyRequest) (buyer : Option CustomerRow) (customer : CustomerRow) (lines : List (ℕ × ℕ)) (rate : ℕ) → buyer ≡ Some customer → lines_named t.carts (Some asked.cart) ≡ Some lines
    → rate_of t (buyer_country t asked.buyer customer) ≡ rate → buyer_page t asked buyer ≡ buy_request t customer asked.cart lines rate
page_is t asked buyer customer lines rate is named taxed =
    ap (buyer_page t asked) is
    ∙ ap (λ (o : Option (List (ℕ × ℕ))). buy_request t customer asked.cart (unwrap_or o []) (rate_of t (buyer_country t asked.buyer customer))) named
    ∙ ap (buy_request t customer asked.cart lines) taxed

-- a customer who returns

-- behind the reads of the first round comes that of the customer, and then those of the items
pub record HasCustomer (found : Option ℕ) (lines : List (ℕ × ℕ)) (more : List ReadOf) : Type 0 where
  pub id : ℕ
  pub found_is : found ≡ Some id
  pub customer : ReadOf
  pub items : List ReadOf
  pub more_is : more ≡ customer ∷ items
  pub key_is : customer.key ≡ key.Customer id
  pub items_are : AreItems lines items

customer_first : (login : LoginAsked) (found : Option ℕ) (lines : List (ℕ × ℕ)) (more : List ReadOf) → check_found (Returning login) found ≡ None → keys_of more ≡ second_keys (Returning login) found lines
    → HasCustomer found lines more
customer_first login None lines more passes are = absurd cc
customer_first login (Some id) lines [] passes are = absurd cc
customer_first login (Some id) lines (customer ∷ items) passes are = record { id = id; found_is = refl; customer = customer; items = items; more_is = refl; key_is = cc; items_are = cc }

module _ (asked : buying.BuyRequest) (login : LoginAsked) (begun : Begun) (ask : Ask) (reads rest : List ReadOf) (buyer_is : asked.buyer ≡ Returning login) (most : HasMost asked reads rest) (begins : BeginsBy asked begun reads) where
  pub all : HasAll asked begun most.before
  all = has_all asked begun reads rest most begins

  pub has_customer : HasCustomer begun.found begun.lines.now all.first.more
  has_customer =
      customer_first login begun.found begun.lines.now all.first.more (ap (λ b. check_found b begun.found) (sym buyer_is) ∙ all.begins.known.passes)
      (all.more_are ∙ ap (λ b. second_keys b begun.found begun.lines.now) buyer_is)

  before_by : most.before ≡ all.first.cart ∷ all.first.found ∷ has_customer.customer ∷ has_customer.items
  before_by = all.first.reads_are ∙ ap (λ (more : List ReadOf). all.first.cart ∷ all.first.found ∷ more) has_customer.more_is

  reads_by : reads ≡ all.first.cart ∷ all.first.found ∷ has_customer.customer ∷ (has_customer.items ++ rest)
  reads_by = most.reads_are ∙ ap (λ (l : List ReadOf). l ++ rest) before_by

  pub at_customer : (read : ReadOf) → get_or reads 2 read ≡ has_customer.customer
  at_customer read = ap (λ (l : List ReadOf). get_or l 2 read) reads_by

  pub is_customer : (pass : List ℕ) (read : ReadOf) (customer : CustomerRow) → pass ≡ login.pass → IsCustomerIn pass (get_or reads 2 read).row customer → IsCustomerIn login.pass has_customer.customer.row customer
  is_customer pass read customer same is =
      subst (λ p. IsCustomerIn p has_customer.customer.row customer) same
      (subst (λ (r : ReadOf). IsCustomerIn pass r.row customer) (at_customer read) is)

  many : length begun.lines.now ≡ length has_customer.items
  many = many_items begun.lines.now has_customer.items has_customer.items_are

  pub at_items : take (3 + length begun.lines.now - 3) (drop 3 reads) ≡ has_customer.items
  at_items =
      let so_many : 3 + length begun.lines.now - 3 ≡ length has_customer.items = omega (arith, many) in
      ap (λ n. take n (drop 3 reads)) so_many
      ∙ ap (λ (l : List ReadOf). take (length has_customer.items) (drop 3 l)) reads_by
      ∙ take-append_seam has_customer.items rest

  -- the customer of the user name is the one that was read
  record ShowsCustomer (t : Tables) : Type 0 where
    first : ShowsFirst t asked begun
    named : customer_named t login.user ≡ row_numbered t.customers has_customer.id
    there : shown row.Customer (row_numbered t.customers has_customer.id) ≡ has_customer.customer.row
    items : Shows t has_customer.items
    behind : Shows t rest

  named_there : (t : Tables) (id : ℕ) (o : Option CustomerRow) → Sound t → customer_named t login.user ≡ o → option_map (λ c. c.id) o ≡ Some id → o ≡ row_numbered t.customers id
  named_there t id None sound named is = absurd cc
  named_there t id (Some customer) sound named is =
      let same : customer.id ≡ id = cc in
      sym (user_numbered t login.user customer sound named) ∙ ap (row_numbered t.customers) same

  customer_shown : (t : Tables) → Fits ask.index.now t reads → ShowsCustomer t
  customer_shown t fits =
      let shows = shows_both t most.before rest (subst (Shows t) most.reads_are fits.shows) in
      let first = first_shown t asked begun most.before all shows.0 in
      let more = (subst (Shows t) before_by shows.0).1.1 in
      let id : option_map (λ c. c.id) (customer_named t login.user) ≡ Some has_customer.id
      = id_found (option_map (λ c. c.id) (customer_named t login.user)) begun.found (ap (λ b. row_of t (buyer_key b)) (sym buyer_is) ∙ first.found) ∙ has_customer.found_is in
      record {
        first = first;
        named = named_there t has_customer.id (customer_named t login.user) fits.sound refl id;
        there = ap (row_of t) (sym has_customer.key_is) ∙ more.0;
        items = more.1;
        behind = shows.1;
      }

  check_is : (t : Tables) → ShowsCustomer t → check_enter t asked.cart asked.buyer ≡ check_password login.pass (row_numbered t.customers has_customer.id)
  check_is t shows =
      ap (λ o. first_of o (check_buyer t asked.buyer)) shows.first.passes
      ∙ ap (check_buyer t) buyer_is
      ∙ ap (check_password login.pass) shows.named

  -- where the password is wrong
  pub login_stops : (stop : Stop) → StopsBy row.Customer (check_password login.pass) has_customer.customer.row stop → IsStop (λ t. Fits ask.index.now t reads) (BuyRequest asked) stop
  login_stops (stops.Refused refusal) is = λ t fits.
      let shows = customer_shown t fits in
      check_is t shows ∙ is (row_numbered t.customers has_customer.id) shows.there
  login_stops stops.Never is = λ t fits. is (row_numbered t.customers has_customer.id) (customer_shown t fits).there

  module _ (customer : CustomerRow) (is : IsCustomerIn login.pass has_customer.customer.row customer) where
    numbered : (t : Tables) → ShowsCustomer t → row_numbered t.customers has_customer.id ≡ Some customer
    numbered t shows = customer_found (row_numbered t.customers has_customer.id) customer (shows.there ∙ is.row_is)

    -- where the customer lives
    lives_at : (l other : List ReadOf) → l ≡ all.first.cart ∷ all.first.found ∷ has_customer.customer ∷ other → key.Address customer.address ≡ home_key asked.buyer (customer_row l)
    lives_at l other l_is =
        let row_is : customer_row l ≡ row.Customer customer = ap customer_row l_is ∙ is.row_is in
        sym (ap (λ b. home_key b (customer_row l)) buyer_is ∙ ap (λ r. key.Address (address_in r)) row_is)

    pub home_is : key.Address customer.address ≡ home_key asked.buyer (customer_row reads)
    home_is = lives_at reads (has_customer.items ++ rest) reads_by

    pub home_may : MayRead (BuyRequest asked) ask reads (key.Address customer.address ∷ [])
    unfolding history
    home_may opening log were =
        let P : Key → Type 0 = InFootprint opening log (BuyRequest asked) ask.draw in
        let are = subst (AreTrue opening log) reads_by were.are in
        let found = all.first.found in
        let known : Tables = tables opening (take found.version log) in
        let then : Tables = tables opening (take has_customer.customer.version log) in
        let named : WasShown opening log (key.Name login.user) (row.Id has_customer.id) = record {
          front = found.version;
          is = ap (row_of known) (sym (all.first.found_is ∙ ap buyer_key buyer_is)) ∙ are.1.0.row_is ∙ all.begins.known.row_is ∙ ap (shown row.Id) has_customer.found_is;
        } in
        let lives : WasShown opening log (key.Customer has_customer.id) (row.Customer customer) = record {
          front = has_customer.customer.version;
          is = ap (row_of then) (sym has_customer.key_is) ∙ are.1.1.0.row_is ∙ is.row_is;
        } in
        let buys : IsBuyer opening log (Returning login) (key.Address customer.address) = inr (has_customer.id, named, (customer, lives, refl)) in
        All-cons P (key.Address customer.address) [] (inl (inr (subst (λ b. IsBuyer opening log b (key.Address customer.address)) (sym buyer_is) buys))) (All-nil P)

    -- where its address and the country of that are read
    module _ (home country : ReadOf) (rest_is : rest ≡ home ∷ country ∷ []) (lives : home.key ≡ home_key asked.buyer (customer_row most.before)) (country_is : country.key ≡ key.Country (country_read None home.row)) where
      pub at_country : (read : ReadOf) → get_or reads (length reads - 1) read ≡ country
      at_country read =
          last_read (most.before ++ home ∷ []) reads country read
          (most.reads_are ∙ ap (λ (l : List ReadOf). most.before ++ l) rest_is ∙ sym (append_assoc most.before (home ∷ []) (country ∷ [])))

      home_shown : (t : Tables) → ShowsCustomer t → row_of t (key.Address customer.address) ≡ home.row
      home_shown t shows =
          let key_is : key.Address customer.address ≡ home.key = lives_at most.before has_customer.items before_by ∙ sym lives in
          ap (row_of t) key_is ∙ (subst (Shows t) rest_is shows.behind).0

      country_shown : (t : Tables) → ShowsCustomer t → row_of t (key.Country (country_read None home.row)) ≡ country.row
      country_shown t shows = ap (row_of t) (sym country_is) ∙ (subst (Shows t) rest_is shows.behind).1.0

      -- both are there
      pub country_there : (t : Tables) → Fits ask.index.now t reads → (r : CountryRow) × (country.row ≡ row.Country r)
      country_there t fits =
          let shows = customer_shown t fits in
          let names = fits.sound.names in
          let address : (a : Address) × (row_numbered t.addresses customer.address ≡ Some a)
          = some_row t.addresses customer.address (all_numbered (λ (c : CustomerRow). Has (length t.addresses) c.address) t.customers has_customer.id customer (numbered t shows) names.customers) in
          let home_row : home.row ≡ row.Address address.0 = sym (home_shown t shows) ∙ ap (shown row.Address) address.1 in
          let there : (r : CountryRow) × (row_numbered t.countries address.0.text.country ≡ Some r)
          = some_row t.countries address.0.text.country (all_numbered (λ (a : Address). Has (length t.countries) a.text.country) t.addresses customer.address address.0 address.1 names.addresses) in
          (there.0, sym (country_shown t shows) ∙ ap (λ r. row_of t (key.Country (country_read None r))) home_row ∙ ap (shown row.Country) there.1)

      country_found_in : (o : Option Address) → unwrap_or (option_map (λ a. a.text.country) o) 0 ≡ country_read None (shown row.Address o)
      country_found_in None = refl
      country_found_in (Some address) = refl

      rate_is : (t : Tables) (stamp : ℕ) (r : CountryRow) → ShowsCustomer t → country.row ≡ row.Country r → rate_of t (buyer_country t asked.buyer (logged_in stamp customer)) ≡ r.rate
      rate_is t stamp r shows row_is =
          ap (λ b. rate_of t (buyer_country t b (logged_in stamp customer))) buyer_is
          ∙ ap (rate_of t) (country_found_in (row_numbered t.addresses customer.address) ∙ ap (country_read None) (home_shown t shows))
          ∙ rate_found t (country_read None home.row) r (country_shown t shows ∙ row_is)

      pub logs_in : (draft : Draft) (r : CountryRow) → country.row ≡ row.Country r
          → ((t : Tables) → Shows t has_customer.items → (stamp : ℕ) (drawn : Drawn) → IsPage draft drawn (buy_request t (logged_in stamp customer) asked.cart begun.lines.now r.rate))
          → IsChange (BuyRequest asked) ask reads draft (Enter asked ask.draw) (Login customer.id ∷ [])
      logs_in draft r row_is page = record {
        does = record { does = refl; drew = refl; taxed = tt };
        free = tt;
        makes = λ t stamp fits bound.
            let shows = customer_shown t fits in
            record {
              passes = check_is t shows ∙ ap (check_password login.pass) (numbered t shows) ∙ is.passes;
              tables_are = login_written t stamp ask.draw login customer (shows.named ∙ numbered t shows) ∙ ap (tables_entered t stamp ask.draw) (sym buyer_is);
            };
        becomes = λ t stamp fits bound front.
            let shows = customer_shown t fits in
            let drawn : Drawn = record { front = front; stamp = stamp; ids = new_ids t (play t stamp (Enter asked ask.draw)).tables } in
            let buyer : buyer_row t stamp ask.draw asked.buyer ≡ Some (logged_in stamp customer)
            = ap (buyer_row t stamp ask.draw) buyer_is ∙ ap (λ (o : Option CustomerRow). option_map (logged_in stamp) o) (shows.named ∙ numbered t shows) in
            subst (IsPage draft drawn)
            (sym (page_is t asked (buyer_row t stamp ask.draw asked.buyer) (logged_in stamp customer) begun.lines.now r.rate buyer shows.first.lines (rate_is t stamp r shows row_is)))
            (page t shows.items stamp drawn);
      }

-- who is new

module _ (asked : buying.BuyRequest) (newcomer : NewcomerAsked) (begun : Begun) (ask : Ask) (reads : List ReadOf) (buyer_is : asked.buyer ≡ Newcomer newcomer) (has : HasHome asked reads []) (begins : BeginsBy asked begun reads) where
  pub all_new : HasAll asked begun has.most.before
  all_new = has_all asked begun reads (has.home ∷ []) has.most begins

  items_are : AreItems begun.lines.now all_new.first.more
  items_are = all_new.more_are ∙ ap (λ b. second_keys b begun.found begun.lines.now) buyer_is

  new_reads : reads ≡ all_new.first.cart ∷ all_new.first.found ∷ (all_new.first.more ++ has.home ∷ [])
  new_reads = has.most.reads_are ∙ ap (λ (l : List ReadOf). l ++ has.home ∷ []) all_new.first.reads_are

  pub at_more : take (2 + length begun.lines.now - 2) (drop 2 reads) ≡ all_new.first.more
  at_more =
      let so_many : 2 + length begun.lines.now - 2 ≡ length all_new.first.more = omega (arith, many_items begun.lines.now all_new.first.more items_are) in
      ap (λ n. take n (drop 2 reads)) so_many
      ∙ ap (λ (l : List ReadOf). take (length all_new.first.more) (drop 2 l)) new_reads
      ∙ take-append_seam all_new.first.more (has.home ∷ [])

  pub at_home : (read : ReadOf) → get_or reads (length reads - 1) read ≡ has.home
  at_home read = last_read has.most.before reads has.home read has.most.reads_are

  home_key_is : has.home.key ≡ key.Country newcomer.address.country
  home_key_is = has.home_is ∙ ap (λ b. home_key b (customer_row has.most.before)) buyer_is

  shows_all : (t : Tables) → Fits ask.index.now t reads → Shows t has.most.before × (row_of t (key.Country newcomer.address.country) ≡ has.home.row)
  shows_all t fits =
      let shows = shows_both t has.most.before (has.home ∷ []) (subst (Shows t) has.most.reads_are fits.shows) in
      (shows.0, ap (row_of t) (sym home_key_is) ∙ shows.1.0)

  -- a country that may be given is there
  pub given_there : IsNewcomerAsked newcomer → (t : Tables) → Fits ask.index.now t reads → (r : CountryRow) × (has.home.row ≡ row.Country r)
  given_there form t fits =
      let given = form.address.country in
      let there : (r : CountryRow) × (row_numbered t.countries newcomer.address.country ≡ Some r)
      = some_row t.countries newcomer.address.country (record { first = given.first; last = omega (arith, given.last, fits.sound.countries) }) in
      (there.0, sym (shows_all t fits).1 ∙ ap (shown row.Country) there.1)

  pub comes_in : (draft : Draft) (r : CountryRow) → has.home.row ≡ row.Country r
      → ((t : Tables) → Shows t all_new.first.more → (stamp : ℕ) (drawn : Drawn) → drawn.ids.customer ≡ Some (length t.customers + 1)
      → IsPage draft drawn (buy_request t (new_customer t stamp ask.draw newcomer) asked.cart begun.lines.now r.rate))
      → IsChange (BuyRequest asked) ask reads draft (Enter asked ask.draw) (newcomer_writes ask.draw newcomer begun.found)
  comes_in draft r row_is page = record {
    does = record { does = refl; drew = refl; taxed = tt };
    free = tt;
    makes = λ t stamp fits bound.
        let first = first_shown t asked begun has.most.before all_new (shows_all t fits).0 in
        let found : option_map (λ a. a.id) (address_saying t newcomer.address) ≡ begun.found
        = id_found (option_map (λ a. a.id) (address_saying t newcomer.address)) begun.found (ap (λ b. row_of t (buyer_key b)) (sym buyer_is) ∙ first.found) in
        record {
          passes = ap (λ o. first_of o (check_buyer t asked.buyer)) first.passes ∙ ap (check_buyer t) buyer_is;
          tables_are =
              subst (λ o. written t stamp (newcomer_writes ask.draw newcomer o) ≡ tables_entered t stamp ask.draw asked.buyer) found
              (newcomer_written t stamp ask.draw newcomer fits.sound ∙ ap (tables_entered t stamp ask.draw) (sym buyer_is));
        };
    becomes = λ t stamp fits bound front.
        let shows = shows_all t fits in
        let first = first_shown t asked begun has.most.before all_new shows.0 in
        let drawn : Drawn = record { front = front; stamp = stamp; ids = new_ids t (play t stamp (Enter asked ask.draw)).tables } in
        let new : CustomerRow = new_customer t stamp ask.draw newcomer in
        let id : drawn.ids.customer ≡ Some (length t.customers + 1)
        = ap (λ b. (new_ids t (tables_entered t stamp ask.draw b)).customer) buyer_is ∙ id_pushed t.customers new in
        let rate : rate_of t (buyer_country t asked.buyer new) ≡ r.rate
        = ap (λ b. rate_of t (buyer_country t b new)) buyer_is ∙ rate_found t newcomer.address.country r (shows.1 ∙ row_is) in
        let behind = (subst (Shows t) all_new.first.reads_are shows.0).1.1 in
        subst (IsPage draft drawn)
        (sym (page_is t asked (buyer_row t stamp ask.draw asked.buyer) new begun.lines.now r.rate (ap (buyer_row t stamp ask.draw) buyer_is) first.lines rate))
        (page t behind stamp drawn id);
  }
