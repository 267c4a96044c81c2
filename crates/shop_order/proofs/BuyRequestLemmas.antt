-- Buy Request: what it may read, and where it stops.
use Rattle.std.proofs.Common.{◌≡◌, ℕ, ◌≤◌, zero, suc, List, [], ◌∷◌, ◌++◌, take, map, get_or, All, Option, Some, None, refl, sym, ◌∙◌, ap, subst, inl, inr, arith}
use Rattle.std.proofs.lemmas.List.{append_assoc, append-nil}
use Rattle.std.proofs.lemmas.List.Elements.{All-nil, All-cons, All-append, All-map, All-weaker}
use Rattle.std.proofs.lemmas.Option.{slice_get-get_or}
use Rattle.shop_model.specs.declared.buying.BuyRequest as buying
use Rattle.shop_model.specs.declared.buying.Buyer.{Buyer}
use Rattle.shop_model.specs.declared.buying.Buyer.TheVariants.{Returning, Newcomer}
use Rattle.shop_model.specs.declared.requests.Request.TheVariants.{BuyRequest}
use Rattle.shop_model.specs.declared.tables.Tables.{Tables}
use Rattle.shop_model.specs.asked.CustomersAsked.{LoginAsked, NewcomerAsked}
use Rattle.shop_model.specs.rows.Lookups.{row_numbered}
use Rattle.shop_history.specs.declared.acts.Entry.{Entry}
use Rattle.shop_history.specs.declared.keys.Key.{Key}
use Rattle.shop_history.specs.declared.keys.Key.TheVariants as key
use Rattle.shop_history.specs.declared.keys.Row.{Row}
use Rattle.shop_history.specs.declared.keys.Row.TheVariants as row
use Rattle.shop_history.specs.Keys.{row_of, shown}
use Rattle.shop_history.specs.Logs.{history, tables}
use Rattle.shop_attempt.specs.declared.attempts.ReadOf.{ReadOf}
use Rattle.shop_attempt.specs.Reads.{Shows, AreTrue}
use Rattle.shop_browse.specs.declared.attempted.Ask.{Ask}
use Rattle.shop_browse.specs.Baskets.{country_read}
use Rattle.shop_browse.specs.Driver.{keys_of, AreSeen, MayRead, AsksFor}
use Rattle.shop_browse.specs.Footprints.{IsAmong, WasOnCart, IsBuyer, InFootprint}
use Rattle.shop_order.specs.declared.buy_request.Begun.{Begun}
use Rattle.shop_order.specs.BuyRequest.{buyer_key, first_keys, customer_keys, second_keys, id_in, customer_row, home_key, IsFound, Begins, BeginsBy, HasFirst, HasMost, HasHome, HasCountry, FollowsBuy}
use Rattle.shop_order.specs.ShoppingCart.{IsFitRow, lines_in}
use Rattle.shop_order.specs.Stops.{AreBought}
use Rattle.shop_order.proofs.ReadsLemmas.{one_read}
use Rattle.shop_order.proofs.ShoppingCartLemmas.{fit_shown}
use Rattle.shop_history.proofs.cited.Shown.{cart_found}

-- the reads of the first round

two_reads : (asked : buying.BuyRequest) (reads : List ReadOf) → keys_of reads ≡ first_keys asked → HasFirst asked reads
two_reads asked [] are = absurd cc
two_reads asked (cart ∷ []) are = absurd cc
two_reads asked (cart ∷ found ∷ []) are = record { cart = cart; found = found; more = []; reads_are = refl; cart_is = cc; found_is = cc }
two_reads asked (cart ∷ found ∷ other ∷ more) are = absurd cc

-- the reads of two rounds, and what is behind them
pub has_most : (asked : buying.BuyRequest) (round : ℕ) (reads : List ReadOf) → 2 ≤ round → FollowsBuy asked round reads → (rest : List ReadOf) × HasMost asked reads rest
has_most asked zero reads later follows = absurd (omega (arith, later))
has_most asked (suc zero) reads later follows = absurd (omega (arith, later))
has_most asked (suc (suc zero)) reads later follows = ([], record { before = reads; second = follows; reads_are = sym (append-nil reads) })
has_most asked (suc (suc (suc zero))) reads later follows = (follows.home ∷ [], follows.most)
has_most asked (suc (suc (suc (suc more)))) reads later follows = (follows.home.home ∷ follows.country ∷ [], follows.home.most)

-- those of the first round begin them
first_reads : (asked : buying.BuyRequest) (reads rest : List ReadOf) → (most : HasMost asked reads rest) → reads ≡ most.second.first.cart ∷ most.second.first.found ∷ (most.second.first.more ++ rest)
first_reads asked reads rest most = most.reads_are ∙ ap (λ (l : List ReadOf). l ++ rest) most.second.first.reads_are

first_most : (asked : buying.BuyRequest) (reads rest : List ReadOf) → HasMost asked reads rest → HasFirst asked reads
first_most asked reads rest most =
    let first = most.second.first in
    record { cart = first.cart; found = first.found; more = first.more ++ rest; reads_are = first_reads asked reads rest most; cart_is = first.cart_is; found_is = first.found_is }

pub has_first : (asked : buying.BuyRequest) (round : ℕ) (reads : List ReadOf) → (round ≡ 0 → ⊥) → FollowsBuy asked round reads → HasFirst asked reads
has_first asked zero reads later follows = absurd (later refl)
has_first asked (suc zero) reads later follows = two_reads asked reads follows
has_first asked (suc (suc more)) reads later follows = let most = has_most asked (suc (suc more)) reads (omega arith) follows in first_most asked reads most.0 most.1

-- the first of them is a fit cart
pub fit_first : (asked : buying.BuyRequest) (ask : Ask) (reads : List ReadOf) → (has : HasFirst asked reads) → AreSeen ask.index.now reads → IsFitRow has.cart.row
fit_first asked ask reads has seen =
    let first = (subst (AreSeen ask.index.now) has.reads_are seen).0 in
    let t : Tables = first.0 in
    subst IsFitRow (ap (row_of t) (sym has.cart_is) ∙ first.1.shows.0) (fit_shown t asked.cart (row_numbered t.carts asked.cart) refl first.1.sound)

-- what the second round reads

id_shown : (found : Option ℕ) → id_in (shown row.Id found) ≡ found
id_shown None = refl
id_shown (Some id) = refl

second_is : (buyer : Buyer) (cart found : Row) (begun : Begun) → Begins buyer cart found begun → second_keys buyer (id_in found) (lines_in cart) ≡ second_keys buyer begun.found begun.lines.now
second_is buyer cart found begun begins =
    ap (λ o. second_keys buyer o (lines_in cart)) (ap id_in begins.known.row_is ∙ id_shown begun.found)
    ∙ ap (second_keys buyer begun.found) (ap lines_in begins.bought.row_is ∙ sym begins.bought.lines_are)

-- the reads of two rounds, and what the first of them comes to
pub record HasAll (asked : buying.BuyRequest) (begun : Begun) (reads : List ReadOf) : Type 0 where
  pub first : HasFirst asked reads
  pub begins : Begins asked.buyer first.cart.row first.found.row begun
  pub more_are : keys_of first.more ≡ second_keys asked.buyer begun.found begun.lines.now

pub has_all : (asked : buying.BuyRequest) (begun : Begun) (reads rest : List ReadOf) → (most : HasMost asked reads rest) → BeginsBy asked begun reads → HasAll asked begun most.before
has_all asked begun reads rest most begins =
    let first = most.second.first in
    let is : Begins asked.buyer first.cart.row first.found.row begun = subst (BeginsBy asked begun) (first_reads asked reads rest most) begins in
    record { first = first; begins = is; more_are = most.second.more_are ∙ second_is asked.buyer first.cart.row first.found.row begun is }

-- the reads by their places

pub at_cart : (asked : buying.BuyRequest) (reads : List ReadOf) (read : ReadOf) → (has : HasFirst asked reads) → get_or reads 0 read ≡ has.cart
at_cart asked reads read has = ap (λ (l : List ReadOf). get_or l 0 read) has.reads_are

at_found : (asked : buying.BuyRequest) (reads : List ReadOf) (read : ReadOf) → (has : HasFirst asked reads) → get_or reads 1 read ≡ has.found
at_found asked reads read has = ap (λ (l : List ReadOf). get_or l 1 read) has.reads_are

-- the first two are shown
pub shows_first : (asked : buying.BuyRequest) (reads : List ReadOf) (cart found : ReadOf) (t : Tables) → (has : HasFirst asked reads) → cart ≡ get_or reads 0 cart → found ≡ get_or reads 1 found
    → Shows t reads → Shows t (cart ∷ found ∷ [])
shows_first asked reads cart found t has at_first at_second shows =
    let all = subst (Shows t) has.reads_are shows in (
      subst (λ (r : ReadOf). row_of t r.key ≡ r.row) (sym (at_first ∙ at_cart asked reads cart has)) all.0,
      (subst (λ (r : ReadOf). row_of t r.key ≡ r.row) (sym (at_second ∙ at_found asked reads found has)) all.1.0, tt),
    )

-- what was made of them by their places
pub begun_first : (asked : buying.BuyRequest) (reads : List ReadOf) (cart found : ReadOf) (begun : Begun) → (has : HasFirst asked reads) → cart ≡ get_or reads 0 cart → found ≡ get_or reads 1 found
    → Begins asked.buyer cart.row found.row begun → Begins asked.buyer has.cart.row has.found.row begun
begun_first asked reads cart found begun has at_first at_second begins =
    subst (λ (r : ReadOf). Begins asked.buyer r.row has.found.row begun) (at_first ∙ at_cart asked reads cart has)
    (subst (λ (r : ReadOf). Begins asked.buyer cart.row r.row begun) (at_second ∙ at_found asked reads found has) begins)

pub begins_by : (asked : buying.BuyRequest) (reads : List ReadOf) (begun : Begun) → (has : HasFirst asked reads) → Begins asked.buyer has.cart.row has.found.row begun → BeginsBy asked begun reads
begins_by asked reads begun has begins = subst (BeginsBy asked begun) (sym has.reads_are) begins

-- what the first round reads is all that is read then
none_more : (asked : buying.BuyRequest) (cart found : ReadOf) (more : List ReadOf) → keys_of (cart ∷ found ∷ more) ≡ first_keys asked → more ≡ []
none_more asked cart found [] are = refl
none_more asked cart found (other ∷ more) are = absurd cc

-- what it may read

module _ (opening : Tables) (log : List Entry) (asked : buying.BuyRequest) (draw : ℕ) where
  item_on : (cart : ReadOf) (lines : List (ℕ × ℕ)) (item : ℕ) → cart.key ≡ key.Cart asked.cart → AreBought cart.row lines → AreTrue opening log (cart ∷ [])
      → IsAmong item lines → WasOnCart opening log asked.cart item
  unfolding history
  item_on cart lines item is bought are among =
      let t : Tables = tables opening (take cart.version log) in
      record {
        front = cart.version;
        row = bought.cart;
        there = cart_found (row_numbered t.carts asked.cart) bought.cart (ap (row_of t) (sym is) ∙ are.0.row_is ∙ bought.row_is);
        line = subst (IsAmong item) bought.lines_are among;
      }

  customer_on : (read : ReadOf) (buyer : Buyer) (found : Option ℕ) → read.key ≡ buyer_key buyer → IsFound buyer read.row found → AreTrue opening log (read ∷ [])
      → All (IsBuyer opening log buyer) (customer_keys buyer found)
  unfolding history
  customer_on read (Newcomer newcomer) found is known are = All-nil (IsBuyer opening log (Newcomer newcomer))
  customer_on read (Returning login) None is known are = All-nil (IsBuyer opening log (Returning login))
  customer_on read (Returning login) (Some id) is known are =
      let t : Tables = tables opening (take read.version log) in
      let P : Key → Type 0 = IsBuyer opening log (Returning login) in
      All-cons P (key.Customer id) [] (inl (inr (id, record { front = read.version; is = ap (row_of t) (sym is) ∙ are.0.row_is ∙ known.row_is }, refl))) (All-nil P)

  second_may : (cart found : ReadOf) (begun : Begun) → cart.key ≡ key.Cart asked.cart → found.key ≡ buyer_key asked.buyer → Begins asked.buyer cart.row found.row begun → AreTrue opening log (cart ∷ found ∷ [])
      → All (InFootprint opening log (BuyRequest asked) draw) (second_keys asked.buyer begun.found begun.lines.now)
  second_may cart found begun cart_is found_is begins are =
      let P : Key → Type 0 = InFootprint opening log (BuyRequest asked) draw in
      let lines : List (ℕ × ℕ) = begun.lines.now in
      All-append P (customer_keys asked.buyer begun.found) (map (λ l. key.Item l.0) lines)
      (All-weaker (IsBuyer opening log asked.buyer) P (λ k on. inl (inr on)) (customer_keys asked.buyer begun.found)
      (customer_on found asked.buyer begun.found found_is begins.known (are.1.0, tt)))
      (All-map P (λ (l : ℕ × ℕ). key.Item l.0) lines
      (λ k d within. inl (inl (inr ((get_or lines k d).0, item_on cart lines (get_or lines k d).0 cart_is begins.bought (are.0, tt) (k, (get_or lines k d).1, slice_get-get_or lines k d within), refl)))))

pub asks_second : (asked : buying.BuyRequest) (ask : Ask) (round : ℕ) (reads : List ReadOf) (keys : List Key) (begun : Begun) → round ≡ 1 → FollowsBuy asked round reads → (has : HasFirst asked reads)
    → Begins asked.buyer has.cart.row has.found.row begun → keys ≡ second_keys asked.buyer begun.found begun.lines.now → AsksFor (FollowsBuy asked) (BuyRequest asked) ask round reads keys
asks_second asked ask zero reads keys begun is follows has begins are = absurd (omega (arith, is))
asks_second asked ask (suc (suc round)) reads keys begun is follows has begins are = absurd (omega (arith, is))
asks_second asked ask (suc zero) reads keys begun is follows has begins are =
    let none : has.more ≡ [] = none_more asked has.cart has.found has.more (ap keys_of (sym has.reads_are) ∙ follows) in
    let two : reads ≡ has.cart ∷ has.found ∷ [] = has.reads_are ∙ ap (λ (l : List ReadOf). has.cart ∷ has.found ∷ l) none in
    record {
      few = omega arith;
      goes_on = λ more of. record {
        first = record { cart = has.cart; found = has.found; more = more; reads_are = ap (λ (l : List ReadOf). l ++ more) two; cart_is = has.cart_is; found_is = has.found_is };
        more_are = of ∙ are ∙ sym (second_is asked.buyer has.cart.row has.found.row begun begins);
      };
      may = λ opening log were.
          subst (All (InFootprint opening log (BuyRequest asked) ask.draw)) (sym are)
          (second_may opening log asked ask.draw has.cart has.found begun has.cart_is has.found_is begins (subst (AreTrue opening log) two were.are));
    }

-- what is read of where the buyer lives

pub asks_home : (asked : buying.BuyRequest) (ask : Ask) (round : ℕ) (reads : List ReadOf) (k : Key) → round ≡ 2 → FollowsBuy asked round reads → k ≡ home_key asked.buyer (customer_row reads)
    → MayRead (BuyRequest asked) ask reads (k ∷ []) → AsksFor (FollowsBuy asked) (BuyRequest asked) ask round reads (k ∷ [])
asks_home asked ask round reads k at follows is may = record {
  few = omega (arith, at);
  goes_on = λ more of.
      let one : (read : ReadOf) × (more ≡ read ∷ []) × (read.key ≡ k) = one_read k more of in
      subst (λ r. FollowsBuy asked (suc r) (reads ++ more)) (sym at) (record {
        home = one.0;
        most = record { before = reads; second = subst (λ r. FollowsBuy asked r reads) at follows; reads_are = ap (λ (l : List ReadOf). reads ++ l) one.1 };
        home_is = one.2 ∙ is;
      });
  may = may;
}

-- any country may be read
pub country_may : (asked : buying.BuyRequest) (ask : Ask) (reads : List ReadOf) (country : ℕ) → MayRead (BuyRequest asked) ask reads (key.Country country ∷ [])
country_may asked ask reads country opening log were =
    let P : Key → Type 0 = InFootprint opening log (BuyRequest asked) ask.draw in
    All-cons P (key.Country country) [] (inr (inr (country, refl))) (All-nil P)

-- that of the address of who returns
pub asks_country : (asked : buying.BuyRequest) (login : LoginAsked) (ask : Ask) (round : ℕ) (reads : List ReadOf) (country : ℕ) → round ≡ 3 → asked.buyer ≡ Returning login → (has : HasHome asked reads [])
    → country ≡ country_read None has.home.row → AsksFor (FollowsBuy asked) (BuyRequest asked) ask round reads (key.Country country ∷ [])
asks_country asked login ask round reads country at returns has is = record {
  few = omega (arith, at);
  goes_on = λ more of.
      let one : (read : ReadOf) × (more ≡ read ∷ []) × (read.key ≡ key.Country country) = one_read (key.Country country) more of in
      subst (λ r. FollowsBuy asked (suc r) (reads ++ more)) (sym at) (record {
        login = login;
        returns = returns;
        country = one.0;
        home = record {
          home = has.home;
          most = record {
            before = has.most.before;
            second = has.most.second;
            reads_are =
                ap (λ (l : List ReadOf). l ++ more) has.most.reads_are
                ∙ append_assoc has.most.before (has.home ∷ []) more
                ∙ ap (λ (l : List ReadOf). has.most.before ++ has.home ∷ l) one.1;
          };
          home_is = has.home_is;
        };
        country_is = one.2 ∙ ap key.Country is;
      });
  may = country_may asked ask reads country;
}

-- who is new reads no more than its country behind those of two rounds
pub new_home : (asked : buying.BuyRequest) (newcomer : NewcomerAsked) (round : ℕ) (reads : List ReadOf) → asked.buyer ≡ Newcomer newcomer → 2 ≤ round → (round ≡ 2 → ⊥) → FollowsBuy asked round reads → HasHome asked reads []
new_home asked newcomer zero reads is later other follows = absurd (omega (arith, later))
new_home asked newcomer (suc zero) reads is later other follows = absurd (omega (arith, later))
new_home asked newcomer (suc (suc zero)) reads is later other follows = absurd (other refl)
new_home asked newcomer (suc (suc (suc zero))) reads is later other follows = follows
new_home asked newcomer (suc (suc (suc (suc more)))) reads is later other follows = let both : Newcomer newcomer ≡ Returning follows.login = sym is ∙ follows.returns in absurd cc

-- who returns reads two rows more
pub has_country : (asked : buying.BuyRequest) (round : ℕ) (reads : List ReadOf) → 2 ≤ round → (round ≡ 2 → ⊥) → (round ≡ 3 → ⊥) → FollowsBuy asked round reads → HasCountry asked reads
has_country asked zero reads later second third follows = absurd (omega (arith, later))
has_country asked (suc zero) reads later second third follows = absurd (omega (arith, later))
has_country asked (suc (suc zero)) reads later second third follows = absurd (second refl)
has_country asked (suc (suc (suc zero))) reads later second third follows = absurd (third refl)
has_country asked (suc (suc (suc (suc more)))) reads later second third follows = follows
