-- What a customer who logs in, or is entered, leaves as it was.
use Rattle.std.proofs.Common.{◌≡◌, ℕ, zero, suc, ◌+◌, ◌-◌, ◌==◌, Bool, true, false, cond, List, [], ◌∷◌, ◌++◌, length, Option, Some, None, option_map, slice_get, Contains, ◌⊎◌, inl, inr, ⊎_elim, eqb, refl, sym, ◌∙◌, ap, arith}
use Rattle.std.specs.List.{find}
use Rattle.std.specs.Str.{bytes_eq}
use Rattle.std.proofs.lemmas.Bool.{and_parts, cases_eq, eqb-true}
use Rattle.std.proofs.lemmas.Slice.Eq.{bytes_eq-Decides}
use Rattle.shop_text.specs.Texts.{digsyl}
use Rattle.shop_model.specs.declared.address.Address.{Address}
use Rattle.shop_model.specs.declared.address.AddressText.{AddressText}
use Rattle.shop_model.specs.declared.buying.Buyer.{Buyer}
use Rattle.shop_model.specs.declared.buying.Buyer.TheVariants.{Returning, Newcomer}
use Rattle.shop_model.specs.declared.tables.Tables.{Tables}
use Rattle.shop_model.specs.asked.CustomersAsked.{NewcomerAsked}
use Rattle.shop_model.specs.lists.Rankings.{newest, best, sold_lately}
use Rattle.shop_model.specs.rows.Lookups.{row_numbered, joined}
use Rattle.shop_model.specs.rows.Rows.{CustomerRow}
use Rattle.shop_model.specs.trade.Buyers.{changed_at, logged_in, says_same, customer_named, address_saying, addresses_with, new_customer, customers_with, tables_entered}
use Rattle.shop_history.specs.declared.keys.Key as key
use Rattle.shop_history.specs.declared.keys.Key.{Key}
use Rattle.shop_history.specs.declared.keys.Row as row
use Rattle.shop_history.specs.Keys.{row_of, shown}
use Rattle.shop_history.specs.MayChange.{login_changes, address_changes, buyer_changes}
use Rattle.shop_history.proofs.Changed.{changed_other, changed_keeps}
use Rattle.shop_history.proofs.cited.Found.{found_alike, found_pushed}
use Rattle.shop_history.proofs.cited.Places.{row_push_other}

-- a key is among those that change, or shows what it showed
abbrev Framed : List Key → Tables → Tables → Key → Type 0
Framed keys t u key = Contains keys key ⊎ (row_of u key ≡ row_of t key)

-- addresses that say the same are the same
text_of : List ℕ → List ℕ → List ℕ → List ℕ → List ℕ → ℕ → AddressText
text_of street1 street2 city state zip country = record { street1 = street1; street2 = street2; city = city; state = state; zip = zip; country = country }

pub says_same_is : (a b : AddressText) → says_same a b ≡ true → a ≡ b
unfolding text_of
says_same_is a b same =
    let country = and_parts _ (a.country == b.country) same in
    let zip = and_parts _ (bytes_eq a.zip b.zip) country.0 in
    let state = and_parts _ (bytes_eq a.state b.state) zip.0 in
    let city = and_parts _ (bytes_eq a.city b.city) state.0 in
    let streets = and_parts (bytes_eq a.street1 b.street1) (bytes_eq a.street2 b.street2) city.0 in
    ap (λ x. text_of x a.street2 a.city a.state a.zip a.country) ((bytes_eq-Decides a.street1 b.street1).0 streets.0)
    ∙ ap (λ x. text_of b.street1 x a.city a.state a.zip a.country) ((bytes_eq-Decides a.street2 b.street2).0 streets.1)
    ∙ ap (λ x. text_of b.street1 b.street2 x a.state a.zip a.country) ((bytes_eq-Decides a.city b.city).0 city.1)
    ∙ ap (λ x. text_of b.street1 b.street2 b.city x a.zip a.country) ((bytes_eq-Decides a.state b.state).0 state.1)
    ∙ ap (λ x. text_of b.street1 b.street2 b.city b.state x a.country) ((bytes_eq-Decides a.zip b.zip).0 zip.1)
    ∙ ap (λ x. text_of b.street1 b.street2 b.city b.state b.zip x) (eqb-true a.country b.country country.1)

-- who logs in keeps the name

abbrev named : CustomerRow → List ℕ × ℕ
named c = (c.user, c.id)

named_same : (customers : List CustomerRow) (id stamp : ℕ) (user : List ℕ)
    → option_map (λ c. c.id) (find (λ c. bytes_eq c.user user) (changed_at customers id (logged_in stamp)))
    ≡ option_map (λ c. c.id) (find (λ c. bytes_eq c.user user) customers)
named_same customers id stamp user =
    found_alike named (λ p. bytes_eq p.0 user) (λ p. p.1) (changed_at customers id (logged_in stamp))
    ∙ ap (λ (ps : List (List ℕ × ℕ)). option_map (λ p. p.1) (find (λ p. bytes_eq p.0 user) ps)) (changed_keeps customers id (logged_in stamp) named (λ c. refl))
    ∙ sym (found_alike named (λ p. bytes_eq p.0 user) (λ p. p.1) customers)

login_frame : (t : Tables) (stamp : ℕ) (customer : Option CustomerRow) (key : Key)
    → Framed (login_changes customer) t (record t { customers = customers_with t.customers stamp customer }) key
unfolding newest best sold_lately
login_frame t stamp None key = inr refl
login_frame t stamp (Some c) (key.TheVariants.Customer id) = ⊎_elim
    (λ same. inl (0, omega arith, ap key.TheVariants.Customer (sym same)))
    (λ apart. inr (ap (shown row.TheVariants.Customer) (changed_other t.customers c.id (logged_in stamp) id apart)))
    (cases_eq id c.id)
login_frame t stamp (Some c) (key.TheVariants.Name user) = inr (ap (shown row.TheVariants.Id) (named_same t.customers c.id stamp user))
login_frame t stamp (Some c) _ = inr refl

-- who is new has no order before and none after

none_behind : (lasts : List (Option ℕ)) (k : ℕ) → joined (slice_get (lasts ++ None ∷ []) k) ≡ joined (slice_get lasts k)
none_behind [] zero = refl
none_behind [] (suc k) = refl
none_behind (x ∷ xs) zero = refl
none_behind (x ∷ xs) (suc k) = none_behind xs k

none_pushed : (lasts : List (Option ℕ)) (id : ℕ) → joined (row_numbered (lasts ++ None ∷ []) id) ≡ joined (row_numbered lasts id)
none_pushed lasts id = by (eqb id 0)
  where
    by : (b : Bool) → joined (cond b None (slice_get (lasts ++ None ∷ []) (id - 1))) ≡ joined (cond b None (slice_get lasts (id - 1)))
    by true = refl
    by false = none_behind lasts (id - 1)

-- a row that comes is found, or what was found is

module _ {A : Type 0} (id_of : A → ℕ) (p : A → Bool) (rows : List A) (new : A) (keys : List Key) (k : Key) where
  found_frame : (p new ≡ true → Contains keys k)
      → Contains keys k ⊎ (shown row.TheVariants.Id (option_map id_of (find p (rows ++ new ∷ []))) ≡ shown row.TheVariants.Id (option_map id_of (find p rows)))
  found_frame here = by (p new) refl
    where
      by : (b : Bool) → p new ≡ b
          → Contains keys k ⊎ (shown row.TheVariants.Id (option_map id_of (find p (rows ++ new ∷ []))) ≡ shown row.TheVariants.Id (option_map id_of (find p rows)))
      by true passes = inl (here passes)
      by false fails = inr (ap (λ (found : Option A). shown row.TheVariants.Id (option_map id_of found)) (found_pushed p rows new (find p rows) refl (λ _ passes. absurd cc)))

entered_frame : (t : Tables) (stamp draw : ℕ) (asked : NewcomerAsked) (same : Option Address) (k : Key)
    → Framed (key.TheVariants.Customer (length t.customers + 1) ∷ key.TheVariants.Name (digsyl (length t.customers + 1)) ∷ address_changes t asked.address same) t
    (record t {
      addresses = addresses_with t.addresses asked.address same;
      customers = t.customers ++ new_customer t stamp draw asked ∷ [];
      last = t.last ++ None ∷ [];
    }) k
unfolding newest best sold_lately
entered_frame t stamp draw asked same (key.TheVariants.Customer id) = ⊎_elim
    (λ is. inl (0, omega arith, ap key.TheVariants.Customer (sym is)))
    (λ apart. inr (ap (shown row.TheVariants.Customer) (row_push_other t.customers id (new_customer t stamp draw asked) apart)))
    (cases_eq id (length t.customers + 1))
entered_frame t stamp draw asked same (key.TheVariants.Name user) =
    found_frame (λ (c : CustomerRow). c.id) (λ (c : CustomerRow). bytes_eq c.user user) t.customers (new_customer t stamp draw asked)
    (key.TheVariants.Customer (length t.customers + 1) ∷ key.TheVariants.Name (digsyl (length t.customers + 1)) ∷ address_changes t asked.address same)
    (key.TheVariants.Name user)
    (λ is. (1, omega arith, ap key.TheVariants.Name ((bytes_eq-Decides (digsyl (length t.customers + 1)) user).0 is)))
entered_frame t stamp draw asked (Some a) (key.TheVariants.Address id) = inr refl
entered_frame t stamp draw asked None (key.TheVariants.Address id) = ⊎_elim
    (λ is. inl (2, omega arith, ap key.TheVariants.Address (sym is)))
    (λ apart. inr (ap (shown row.TheVariants.Address) (row_push_other t.addresses id (record { id = length t.addresses + 1; text = asked.address }) apart)))
    (cases_eq id (length t.addresses + 1))
entered_frame t stamp draw asked (Some a) (key.TheVariants.SameAddress text) = inr refl
entered_frame t stamp draw asked None (key.TheVariants.SameAddress text) =
    found_frame (λ (a : Address). a.id) (λ (a : Address). says_same a.text text) t.addresses (record { id = length t.addresses + 1; text = asked.address })
    (key.TheVariants.Customer (length t.customers + 1) ∷ key.TheVariants.Name (digsyl (length t.customers + 1)) ∷ address_changes t asked.address None)
    (key.TheVariants.SameAddress text)
    (λ is. (3, omega arith, ap key.TheVariants.SameAddress (says_same_is asked.address text is)))
entered_frame t stamp draw asked same (key.TheVariants.LastOrder id) = inr (ap (shown row.TheVariants.Id) (none_pushed t.last id))
entered_frame t stamp draw asked same _ = inr refl

pub enter_frame : (t : Tables) (stamp draw : ℕ) (buyer : Buyer) (key : Key) → Framed (buyer_changes t buyer) t (tables_entered t stamp draw buyer) key
enter_frame t stamp draw (Returning asked) key = login_frame t stamp (customer_named t asked.user) key
enter_frame t stamp draw (Newcomer asked) key = entered_frame t stamp draw asked (address_saying t asked.address) key
