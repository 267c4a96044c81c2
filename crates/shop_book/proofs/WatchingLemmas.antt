-- What raising the version of a watched key does to the versions of all keys.
use Rattle.std.proofs.Common.{◌≡◌, ◌≢◌, ℕ, ◌+◌, List, [], ◌∷◌, ◌++◌, length, Contains, ◌⊎◌, inl, inr, ⊎_elim, refl, sym, ◌∙◌, ap, subst, arith}
use Rattle.std.proofs.lemmas.List.{map-append}
use Rattle.std.specs.Prelude.{All, Option, Some, None}
use Rattle.std.proofs.lemmas.List.Elements.{All-nil, All-cons, All-head, All-tail, Contains-push, Contains-append_left, Contains-append_cases, Contains-push_cases}
use Rattle.shop_model.specs.declared.address.Address.{Address}
use Rattle.shop_model.specs.declared.address.AddressText.{AddressText}
use Rattle.shop_model.specs.declared.buying.Buyer.{Buyer}
use Rattle.shop_model.specs.declared.buying.BuyRequest.{BuyRequest}
use Rattle.shop_model.specs.declared.buying.Buyer.TheVariants.{Returning, Newcomer}
use Rattle.shop_model.specs.declared.tables.Tables.{Tables}
use Rattle.shop_model.specs.rows.Rows.{CustomerRow}
use Rattle.shop_model.specs.trade.Buyers.{customer_named, address_saying}
use Rattle.shop_history.specs.declared.acts.Act.{Act}
use Rattle.shop_history.specs.declared.acts.Act.TheVariants as act
use Rattle.shop_history.specs.MayChange.{login_changes, address_changes, buyer_changes, may_change}
use Rattle.shop_text.specs.Texts.{digsyl}
use Rattle.shop_history.specs.declared.keys.Key.{Key}
use Rattle.shop_history.specs.declared.keys.Key.TheVariants as key
use Rattle.shop_history.specs.contracts.keys.Key.{the_field}
use Rattle.shop_history.specs.Keys.{row_of}
use Rattle.shop_book.specs.declared.watching.Watched.{Watched}
use Rattle.shop_history.proofs.cited.Versions.{RaisedFor, RaisedWhere}
use Rattle.shop_history.specs.Same.{same}
use Rattle.shop_book.specs.declared.rows.Rows.{Rows}
use Rattle.shop_book.specs.declared.versions.Versions.{Versions}
use Rattle.shop_book.specs.Planning.{IsCompared, MovesNoList}
use Rattle.shop_book.specs.RowsNow.{tables_with}
use Rattle.shop_book.specs.Changing.{RaisesAll}
use Rattle.shop_book.specs.Stored.{stored, HasSpare, SpareFor}
use Rattle.shop_book.specs.Watching.{AreOf, IsWatchable, keys_of, RaisesOne}
use Rattle.shop_log.proofs.cited.Codes.{decided_by}

pub key_cases : (one other : Key) → (one ≡ other) ⊎ (one ≢ other)
key_cases one other =
    elim (decided_by the_field.row.coded the_field.into the_field.into_one one other) as (λ _. (one ≡ other) ⊎ (one ≢ other)) [ yes is ↦ inl is | no apart ↦ inr apart ]

-- versions that were raised for some keys, and then for others
pub raised_then : (before now : Tables) (number : ℕ) (some more : Key → Type 0) (first mid end : Key → ℕ) → RaisedWhere before now number some first mid → RaisedWhere before now number more mid end
    → RaisedWhere before now number (λ k. some k ⊎ more k) first end
raised_then before now number some more first mid end one other = record {
  each = λ k.
      ⊎_elim
      (λ (same : end k ≡ mid k). ⊎_elim (λ stays. inl (same ∙ stays)) (λ raised. inr (raised.0, same ∙ raised.1)) (one.each k))
      (λ raised. inr raised)
      (other.each k);
  all = λ k has differs.
      ⊎_elim
      (λ here. let raised : mid k ≡ number = one.all k here differs in ⊎_elim (λ same. same ∙ raised) (λ again. again.1) (other.each k))
      (λ there. other.all k there differs)
      has;
}

-- so for those of two lists
pub raised_and : (before now : Tables) (number : ℕ) (keys more : List Key) (first mid end : Key → ℕ) → RaisedFor before now number keys first mid → RaisedFor before now number more mid end → RaisedFor before now number (keys ++ more) first end
raised_and before now number keys more first mid end one other =
    let both = raised_then before now number (Contains keys) (Contains more) first mid end one other in
    record { each = both.each; all = λ k has. both.all k (Contains-append_cases keys more k has) }

-- one watched key more
module _ (before t : Tables) (rows : Rows) (number : ℕ) (keys : List Key) (old : Key → ℕ) (mid next : Versions) (kept : Watched) (was : kept.row ≡ row_of before kept.key)
    (one : RaisesOne rows number kept mid next) (raised : RaisedFor before (tables_with t rows) number keys old (stored mid)) where
  abbrev Differs : Key → Type 0
  Differs key = row_of (tables_with t rows) key ≢ row_of before key

  -- a key whose version stayed
  carried : (key : Key) → stored next key ≡ stored mid key → (stored next key ≡ old key) ⊎ (Differs key × (stored next key ≡ number))
  carried key stays =
      ⊎_elim (λ (same : stored mid key ≡ old key). inl (stays ∙ same)) (λ (rose : Differs key × (stored mid key ≡ number)). inr (rose.0, stays ∙ rose.1)) (raised.each key)

  -- the key itself
  itself : (key : Key) → key ≡ kept.key → (stored next key ≡ old key) ⊎ (Differs key × (stored next key ≡ number))
  itself key is =
      elim (same (row_of (tables_with t rows) kept.key) kept.row) as (λ _. (stored next key ≡ old key) ⊎ (Differs key × (stored next key ≡ number))) [
        | yes shows ↦ carried key (ap (stored next) is ∙ one.same t shows ∙ sym (ap (stored mid) is))
        | no differs ↦ inr (subst Differs (sym is) (λ equal. differs (equal ∙ sym was)), ap (stored next) is ∙ one.changed t differs)
      ]

  pub raised_more : RaisedFor before (tables_with t rows) number (keys ++ kept.key ∷ []) old (stored next)
  raised_more = record {
    each = λ key. ⊎_elim (itself key) (λ (apart : key ≢ kept.key). carried key (one.others key apart)) (key_cases key kept.key);
    all = λ key has differs.
        ⊎_elim (λ (is : key ≡ kept.key). ap (stored next) is ∙ one.changed t (λ shows. differs (ap (row_of (tables_with t rows)) is ∙ shows ∙ was ∙ sym (ap (row_of before) is))))
        (λ (apart : key ≢ kept.key).
        ⊎_elim (λ (seen : Contains keys key). one.others key apart ∙ raised.all key seen differs) (λ (is : kept.key ≡ key). absurd (apart (sym is))) (Contains-push_cases keys kept.key key has))
        (key_cases key kept.key);
  }

-- one watched key alone
pub raised_one : (before t : Tables) (rows : Rows) (number : ℕ) (old new : Versions) (kept : Watched) → kept.row ≡ row_of before kept.key → RaisesOne rows number kept old new
    → RaisedFor before (tables_with t rows) number (kept.key ∷ []) (stored old) (stored new)
raised_one before t rows number old new kept was one =
    raised_more before t rows number [] (stored old) old new kept was one (record { each = λ key. inl refl; all = λ key has differs. omega (arith, has.1) })

-- one key more that is raised whatever it shows
pub all_more : (number : ℕ) (keys : List Key) (key : Key) (old mid next : Key → ℕ) → RaisesAll keys number old mid → next key ≡ number → ((other : Key) → other ≢ key → next other ≡ mid other)
    → RaisesAll (keys ++ key ∷ []) number old next
all_more number keys key old mid next raised here others = record {
  each = λ k.
      ⊎_elim
      (λ (is : k ≡ key). inr (subst (Contains (keys ++ key ∷ [])) (sym is) (Contains-push keys key), ap next is ∙ here))
      (λ (apart : k ≢ key).
      ⊎_elim (λ (same : mid k ≡ old k). inl (others k apart ∙ same)) (λ (rose : Contains keys k × (mid k ≡ number)). inr (Contains-append_left keys (key ∷ []) k rose.0, others k apart ∙ rose.1)) (raised.each k))
      (key_cases k key);
  all = λ k has.
      ⊎_elim
      (λ (is : k ≡ key). ap next is ∙ here)
      (λ (apart : k ≢ key).
      ⊎_elim (λ (before : Contains keys k). others k apart ∙ raised.all k before) (λ (is : key ≡ k). absurd (apart (sym is))) (Contains-push_cases keys key k has))
      (key_cases k key);
}

-- room for one key more that is a text

pub spare_one : (k : Key) (v : Versions) → HasSpare v 1 → SpareFor k v
spare_one (key.Name user) v spare = spare
spare_one (key.SameAddress text) v spare = spare
spare_one _ v spare = tt

-- the keys of one more
pub keys_more : (watched : List Watched) (kept : Watched) → keys_of (watched ++ kept ∷ []) ≡ keys_of watched ++ kept.key ∷ []
keys_more watched kept = map-append (λ (w : Watched). w.key) watched (kept ∷ [])

-- the keys that an act may change that moves no list are watched
pub may_change_watchable : (t : Tables) (a : Act) → MovesNoList a → All IsWatchable (may_change t a)
may_change_watchable t (act.Cart asked draw) nothing = All-cons IsWatchable _ [] tt (All-nil IsWatchable)
may_change_watchable t (act.Enter asked draw) nothing = of asked.buyer
  where
    login : (customer : Option CustomerRow) → All IsWatchable (login_changes customer)
    login None = All-nil IsWatchable
    login (Some customer) = All-cons IsWatchable (key.Customer customer.id) [] tt (All-nil IsWatchable)

    address : (text : AddressText) (found : Option Address) → All IsWatchable (address_changes t text found)
    address text (Some a) = All-nil IsWatchable
    address text None =
        All-cons IsWatchable (key.Address (length t.addresses + 1)) (key.SameAddress text ∷ []) tt (All-cons IsWatchable (key.SameAddress text) [] tt (All-nil IsWatchable))

    of : (buyer : Buyer) → All IsWatchable (buyer_changes t buyer)
    of (Returning asked) = login (customer_named t asked.user)
    of (Newcomer asked) =
        let rest : List Key = address_changes t asked.address (address_saying t asked.address) in
        let name : Key = key.Name (digsyl (length t.customers + 1)) in
        All-cons IsWatchable (key.Customer (length t.customers + 1)) (name ∷ rest) tt (All-cons IsWatchable name rest tt (address asked.address (address_saying t asked.address)))
may_change_watchable t _ nothing = absurd nothing

kinds_of : (watched : List Watched) → All IsWatchable (keys_of watched) → All (λ w. IsWatchable w.key) watched
kinds_of [] all = All-nil (λ (w : Watched). IsWatchable w.key)
kinds_of (w ∷ ws) all =
    All-cons (λ (w : Watched). IsWatchable w.key) w ws (All-head IsWatchable w.key (keys_of ws) all) (kinds_of ws (All-tail IsWatchable w.key (keys_of ws) all))

-- what a buyer may change is watched
pub buyer_compared : (t : Tables) (a : Act) (asked : BuyRequest) (draw : ℕ) → a ≡ act.Enter asked draw → (watched : List Watched) → keys_of watched ≡ buyer_changes t asked.buyer → AreOf t watched
    → IsCompared t a watched
buyer_compared t a asked draw is watched keys rows =
    subst (λ (b : Act). IsCompared t b watched) (sym is)
    (record { still = tt; keys = keys; rows = rows; kinds = kinds_of watched (subst (All IsWatchable) (sym keys) (may_change_watchable t (act.Enter asked draw) tt)) })
