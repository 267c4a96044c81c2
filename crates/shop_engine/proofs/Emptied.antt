-- A cart that was bought stays empty, until something is put into it.
use Rattle.std.proofs.Common.{◌≡◌, ◌≢◌, ℕ, zero, suc, ◌+◌, ◌-◌, List, [], ◌∷◌, ◌++◌, length, All, Option, Some, None, slice_get, slice_set, refl, sym, ◌∙◌, ap, subst, arith, ⊎_elim, append_assoc, append-nil}
use Rattle.std.proofs.lemmas.Bool.{cases_eq}
use Rattle.std.proofs.lemmas.List.Elements.{All-head, All-tail}
use Rattle.std.proofs.lemmas.Option.{slice_get_within}
use Rattle.shop_log.proofs.cited.Legality.{legal_shorter, legal_last}
use Rattle.shop_model.specs.declared.buying.Buyer.{Buyer}
use Rattle.shop_model.specs.declared.buying.Buyer.TheVariants.{Returning, Newcomer}
use Rattle.shop_model.specs.declared.tables.Tables.{Tables}
use Rattle.shop_model.specs.asked.AdminAsked.{AdminAsked}
use Rattle.shop_model.specs.asked.CartAsked.{CartAsked}
use Rattle.shop_model.specs.asked.PurchaseAsked.{PurchaseAsked}
use Rattle.shop_model.specs.rows.Lookups.{row_numbered}
use Rattle.shop_model.specs.rows.Rows.{CartRow, CustomerRow, ItemRow}
use Rattle.shop_model.specs.pages.Show.{check}
use Rattle.shop_model.specs.trade.Buyers.{tables_entered}
use Rattle.shop_model.specs.trade.Carts.{carts_with, check_asked, lines_named}
use Rattle.shop_model.specs.trade.Mending.{with_mended}
use Rattle.shop_model.specs.trade.Sales.{Terms, tables_bought}
use Rattle.shop_history.specs.declared.acts.Act.{Act}
use Rattle.shop_history.specs.declared.acts.Act.TheVariants.{Cart, Enter, Confirm, Admin, Add}
use Rattle.shop_history.specs.declared.acts.Entry.{Entry}
use Rattle.shop_history.specs.Acts.{request_of}
use Rattle.shop_history.specs.Logs.{tables, after, Legal, MayFollow}
use Rattle.shop_history.proofs.cited.MayChange.{Buys, named_there, who_buys}
use Rattle.shop_history.proofs.cited.Places.{IsThere, is_there, row_there, row_set_other, row_push_other}
use Rattle.shop_history.proofs.cited.Rows.{tables_push}
use Rattle.shop_engine.specs.OneOrder.{LeavesEmpty}

-- a cart without lines

abbrev pub IsEmptied : Tables → ℕ → Type 0
IsEmptied t cart = row_numbered t.carts cart ≡ Some (record { id = cart; lines = [] })

set_here : {A : Type 0} (xs : List A) (i : ℕ) (x y : A) → slice_get xs i ≡ Some x → slice_get (slice_set xs i y) i ≡ Some y
set_here [] i x y is = absurd cc
set_here (z ∷ xs) zero x y is = refl
set_here (z ∷ xs) (suc i) x y is = set_here xs i x y is

row_set : {A : Type 0} (xs : List A) (id : ℕ) (x y : A) → row_numbered xs id ≡ Some x → row_numbered (slice_set xs (id - 1) y) id ≡ Some y
row_set xs id x y is =
    let there : IsThere xs id x = is_there xs id x is in
    row_there (slice_set xs (id - 1) y) id y (record { above = there.above; at = set_here xs (id - 1) x y there.at })

-- what a request for a cart leaves of another
cart_stays : (items : ℕ) (carts : List CartRow) (asked : CartAsked) (named : Option ℕ) (lines : List (ℕ × ℕ)) (cart : ℕ) (row : CartRow)
    → check_asked items asked (lines_named carts named) ≡ None → named ≢ Some cart → row_numbered carts cart ≡ Some row → row_numbered (carts_with carts named lines) cart ≡ Some row
cart_stays items carts asked None lines cart row passes apart is =
    let there : IsThere carts cart row = is_there carts cart row is in
    row_push_other carts cart (record { id = length carts + 1; lines = lines })
    (λ (same : cart ≡ length carts + 1). omega (arith, same, slice_get_within carts (cart - 1) row there.at)) ∙ is
cart_stays items carts asked (Some id) lines cart row passes apart is =
    let named = named_there items asked (row_numbered carts id) passes in
    row_set_other carts id cart named.0 (record { id = id; lines = lines }) named.1 (λ (same : cart ≡ id). apart (ap (λ n. Some n) (sym same))) ∙ is

entered_stays : (t : Tables) (stamp draw : ℕ) (buyer : Buyer) → (tables_entered t stamp draw buyer).carts ≡ t.carts
entered_stays t stamp draw (Returning asked) = refl
entered_stays t stamp draw (Newcomer asked) = refl

mended_stays : (t : Tables) (stamp : ℕ) (asked : AdminAsked) (item : Option ItemRow) → (with_mended t stamp asked item).carts ≡ t.carts
mended_stays t stamp asked None = refl
mended_stays t stamp asked (Some item) = refl

-- a purchase empties its cart
pub bought_empties : (t : Tables) (stamp draw : ℕ) (terms : Terms) (asked : PurchaseAsked) → Buys t asked → IsEmptied (tables_bought t stamp draw terms asked (row_numbered t.customers asked.c)) asked.cart
bought_empties t stamp draw terms asked who =
    subst (λ (o : Option CustomerRow). IsEmptied (tables_bought t stamp draw terms asked o) asked.cart) (sym who.buys)
    (row_set t.carts asked.cart who.cart (record { id = asked.cart; lines = [] }) who.bought)

-- and leaves another
bought_stays : (t : Tables) (stamp draw : ℕ) (terms : Terms) (asked : PurchaseAsked) (cart : ℕ) → Buys t asked → (cart ≡ asked.cart → ⊥) → IsEmptied t cart
    → IsEmptied (tables_bought t stamp draw terms asked (row_numbered t.customers asked.c)) cart
bought_stays t stamp draw terms asked cart who apart is =
    subst (λ (o : Option CustomerRow). IsEmptied (tables_bought t stamp draw terms asked o) cart) (sym who.buys)
    (row_set_other t.carts asked.cart cart who.cart (record { id = asked.cart; lines = [] }) who.bought apart ∙ is)

-- a cart that is empty stays so
act_leaves : (t : Tables) (entry : Entry) (cart : ℕ) (act : Act) → entry.act ≡ act → check t (request_of act) ≡ None → LeavesEmpty cart act → IsEmptied t cart → IsEmptied (after t entry) cart
act_leaves t entry cart (Cart asked draw) is passes leaves empty =
    rw is (cart_stays (length t.items) t.carts asked asked.ids.cart _ cart (record { id = cart; lines = [] }) passes leaves empty)
act_leaves t entry cart (Enter asked draw) is passes leaves empty = rw (is, entered_stays t entry.stamp draw asked.buyer) empty
act_leaves t entry cart (Admin asked) is passes leaves empty =
    rw (is, mended_stays t entry.stamp asked (row_numbered t.items asked.item)) empty
act_leaves t entry cart (Add asked) is passes leaves empty = rw is empty
act_leaves t entry cart (Confirm asked draw auth tax) is passes leaves empty =
    let terms : Terms = record { auth = auth; tax = tax } in
    rw is
    (⊎_elim
    (λ (same : cart ≡ asked.cart). subst (λ n. IsEmptied (tables_bought t entry.stamp draw terms asked (row_numbered t.customers asked.c)) n) (sym same)
    (bought_empties t entry.stamp draw terms asked (who_buys t asked passes)))
    (λ (apart : cart ≡ asked.cart → ⊥). bought_stays t entry.stamp draw terms asked cart (who_buys t asked passes) apart empty)
    (cases_eq cart asked.cart))

pub log_leaves : (t : Tables) (cart : ℕ) (log more : List Entry) → Legal t (log ++ more) → All (λ e. LeavesEmpty cart e.act) more → IsEmptied (tables t log) cart → IsEmptied (tables t (log ++ more)) cart
log_leaves t cart log [] legal all empty = rw (append-nil log) empty
log_leaves t cart log (entry ∷ more) legal all empty =
    let longer : (log ++ entry ∷ []) ++ more ≡ log ++ entry ∷ more = append_assoc log (entry ∷ []) more in
    let legal_now : Legal t (log ++ entry ∷ []) = legal_shorter (MayFollow t) (log ++ entry ∷ []) (log ++ entry ∷ more) (record { rest = more; is = sym longer }) legal in
    let follows : MayFollow t log entry = legal_last (MayFollow t) log entry legal_now in
    let now : IsEmptied (tables t (log ++ entry ∷ [])) cart
    = subst (λ (u : Tables). IsEmptied u cart) (sym (tables_push t log entry))
    (act_leaves (tables t log) entry cart entry.act refl follows.passes (All-head (λ (e : Entry). LeavesEmpty cart e.act) entry more all) empty) in
    subst (λ (l : List Entry). IsEmptied (tables t l) cart) longer
    (log_leaves t cart (log ++ entry ∷ []) more (subst (Legal t) (sym longer) legal) (All-tail (λ (e : Entry). LeavesEmpty cart e.act) entry more all) now)
