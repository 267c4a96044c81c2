-- The orders of a window, as they are walked from the last to the first, all of them or one customer's.
use Rattle.std.proofs.Common.{◌≡◌, ◌≢◌, ℕ, zero, suc, ◌+◌, ◌-◌, ◌^◌, ◌<◌, ◌≤◌, ◌||◌, Bool, true, false, List, [], ◌∷◌, ◌++◌, length, map, filter, take, drop, get_or, refl, ap, sym, ◌∙◌, subst, arith}
use Rattle.std.proofs.Math.Seq.{drop-length, take-suc}
use Rattle.std.specs.List.{list_any, flat_map}
use Rattle.std.proofs.lemmas.Bool.{eq-eqb, ne_eqb}
use Rattle.std.proofs.lemmas.List.{append-nil, map-append, take_all}
use Rattle.std.proofs.lemmas.List.Concat.{flat_map-append}
use Rattle.std.proofs.lemmas.List.Elements.{filter-append}
use Rattle.std.proofs.lemmas.List.Folds.{list_any-append}
use Rattle.shop_text.proofs.cited.Lists.{drop_before}
use Rattle.shop_model.specs.lists.Related.{Sold, is_of, has_item, buyers_in, ascending, put_once, totals_of}
use Rattle.shop_window.specs.Chains.{Entry, no_entry, customer_at, NoneIn, AreLinked, IsNewest}
use Rattle.shop_window.specs.Totals.{add_all, units_of}
use Rattle.shop_window.proofs.Summing.{totals_added, add_all_append, totals_room}

-- where no order was walked yet
pub no_buyers : (entries : List Entry) (item : ℕ) → buyers_in (map (λ e. e.sold) (drop (length entries) entries)) item ≡ []
unfolding ascending
no_buyers entries item = rw (drop-length entries) refl

-- one order more, of the item
pub buyer_more : (entries : List Entry) (item i : ℕ) (e : Entry)
    → 0 < i → i ≤ length entries → e ≡ get_or entries (i - 1) e → has_item item e.sold ≡ true
    → buyers_in (map (λ e. e.sold) (drop (i - 1) entries)) item ≡ put_once e.sold.customer (buyers_in (map (λ e. e.sold) (drop i entries)) item)
unfolding ascending
buyer_more entries item i e some within here has =
    rw (drop_before entries i e some within, ← here, has) refl

-- one customer's orders, and their lines

abbrev pub orders_of : ℕ → List Entry → List Sold
orders_of customer entries = filter (is_of customer) (map (λ e. e.sold) entries)

abbrev pub lines_of : ℕ → List Entry → List (ℕ × ℕ)
lines_of customer entries = flat_map (λ o. o.lines) (orders_of customer entries)

-- the last of those that are left is the customer's
pub record IsWalked (entries : List Entry) (customer left : ℕ) : Type 0 where
  pub within : left ≤ length entries
  pub same : 0 < left → customer_at entries (left - 1) ≡ customer

orders_suc : (customer : ℕ) (entries : List Entry) (i : ℕ) → i < length entries
    → orders_of customer (take (suc i) entries) ≡ orders_of customer (take i entries) ++ filter (is_of customer) ((get_or entries i no_entry).sold ∷ [])
orders_suc customer entries i within =
    ap (orders_of customer) (take-suc entries i no_entry within)
    ∙ ap (filter (is_of customer)) (map-append (λ (e : Entry). e.sold) (take i entries) (get_or entries i no_entry ∷ []))
    ∙ filter-append (is_of customer) (map (λ (e : Entry). e.sold) (take i entries)) ((get_or entries i no_entry).sold ∷ [])

one_other : (customer : ℕ) (o : Sold) → o.customer ≢ customer → filter (is_of customer) (o ∷ []) ≡ []
one_other customer o other = rw (ne_eqb o.customer customer other) refl

one_same : (customer : ℕ) (o : Sold) → o.customer ≡ customer → filter (is_of customer) (o ∷ []) ≡ o ∷ []
one_same customer o same = rw (eq-eqb o.customer customer same) refl

-- orders that are not the customer's add nothing
orders_between : (customer : ℕ) (entries : List Entry) (start n : ℕ) → start + n ≤ length entries → NoneIn entries customer start (start + n)
    → orders_of customer (take (start + n) entries) ≡ orders_of customer (take start entries)
orders_between customer entries start zero within none =
    let same : start + 0 ≡ start = omega arith in ap (λ k. orders_of customer (take k entries)) same
orders_between customer entries start (suc n) within none =
    let to : start + suc n ≡ suc (start + n) = omega arith in
    ap (λ k. orders_of customer (take k entries)) to
    ∙ orders_suc customer entries (start + n) (omega (arith, within))
    ∙ ap (λ os. orders_of customer (take (start + n) entries) ++ os)
    (one_other customer (get_or entries (start + n) no_entry).sold (none (start + n) (omega arith) (omega arith)))
    ∙ append-nil (orders_of customer (take (start + n) entries))
    ∙ orders_between customer entries start n (omega (arith, within)) (λ j from before. none j from (omega (arith, before)))

orders_from : (customer : ℕ) (entries : List Entry) (start end : ℕ) → start ≤ end → end ≤ length entries → NoneIn entries customer start end
    → orders_of customer (take end entries) ≡ orders_of customer (take start entries)
orders_from customer entries start end order within none =
    let to : start + (end - start) ≡ end = omega (arith, order) in
    ap (λ k. orders_of customer (take k entries)) (sym to)
    ∙ orders_between customer entries start (end - start) (omega (arith, to, within)) (subst (λ k. NoneIn entries customer start k) (sym to) none)

-- the walk begins at the newest order
pub orders_begin : (customer : ℕ) (entries : List Entry) (left : ℕ) → IsNewest entries customer left
    → orders_of customer (take left entries) ≡ orders_of customer entries
orders_begin customer entries left newest =
    sym (orders_from customer entries left (length entries) newest.within (omega arith) newest.none)
    ∙ ap (orders_of customer) (take_all (length entries) entries (omega arith))

-- and goes on at the one before it
orders_step : (customer : ℕ) (entries : List Entry) (left : ℕ) → AreLinked entries → IsWalked entries customer left → 0 < left
    → orders_of customer (take left entries)
    ≡ orders_of customer (take (left - (get_or entries (left - 1) no_entry).back) entries) ++ (get_or entries (left - 1) no_entry).sold ∷ []
orders_step customer entries zero linked walked some = absurd (omega arith)
orders_step customer entries (suc i) linked walked some =
    let at : suc i - 1 ≡ i = omega arith in
    let within : i < length entries = omega (arith, walked.within) in
    let link = linked i within in
    let owner : customer_at entries i ≡ customer = ap (λ k. customer_at entries k) (sym at) ∙ walked.same some in
    let none = rw owner at link.none in
    rw at (orders_suc customer entries i within
    ∙ ap (λ os. orders_of customer (take i entries) ++ os) (one_same customer (get_or entries i no_entry).sold owner)
    ∙ ap (λ os. os ++ (get_or entries i no_entry).sold ∷ [])
    (orders_from customer entries (suc i - (get_or entries i no_entry).back) i (omega (arith, link.some)) (omega (arith, within)) none))

pub walk_begins : (customer : ℕ) (entries : List Entry) (left : ℕ) → IsNewest entries customer left → IsWalked entries customer left
walk_begins customer entries left newest = record { within = newest.within; same = newest.same }

pub walk_goes_on : (customer : ℕ) (entries : List Entry) (left now : ℕ) → AreLinked entries → IsWalked entries customer left → 0 < left
    → now ≡ left - (get_or entries (left - 1) no_entry).back → IsWalked entries customer now
walk_goes_on customer entries left now linked walked some is =
    let link = linked (left - 1) (omega (arith, walked.within, some)) in
    record {
      within = omega (arith, is, walked.within);
      same = λ more.
          let at : now - 1 ≡ left - 1 - (get_or entries (left - 1) no_entry).back = omega (arith, is) in
          ap (λ k. customer_at entries k) at ∙ link.same (omega (arith, is, more)) ∙ walked.same some;
    }

-- whether an order of those that are left has the item

or_false : (b : Bool) → (b || false) ≡ b
or_false true = refl
or_false false = refl

has_step : (customer item : ℕ) (entries : List Entry) (left : ℕ) → AreLinked entries → IsWalked entries customer left → 0 < left
    → list_any (has_item item) (orders_of customer (take left entries))
    ≡ (list_any (has_item item) (orders_of customer (take (left - (get_or entries (left - 1) no_entry).back) entries))
    || has_item item (get_or entries (left - 1) no_entry).sold)
has_step customer item entries left linked walked some =
    let rest = orders_of customer (take (left - (get_or entries (left - 1) no_entry).back) entries) in
    let o = (get_or entries (left - 1) no_entry).sold in
    ap (list_any (has_item item)) (orders_step customer entries left linked walked some)
    ∙ list_any-append (has_item item) rest (o ∷ [])
    ∙ ap (λ b. list_any (has_item item) rest || b) (or_false (has_item item o))

pub has_before : (customer item : ℕ) (entries : List Entry) (left now : ℕ) → AreLinked entries → IsWalked entries customer left → 0 < left
    → has_item item (get_or entries (left - 1) no_entry).sold ≡ false → now ≡ left - (get_or entries (left - 1) no_entry).back
    → list_any (has_item item) (orders_of customer (take now entries)) ≡ list_any (has_item item) (orders_of customer (take left entries))
has_before customer item entries left now linked walked some other is =
    let rest = orders_of customer (take (left - (get_or entries (left - 1) no_entry).back) entries) in
    ap (λ k. list_any (has_item item) (orders_of customer (take k entries))) is
    ∙ sym (has_step customer item entries left linked walked some ∙ ap (λ b. list_any (has_item item) rest || b) other ∙ or_false (list_any (has_item item) rest))

-- the lines of the orders that are left

lines_step : (customer : ℕ) (entries : List Entry) (left : ℕ) → AreLinked entries → IsWalked entries customer left → 0 < left
    → lines_of customer (take left entries)
    ≡ lines_of customer (take (left - (get_or entries (left - 1) no_entry).back) entries) ++ (get_or entries (left - 1) no_entry).sold.lines
lines_step customer entries left linked walked some =
    let rest = orders_of customer (take (left - (get_or entries (left - 1) no_entry).back) entries) in
    let o = (get_or entries (left - 1) no_entry).sold in
    ap (flat_map (λ (p : Sold). p.lines)) (orders_step customer entries left linked walked some)
    ∙ flat_map-append (λ (p : Sold). p.lines) rest (o ∷ [])
    ∙ ap (λ ls. flat_map (λ (p : Sold). p.lines) rest ++ ls) (append-nil o.lines)

pub bought_begins : (customer : ℕ) (entries : List Entry) (left : ℕ) → IsNewest entries customer left
    → add_all (lines_of customer (take left entries)) [] ≡ totals_of (lines_of customer entries)
bought_begins customer entries left newest =
    sym (totals_added (lines_of customer (take left entries)))
    ∙ ap (λ (os : List Sold). totals_of (flat_map (λ o. o.lines) os)) (orders_begin customer entries left newest)

pub bought_room : (customer : ℕ) (entries : List Entry) (left : ℕ) (totals : List (ℕ × ℕ)) → AreLinked entries → IsWalked entries customer left → 0 < left
    → add_all (lines_of customer (take left entries)) totals ≡ totals_of (lines_of customer entries) → units_of (lines_of customer entries) < 2 ^ 64
    → units_of totals + units_of (get_or entries (left - 1) no_entry).sold.lines < 2 ^ 64
bought_room customer entries left totals linked walked some is fits =
    totals_room (lines_of customer (take (left - (get_or entries (left - 1) no_entry).back) entries)) (get_or entries (left - 1) no_entry).sold.lines
    (lines_of customer entries) totals
    (ap (λ ls. add_all ls totals) (sym (lines_step customer entries left linked walked some)) ∙ is) fits

pub bought_before : (customer : ℕ) (entries : List Entry) (left now : ℕ) (totals more : List (ℕ × ℕ)) → AreLinked entries → IsWalked entries customer left → 0 < left
    → now ≡ left - (get_or entries (left - 1) no_entry).back → more ≡ add_all (get_or entries (left - 1) no_entry).sold.lines totals
    → add_all (lines_of customer (take now entries)) more ≡ add_all (lines_of customer (take left entries)) totals
bought_before customer entries left now totals more linked walked some is added =
    let rest = lines_of customer (take (left - (get_or entries (left - 1) no_entry).back) entries) in
    ap (λ k. add_all (lines_of customer (take k entries)) more) is
    ∙ ap (add_all rest) added
    ∙ sym (ap (λ ls. add_all ls totals) (lines_step customer entries left linked walked some)
    ∙ add_all_append rest (get_or entries (left - 1) no_entry).sold.lines totals)

pub bought_all : (customer : ℕ) (entries : List Entry) (left : ℕ) (totals : List (ℕ × ℕ)) → left ≤ 0
    → add_all (lines_of customer (take left entries)) totals ≡ totals
unfolding add_all
bought_all customer entries left totals none = let zero : left ≡ 0 = omega (arith, none) in rw zero refl
