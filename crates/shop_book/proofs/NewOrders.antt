-- The orders that came after the opening of a book, how many they are, and what they were charged.
use Rattle.std.proofs.Common.{◌≡◌, ℕ, zero, suc, ◌+◌, ◌-◌, ◌*◌, ◌≤◌, nat_lt, true, List, [], ◌∷◌, ◌++◌, length, map, filter, take, drop, get_or, sum_by, All, Option, Some, None, refl, sym, ◌∙◌, ap, subst, arith, length-append, append-nil}
use Rattle.std.specs.List.{range_with_len}
use Rattle.std.proofs.Math.Nat.{mul-le-mul}
use Rattle.std.proofs.lemmas.Bool.{le-ltb}
use Rattle.std.proofs.lemmas.List.{length-map, length-drop, drop-append-le, drop_all, take_all}
use Rattle.std.proofs.lemmas.List.Elements.{All-drop}
use Rattle.std.proofs.lemmas.List.Sums.{sum_by-append, sum_by-le}
use Rattle.shop_log.proofs.cited.ListEnds.{by_end}
use Rattle.shop_model.specs.declared.buying.Buyer.{Buyer}
use Rattle.shop_model.specs.declared.buying.Buyer.TheVariants.{Returning, Newcomer}
use Rattle.shop_model.specs.declared.tables.Tables.{Tables}
use Rattle.shop_model.specs.asked.AdminAsked.{AdminAsked}
use Rattle.shop_model.specs.asked.PurchaseAsked.{PurchaseAsked}
use Rattle.shop_model.specs.rows.Limits.{price_limit, quantity_limit, lines_limit, charged_rate_limit}
use Rattle.shop_model.specs.rows.Lookups.{row_numbered}
use Rattle.shop_model.specs.rows.Rows.{CustomerRow, ItemRow, LineRow, OrderRow, IsOrder, IsLine}
use Rattle.shop_model.specs.rows.Sound.{Sound, HasLines, IsCharged}
use Rattle.shop_model.specs.trade.Buyers.{tables_entered}
use Rattle.shop_model.specs.trade.Mending.{with_mended}
use Rattle.shop_model.specs.trade.Money.{money, sub_of, tax_of, ship_of, sum_of, units_of}
use Rattle.shop_model.specs.trade.Sales.{Terms, new_order, tables_bought}
use Rattle.shop_history.specs.declared.acts.Act.{Act}
use Rattle.shop_history.specs.declared.acts.Act.TheVariants.{Cart, Enter, Confirm, Admin, Add}
use Rattle.shop_history.specs.declared.acts.Entry.{Entry}
use Rattle.shop_history.specs.Acts.{play}
use Rattle.shop_history.specs.Logs.{tables}
use Rattle.shop_history.proofs.cited.KeptTables.{kept, play_keeps}
use Rattle.shop_history.proofs.cited.Rows.{tables_nil, tables_push}
use Rattle.shop_book.specs.Books.{BookValue, IsBook, tables_of}
use Rattle.shop_book.specs.declared.opening.Opening.{Opening}
use Rattle.shop_book.specs.Openings.{most_entries, IsOpening}
use Rattle.shop_book.specs.Summaries.{charge_limit, cents_in, new_orders, summary_of}
use Rattle.shop_book.proofs.Keeping.{good_now}

-- where ids run from above a number, all are above it
all_above : (orders : List OrderRow) (from born : ℕ) → map (λ o. o.id) orders ≡ range_with_len from (length orders) → born + 1 ≤ from
    → filter (λ o. nat_lt born o.id) orders ≡ orders
all_above [] from born runs above = refl
all_above (order ∷ orders) from born runs above =
    let first : order.id ≡ from = cc in
    let rest : map (λ (o : OrderRow). o.id) orders ≡ range_with_len (from + 1) (length orders) = cc in
    let test : nat_lt born order.id ≡ true = grind (arith, first, above) in
    rw test (ap (λ (os : List OrderRow). order ∷ os) (all_above orders (from + 1) born rest (omega (arith, above))))

-- where ids run, those above a number stand behind the others
behind : (orders : List OrderRow) (count from born : ℕ) → map (λ o. o.id) orders ≡ range_with_len from (length orders) → from + count ≡ born + 1
    → filter (λ o. nat_lt born o.id) orders ≡ drop count orders
behind orders zero from born runs is = all_above orders from born runs (omega (arith, is))
behind [] (suc count) from born runs is = refl
behind (order ∷ orders) (suc count) from born runs is =
    let first : order.id ≡ from = cc in
    let rest : map (λ (o : OrderRow). o.id) orders ≡ range_with_len (from + 1) (length orders) = cc in
    rw (le-ltb born order.id (omega (arith, first, is))) (behind orders count (from + 1) born rest (omega (arith, is)))

pub orders_behind : (t : Tables) → Sound t → new_orders t ≡ drop t.born_orders t.orders
orders_behind t sound =
    let runs : map (λ (o : OrderRow). o.id) t.orders ≡ range_with_len 1 (length t.orders) = sound.ids.orders.from_one ∙ ap (range_with_len 1) (length-map t.orders (λ (o : OrderRow). o.id)) in
    behind t.orders t.born_orders 1 t.born_orders runs (omega arith)

-- orders behind those that there were, one at most
pub record Adds (old new : List OrderRow) : Type 0 where
  pub more : List OrderRow
  pub is : new ≡ old ++ more
  pub one : length more ≤ 1

adds_none : (orders : List OrderRow) → Adds orders orders
adds_none orders = record { more = []; is = sym (append-nil orders); one = omega arith }

enter_adds : (t : Tables) (stamp draw : ℕ) (buyer : Buyer) → Adds t.orders (tables_entered t stamp draw buyer).orders
enter_adds t stamp draw (Returning asked) = adds_none t.orders
enter_adds t stamp draw (Newcomer asked) = adds_none t.orders

confirm_adds : (t : Tables) (stamp draw : ℕ) (terms : Terms) (asked : PurchaseAsked) (customer : Option CustomerRow) → Adds t.orders (tables_bought t stamp draw terms asked customer).orders
confirm_adds t stamp draw terms asked None = adds_none t.orders
confirm_adds t stamp draw terms asked (Some customer) = record { more = new_order t stamp draw terms asked customer ∷ []; is = refl; one = omega arith }

admin_adds : (t : Tables) (stamp : ℕ) (asked : AdminAsked) (item : Option ItemRow) → Adds t.orders (with_mended t stamp asked item).orders
admin_adds t stamp asked None = adds_none t.orders
admin_adds t stamp asked (Some item) = adds_none t.orders

-- an act adds one order at most
pub play_adds : (t : Tables) (stamp : ℕ) (act : Act) → Adds t.orders (play t stamp act).tables.orders
play_adds t stamp (Cart asked draw) = adds_none t.orders
play_adds t stamp (Enter asked draw) = enter_adds t stamp draw asked.buyer
play_adds t stamp (Confirm asked draw auth tax) = confirm_adds t stamp draw (record { auth = auth; tax = tax }) asked (row_numbered t.customers asked.c)
play_adds t stamp (Admin asked) = admin_adds t stamp asked (row_numbered t.items asked.item)
play_adds t stamp (Add asked) = adds_none t.orders

few_came : (t : Tables) (log : List Entry) → length (tables t log).orders ≤ length t.orders + length log
few_came t =
    by_end (λ log. length (tables t log).orders ≤ length t.orders + length log)
    (omega (arith, ap (λ (u : Tables). length u.orders) (tables_nil t)))
    (λ log entry before.
    let adds : Adds (tables t log).orders (play (tables t log) entry.stamp entry.act).tables.orders = play_adds (tables t log) entry.stamp entry.act in
    omega (
      arith,
      before,
      adds.one,
      ap length adds.is,
      length-append (tables t log).orders adds.more,
      ap (λ (u : Tables). length u.orders) (tables_push t log entry),
      length-append log (entry ∷ []),
    ))

-- what an order is charged at most

charged_few : (order : OrderRow) → HasLines order → IsCharged order → IsOrder order → All IsLine order.lines → order.total ≤ charge_limit
unfolding money sub_of tax_of ship_of sum_of units_of
charged_few order lines is row bounds =
    let each : All (λ (l : LineRow). l.cost * l.quantity ≤ price_limit * quantity_limit) order.lines = λ k d within. mul-le-mul (bounds k d within).cost (bounds k d within).quantity in
    let sum = sum_by-le (λ (l : LineRow). l.cost * l.quantity) (price_limit * quantity_limit) order.lines each in
    let units = sum_by-le (λ (l : LineRow). l.quantity) quantity_limit order.lines (λ k d within. (bounds k d within).quantity) in
    let few : length order.lines ≤ lines_limit = lines.few in
    let low : sum_of order.lines ≤ lines_limit * (price_limit * quantity_limit) = omega (arith, sum, few) in
    let most : 100 - order.discount ≤ 100 = omega arith in
    let part : sum_of order.lines * (100 - order.discount) ≤ lines_limit * (price_limit * quantity_limit) * 100 = mul-le-mul low most in
    let sub : sub_of (sum_of order.lines) order.discount ≤ lines_limit * (price_limit * quantity_limit) = omega (arith, part) in
    let tax : sub_of (sum_of order.lines) order.discount * order.rate ≤ lines_limit * (price_limit * quantity_limit) * charged_rate_limit = mul-le-mul sub row.rate in
    omega (arith, ap (λ m. m.total) is, sub, tax, units, few)

pub charges_few : (t : Tables) → Sound t → All (λ o. o.total ≤ charge_limit) t.orders
charges_few t sound = λ k d within. charged_few (get_or t.orders k d) (sound.lines k d within) (sound.charges k d within) (sound.bounds.orders k d within) (sound.bounds.lines k d within)

-- none came to the tables of an opening
pub none_came : (opening : Opening) → IsOpening opening → cents_in opening.tables ≡ 0
none_came opening opens =
    ap (λ (orders : List OrderRow). sum_by (λ (o : OrderRow). o.total) orders)
    (orders_behind opening.tables opens.good.sound ∙ drop_all opening.tables.born_orders opening.tables.orders (omega (arith, opens.born)))

-- what came to a book is counted, and no more is charged for it than fits

module _ (b : BookValue) (book : IsBook b) where
  sound : Sound (tables_of b)
  sound = (good_now b book).sound

  abbrev born : ℕ
  born = b.opening.tables.born_orders

  born_same : (tables_of b).born_orders ≡ born
  born_same = (kept b.opening.tables b.log book.opens.good.sound.born_items).born_orders

  pub born_within : born ≤ length (tables_of b).orders
  born_within = omega (arith, sound.born, born_same)

  pub came_count : length (new_orders (tables_of b)) ≡ length (tables_of b).orders - born
  came_count =
      ap length (orders_behind (tables_of b) sound) ∙ length-drop (tables_of b).born_orders (tables_of b).orders ∙ ap (λ n. length (tables_of b).orders - n) born_same

  pub cents_few : cents_in (tables_of b) ≤ most_entries * charge_limit
  cents_few =
      let each : All (λ (o : OrderRow). o.total ≤ charge_limit) (new_orders (tables_of b))
      = subst (All (λ (o : OrderRow). o.total ≤ charge_limit)) (sym (orders_behind (tables_of b) sound))
      (All-drop (λ (o : OrderRow). o.total ≤ charge_limit) (tables_of b).born_orders (tables_of b).orders (charges_few (tables_of b) sound)) in
      let sum = sum_by-le (λ (o : OrderRow). o.total) charge_limit (new_orders (tables_of b)) each in
      omega (arith, sum, came_count, few_came b.opening.tables b.log, book.opens.born, book.short, book.opens.bound)

  pub summary_is : (entries orders cents : ℕ) → entries ≡ length b.log → orders ≡ length (tables_of b).orders - born → cents ≡ cents_in (tables_of b)
      → record { entries = entries; orders = orders; cents = cents } ≡ summary_of b
  unfolding summary_of
  summary_is entries orders cents long many sum =
      ap (λ n. record { entries = n; orders = orders; cents = cents }) long
      ∙ ap (λ n. record { entries = length b.log; orders = n; cents = cents }) (many ∙ sym came_count)
      ∙ ap (λ n. record { entries = length b.log; orders = length (new_orders (tables_of b)); cents = n }) sum

-- what an act adds to what was charged: these are the orders after it, so many were there before

module _ (t : Tables) (sound : Sound t) (stamp : ℕ) (act : Act) (sound_after : Sound (play t stamp act).tables)
    (count : ℕ) (count_is : count ≡ length t.orders) (orders : List OrderRow) (orders_are : orders ≡ (play t stamp act).tables.orders) where
  adds : Adds t.orders (play t stamp act).tables.orders
  adds = play_adds t stamp act

  -- those that came
  abbrev came : List OrderRow
  came = take (length orders - count) (drop count orders)

  came_is : came ≡ adds.more
  came_is =
      take_all (length orders - count) (drop count orders) (omega (arith, length-drop count orders))
      ∙ ap (drop count) (orders_are ∙ adds.is)
      ∙ drop-append-le count t.orders adds.more (omega (arith, count_is))
      ∙ ap (λ (os : List OrderRow). os ++ adds.more) (drop_all count t.orders (omega (arith, count_is)))

  pub count_within : count ≤ length orders
  count_within = omega (arith, count_is, ap length (orders_are ∙ adds.is), length-append t.orders adds.more)

  pub few_charged : length came ≤ most_entries
  few_charged = omega (arith, ap length came_is, adds.one)

  pub charges_within : All (λ o. o.total ≤ charge_limit) came
  charges_within =
      subst (All (λ (o : OrderRow). o.total ≤ charge_limit))
      (ap (drop count) (sym orders_are) ∙ sym (take_all (length orders - count) (drop count orders) (omega (arith, length-drop count orders))))
      (All-drop (λ (o : OrderRow). o.total ≤ charge_limit) count (play t stamp act).tables.orders (charges_few (play t stamp act).tables sound_after))

  pub cents_more : cents_in (play t stamp act).tables ≡ cents_in t + sum_by (λ o. o.total) came
  cents_more =
      ap (λ (os : List OrderRow). sum_by (λ (o : OrderRow). o.total) os)
      (orders_behind (play t stamp act).tables sound_after
      ∙ ap (λ n. drop n (play t stamp act).tables.orders) (play_keeps t stamp act sound.born_items).born_orders
      ∙ ap (drop t.born_orders) adds.is
      ∙ drop-append-le t.born_orders t.orders adds.more sound.born
      ∙ ap (λ (os : List OrderRow). os ++ adds.more) (sym (orders_behind t sound)))
      ∙ sum_by-append (λ (o : OrderRow). o.total) (new_orders t) adds.more
      ∙ ap (λ (os : List OrderRow). cents_in t + sum_by (λ (o : OrderRow). o.total) os) (sym came_is)
