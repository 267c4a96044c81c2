-- Who bought an item and what a customer bought lately, once an order came: which keys show others.
use Rattle.std.proofs.Common.{◌≡◌, ◌≢◌, ℕ, zero, suc, ◌-◌, ◌<◌, ◌≤◌, ◌==◌, ◌||◌, Bool, true, false, List, [], ◌∷◌, ◌++◌, length, map, filter, get_or, Contains, Option, Some, None, option_map, ◌⊎◌, inl, inr, ⊎_elim, refl, sym, ◌∙◌, ap, subst, arith}
use Rattle.std.specs.Prelude.{All}
use Rattle.std.specs.List.{flat_map, list_any}
use Rattle.std.proofs.lemmas.Bool.{cases_eq, eq-eqb}
use Rattle.std.proofs.lemmas.List.{length-map}
use Rattle.std.proofs.lemmas.List.Concat.{flat_map-cons}
use Rattle.std.proofs.lemmas.List.Elements.{All-nil, All-cons, All-append, All-map, All-drop, All-push, All-head, All-tail, All-weaker, All-contains, All-filter}
use Rattle.shop_model.specs.declared.tables.Tables.{Tables}
use Rattle.shop_model.specs.lists.Related.{Sold, sold_of, last, recent, is_of, has_item, units_in_lines, lines_in, buyers_in, bought_in}
use Rattle.shop_model.specs.rows.Limits.{recent_orders}
use Rattle.shop_model.specs.rows.Rows.{LineRow, OrderRow}
use Rattle.shop_model.specs.rows.Sound.{Sound, HasLines, IsQuantity, units_in}
use Rattle.shop_model.specs.trade.Sales.{with_order}
use Rattle.shop_history.specs.declared.keys.Key.{Key}
use Rattle.shop_history.specs.declared.keys.Key.TheVariants as key
use Rattle.shop_history.specs.declared.keys.Row.TheVariants as row
use Rattle.shop_history.specs.Keys.{row_of}
use Rattle.shop_history.specs.MayChange.{leaving, items_of, buyers_change, forgotten_changes}
use Rattle.shop_history.proofs.cited.Versions.{RaisedFor}
use Rattle.shop_history.proofs.SaleFrame.{any_contains}
use Rattle.shop_book.specs.Sales.{HaveSameUnits, BuysElse, RaisesBuyers, RaisesBought, RaisesGone, has_bought}
use Rattle.shop_book.proofs.Ascending.{by_test, true_false}
use Rattle.shop_book.proofs.BoughtChange.{HaveUnits, gone_share, share, share_his, share_none, bought_shares, bought_stays, some_units}
use Rattle.shop_book.proofs.BuyersChange.{buyer_comes, buyer_leaves, buyers_stay}
use Rattle.shop_book.proofs.KeptLists.{units_of_lines}
use Rattle.shop_book.proofs.WindowMoves.{Moves, moved}

-- lines with some units each

sold_units : (order : OrderRow) → HasLines order → HaveUnits (sold_of order).lines
sold_units order lines = All-map (λ (l : ℕ × ℕ). 1 ≤ l.1) (λ (l : LineRow). (l.item, l.quantity)) order.lines (All-weaker (λ (l : LineRow). IsQuantity l.quantity) (λ (l : LineRow). 1 ≤ l.quantity) (λ l is. is.some) order.lines lines.quantities)

in_units : (orders : List Sold) (customer : ℕ) → All (λ s. HaveUnits s.lines) orders → HaveUnits (lines_in orders customer)
in_units orders customer all = of (filter (is_of customer) orders) (All-filter (is_of customer) (λ (s : Sold). HaveUnits s.lines) orders all)
  where
    of : (os : List Sold) → All (λ s. HaveUnits s.lines) os → HaveUnits (flat_map (λ s. s.lines) os)
    of [] each = All-nil (λ (l : ℕ × ℕ). 1 ≤ l.1)
    of (o ∷ os) each =
        subst HaveUnits (sym (flat_map-cons (λ (s : Sold). s.lines) o os))
        (All-append (λ (l : ℕ × ℕ). 1 ≤ l.1) o.lines (flat_map (λ s. s.lines) os) (All-head (λ (s : Sold). HaveUnits s.lines) o os each) (of os (All-tail (λ (s : Sold). HaveUnits s.lines) o os each)))

recent_units : (orders : List OrderRow) → All HasLines orders → All (λ s. HaveUnits s.lines) (map sold_of (last recent_orders orders))
recent_units orders lines =
    All-map (λ (s : Sold). HaveUnits s.lines) sold_of (last recent_orders orders)
    (All-weaker HasLines (λ (o : OrderRow). HaveUnits (sold_of o).lines) (λ o is. sold_units o is) (last recent_orders orders) (All-drop HasLines (length orders - recent_orders) orders lines))

-- the kinds of keys

a_buyers : (one other : ℕ) → key.Buyers one ≡ key.Buyers other → one ≡ other
a_buyers one other same = cc

customers_of : (one other : List ℕ) → row.Customers one ≡ row.Customers other → one ≡ other
customers_of one other same = cc

totals_in : (one other : List (ℕ × ℕ)) → row.Totals one ≡ row.Totals other → one ≡ other
totals_in one other same = cc

-- a key of buyers, or of what was bought
abbrev IsKind : Key → Type 0
IsKind k = ((item : ℕ) × (k ≡ key.Buyers item)) ⊎ ((customer : ℕ) × (k ≡ key.Bought customer))

kinds : (customer : ℕ) (items : List ℕ) → All IsKind (buyers_change customer items)
kinds customer items =
    All-cons IsKind (key.Bought customer) (map key.Buyers items) (inr (customer, refl)) (All-map IsKind key.Buyers items (λ k d within. inl (_, refl)))

gone_kinds : (gone : Option OrderRow) → All IsKind (forgotten_changes gone)
gone_kinds None = All-nil IsKind
gone_kinds (Some order) = kinds order.customer (items_of order)

module _ (t : Tables) (sound : Sound t) (order : OrderRow) (lines : HasLines order) where
  abbrev after : Tables
  after = with_order t order

  abbrev gone : Option OrderRow
  gone = leaving recent_orders t.orders

  abbrev before_sold : List Sold
  before_sold = recent t

  abbrev after_sold : List Sold
  after_sold = recent after

  moves : Moves before_sold after_sold (option_map sold_of gone) (sold_of order)
  moves = moved recent_orders t.orders order (omega arith)

  before_units : (customer : ℕ) → HaveUnits (lines_in before_sold customer)
  before_units customer = in_units before_sold customer (recent_units t.orders sound.lines)

  after_units : (customer : ℕ) → HaveUnits (lines_in after_sold customer)
  after_units customer = in_units after_sold customer (recent_units (t.orders ++ order ∷ []) (All-push HasLines t.orders order sound.lines lines))

  -- what a customer bought

  units_are : (o : OrderRow) (item : ℕ) → units_in_lines item (sold_of o).lines ≡ units_in item o.lines
  units_are o item = units_of_lines item o.lines

  gone_is : (left : Option OrderRow) → gone ≡ left → option_map sold_of gone ≡ option_map sold_of left
  gone_is left is = ap (option_map sold_of) is

  -- an item of which an order has units
  first_of : (o : OrderRow) → HasLines o → (item : ℕ) × (1 ≤ units_in_lines item (sold_of o).lines)
  first_of o has = some_units (sold_of o) (omega (arith, has.some, length-map {B = ℕ × ℕ} o.lines (λ (l : LineRow). (l.item, l.quantity)))) (sold_units o has)

  shares : (customer item : ℕ) (left : Option OrderRow) → gone ≡ left → bought_in after_sold customer ≡ bought_in before_sold customer → gone_share customer item (option_map sold_of left) ≡ share customer item (sold_of order)
  shares customer item left is same = bought_shares before_sold after_sold (option_map sold_of gone) (sold_of order) moves customer item (option_map sold_of left) (gone_is left is) same

  bought_changes : (left : Option OrderRow) → gone ≡ left → ((o : OrderRow) → left ≡ Some o → HasLines o) → (customer : ℕ) → BuysElse order left customer → bought_in after_sold customer ≢ bought_in before_sold customer
  bought_changes None is has customer buys same =
      let first = first_of order lines in
      absurd (omega (arith, shares customer first.0 None is same, share_his customer first.0 (sold_of order) (sym buys), first.1))
  bought_changes (Some left) is has customer buys same =
      ⊎_elim
      (λ (one : left.customer ≡ order.customer). absurd (buys.1 one (λ item. all one item)))
      (λ (apart : left.customer ≡ order.customer → ⊥).
      ⊎_elim
      (λ (comes : customer ≡ order.customer).
      let first = first_of order lines in
      absurd (omega (
        arith,
        shares customer first.0 (Some left) is same,
        share_his customer first.0 (sold_of order) (sym comes),
        share_none customer first.0 (sold_of left) (λ his. apart (his ∙ comes)),
        first.1,
      )))
      (λ (leaves : customer ≡ left.customer).
      let first = first_of left (has left refl) in
      absurd (omega (
        arith,
        shares customer first.0 (Some left) is same,
        share_his customer first.0 (sold_of left) (sym leaves),
        share_none customer first.0 (sold_of order) (λ his. apart (sym leaves ∙ sym his)),
        first.1,
      )))
      buys.0)
      (cases_eq left.customer order.customer)
    where
      who : left.customer ≡ order.customer → customer ≡ order.customer
      who one = ⊎_elim (λ (comes : customer ≡ order.customer). comes) (λ (leaves : customer ≡ left.customer). leaves ∙ one) buys.0

      all : left.customer ≡ order.customer → (item : ℕ) → units_in item order.lines ≡ units_in item left.lines
      all one item =
          let mine : order.customer ≡ customer = sym (who one) in
          sym (units_are order item) ∙ sym (share_his customer item (sold_of order) mine) ∙ sym (shares customer item (Some left) is same)
          ∙ share_his customer item (sold_of left) (one ∙ mine) ∙ units_are left item

  -- where what a customer bought differs, the customer buys other things
  bought_else : (left : Option OrderRow) → gone ≡ left → (customer : ℕ) → bought_in after_sold customer ≢ bought_in before_sold customer → BuysElse order left customer
  bought_else None is customer differs =
      ⊎_elim (λ (comes : customer ≡ order.customer). comes)
      (λ (apart : customer ≡ order.customer → ⊥). absurd (differs (stays None is customer (λ item. sym (share_none customer item (sold_of order) (λ his. apart (sym his)))))))
      (cases_eq customer order.customer)
    where
      stays : (left : Option OrderRow) → gone ≡ left → (customer : ℕ) → ((item : ℕ) → gone_share customer item (option_map sold_of left) ≡ share customer item (sold_of order)) → bought_in after_sold customer ≡ bought_in before_sold customer
      stays left is customer same = bought_stays before_sold after_sold (option_map sold_of gone) (sold_of order) moves customer (option_map sold_of left) (gone_is left is) same (before_units customer) (after_units customer)
  bought_else (Some left) is customer differs = (who, same_units)
    where
      stays : ((item : ℕ) → share customer item (sold_of left) ≡ share customer item (sold_of order)) → bought_in after_sold customer ≡ bought_in before_sold customer
      stays same = bought_stays before_sold after_sold (option_map sold_of gone) (sold_of order) moves customer (Some (sold_of left)) (gone_is (Some left) is) same (before_units customer) (after_units customer)

      who : (customer ≡ order.customer) ⊎ (customer ≡ left.customer)
      who =
          ⊎_elim (λ (comes : customer ≡ order.customer). inl comes)
          (λ (apart : customer ≡ order.customer → ⊥).
          ⊎_elim (λ (leaves : customer ≡ left.customer). inr leaves)
          (λ (other : customer ≡ left.customer → ⊥).
          absurd (differs (stays (λ item. share_none customer item (sold_of left) (λ his. other (sym his)) ∙ sym (share_none customer item (sold_of order) (λ his. apart (sym his)))))))
          (cases_eq customer left.customer))
          (cases_eq customer order.customer)

      same_units : left.customer ≡ order.customer → HaveSameUnits order left → ⊥
      same_units one same =
          differs (stays (λ item.
          ⊎_elim
          (λ (comes : customer ≡ order.customer).
          share_his customer item (sold_of left) (one ∙ sym comes) ∙ units_are left item ∙ sym (same item) ∙ sym (units_are order item) ∙ sym (share_his customer item (sold_of order) (sym comes)))
          (λ (apart : customer ≡ order.customer → ⊥).
          share_none customer item (sold_of left) (λ his. apart (sym his ∙ one)) ∙ sym (share_none customer item (sold_of order) (λ his. apart (sym his))))
          (cases_eq customer order.customer)))

  -- who bought an item

  has_any : (item : ℕ) (ls : List LineRow) → Contains (map (λ l. l.item) ls) item → list_any (λ (l : ℕ × ℕ). l.0 == item) (map (λ l. (l.item, l.quantity)) ls) ≡ true
  has_any item [] has = absurd (omega (arith, has.1))
  has_any item (l ∷ ls) has = by has.0 has.1 has.2 (has_any item ls)
    where
      or_true : (b c : Bool) → c ≡ true → (b || c) ≡ true
      or_true true c is = refl
      or_true false c is = is

      by : (k : ℕ) → k < suc (length (map (λ (l : LineRow). l.item) ls)) → get_or (l.item ∷ map (λ l. l.item) ls) k item ≡ item
          → (Contains (map (λ l. l.item) ls) item → list_any (λ (l : ℕ × ℕ). l.0 == item) (map (λ l. (l.item, l.quantity)) ls) ≡ true)
          → ((l.item == item) || list_any (λ (l : ℕ × ℕ). l.0 == item) (map (λ l. (l.item, l.quantity)) ls)) ≡ true
      by zero lt is behind = ap (λ b. b || list_any (λ (l : ℕ × ℕ). l.0 == item) (map (λ l. (l.item, l.quantity)) ls)) (eq-eqb l.item item is)
      by (suc k) lt is behind = or_true (l.item == item) (list_any (λ (l : ℕ × ℕ). l.0 == item) (map (λ l. (l.item, l.quantity)) ls)) (behind (k, omega (arith, lt), is))

  comes : (item : ℕ) → Contains (items_of order) item → has_bought before_sold order.customer item ≡ false → buyers_in after_sold item ≢ buyers_in before_sold item
  comes item has without = buyer_comes before_sold after_sold (sold_of order) (option_map sold_of gone) moves item (has_any item order.lines has) without

  leaves : (left : OrderRow) → gone ≡ Some left → (item : ℕ) → Contains (items_of left) item → has_bought after_sold left.customer item ≡ false → buyers_in after_sold item ≢ buyers_in before_sold item
  leaves left is item has without =
      buyer_leaves before_sold after_sold (sold_of order) (sold_of left) (subst (λ o. Moves before_sold after_sold o (sold_of order)) (gone_is (Some left) is) moves) item (has_any item left.lines has) without

  module _ (number : ℕ) (first mid next end : Key → ℕ) (buyers : RaisesBuyers (has_bought before_sold order.customer) (items_of order) number first mid)
      (left_lines : (o : OrderRow) → gone ≡ Some o → HasLines o) where
    abbrev Raised : (Key → ℕ) → Key → Type 0
    Raised new k = (new k ≡ first k) ⊎ ((row_of after k ≢ row_of t k) × (new k ≡ number))

    mid_each : (k : Key) → Raised mid k
    mid_each k =
        ⊎_elim (λ same. inl same)
        (λ raised. inr (λ same. comes raised.0 raised.2 raised.3 (customers_of _ _ (sym (ap (row_of after) raised.1) ∙ same ∙ ap (row_of t) raised.1)), raised.4))
        (buyers.each k)

    -- one key more keeps what was
    carried : (new later : Key → ℕ) (k : Key) → Raised new k → later k ≡ new k → Raised later k
    carried new later k was same = ⊎_elim (λ stays. inl (same ∙ stays)) (λ raised. inr (raised.0, same ∙ raised.1)) was

    next_each : (left : Option OrderRow) → gone ≡ left → RaisesGone after_sold left number mid next → (k : Key) → Raised next k
    next_each None is stays k = carried mid next k (mid_each k) (stays k)
    next_each (Some left) is raises k =
        ⊎_elim (λ same. carried mid next k (mid_each k) same)
        (λ raised. inr (λ same. leaves left is raised.0 raised.2 raised.3 (customers_of _ _ (sym (ap (row_of after) raised.1) ∙ same ∙ ap (row_of t) raised.1)), raised.4))
        (raises.each k)

    -- a number once given is not lost
    keeps : (left : Option OrderRow) → RaisesGone after_sold left number mid next → (k : Key) → mid k ≡ number → next k ≡ number
    keeps None stays k is = stays k ∙ is
    keeps (Some left) raises k is = ⊎_elim (λ same. same ∙ is) (λ raised. raised.4) (raises.each k)

    -- who bought the item differs only where it was raised
    next_all : (left : Option OrderRow) → gone ≡ left → RaisesGone after_sold left number mid next → (item : ℕ) → buyers_in after_sold item ≢ buyers_in before_sold item → next (key.Buyers item) ≡ number
    next_all left is raises item differs =
        by_test (has_item item (sold_of order))
        (λ (has : has_item item (sold_of order) ≡ true).
        by_test (has_bought before_sold order.customer item)
        (λ (had : has_bought before_sold order.customer item ≡ true). rest left is raises (λ _. had))
        (λ (new : has_bought before_sold order.customer item ≡ false). keeps left raises (key.Buyers item) (buyers.all item (any_contains item order.lines has) new)))
        (λ (without : has_item item (sold_of order) ≡ false). rest left is raises (λ has. true_false (has_item item (sold_of order)) has without))
      where
        stays : (left : Option OrderRow) → gone ≡ left → (has_item item (sold_of order) ≡ true → has_bought before_sold order.customer item ≡ true)
            → ((o : Sold) → option_map sold_of left ≡ Some o → has_item item o ≡ true → has_bought after_sold o.customer item ≡ true) → buyers_in after_sold item ≡ buyers_in before_sold item
        stays left is comes goes =
            buyers_stay before_sold after_sold (sold_of order) (option_map sold_of left) (subst (λ o. Moves before_sold after_sold o (sold_of order)) (gone_is left is) moves) item comes goes

        a_sold : (one other : Sold) → Some one ≡ Some other → one ≡ other
        a_sold one other same = cc

        rest : (left : Option OrderRow) → gone ≡ left → RaisesGone after_sold left number mid next → (has_item item (sold_of order) ≡ true → has_bought before_sold order.customer item ≡ true) → next (key.Buyers item) ≡ number
        rest None is raises comes = absurd (differs (stays None is comes (λ o none. absurd (let not : None ≡ Some o = none in cc))))
        rest (Some left) is raises comes =
            by_test (has_item item (sold_of left))
            (λ (has : has_item item (sold_of left) ≡ true).
            by_test (has_bought after_sold left.customer item)
            (λ (still : has_bought after_sold left.customer item ≡ true).
            absurd (differs (stays (Some left) is comes (λ o same _. subst (λ (s : Sold). has_bought after_sold s.customer item ≡ true) (a_sold (sold_of left) o same) still))))
            (λ (no_more : has_bought after_sold left.customer item ≡ false). raises.all item (any_contains item left.lines has) no_more))
            (λ (without : has_item item (sold_of left) ≡ false).
            absurd (differs (stays (Some left) is comes (λ o same has. true_false (has_item item (sold_of left)) (subst (λ (s : Sold). has_item item s ≡ true) (sym (a_sold (sold_of left) o same)) has) without))))

    -- the keys that show something else get the number
    pub remembered_raised : RaisesGone after_sold gone number mid next → RaisesBought (BuysElse order gone) number next end
        → RaisedFor t after number (buyers_change order.customer (items_of order) ++ forgotten_changes gone) first end
    remembered_raised raises bought = record {
      each = λ k.
          ⊎_elim (λ same. carried next end k (next_each gone refl raises k) same)
          (λ raised. inr (λ same. bought_changes gone refl left_lines raised.0 raised.2 (totals_in _ _ (sym (ap (row_of after) raised.1) ∙ same ∙ ap (row_of t) raised.1)), raised.3))
          (bought.each k);
      all = λ k has differs.
          ⊎_elim
          (λ buys.
          let raised : next k ≡ number = ap next buys.1 ∙ next_all gone refl raises buys.0 (λ same. differs (ap (row_of after) buys.1 ∙ ap row.Customers same ∙ sym (ap (row_of t) buys.1))) in
          ⊎_elim (λ same. same ∙ raised) (λ again. again.3) (bought.each k))
          (λ who. ap end who.1 ∙ bought.all who.0 (bought_else gone refl who.0 (λ same. differs (ap (row_of after) who.1 ∙ ap row.Totals same ∙ sym (ap (row_of t) who.1)))))
          (All-contains IsKind (buyers_change order.customer (items_of order) ++ forgotten_changes gone) k
          (All-append IsKind (buyers_change order.customer (items_of order)) (forgotten_changes gone) (kinds order.customer (items_of order)) (gone_kinds gone)) has);
    }
