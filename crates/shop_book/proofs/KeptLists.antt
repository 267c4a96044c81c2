-- The latest orders as they come one by one, and lists of units and of subjects.
use Rattle.std.proofs.Common.{◌≡◌, ℕ, zero, suc, ◌+◌, ◌-◌, ◌≤◌, ◌<◌, ◌==◌, Bool, true, false, cond, List, [], ◌∷◌, ◌++◌, length, map, take, drop, set, get_or, All, refl, sym, ◌∙◌, ap, subst, arith, length-append}
use Rattle.std.specs.Prelude.{filter, sum_by, slice_get, Some}
use Rattle.std.proofs.lemmas.List.{length-drop, length-map, drop-append-le, drop-drop, map-append, take_all, take_more, take_more_set}
use Rattle.std.proofs.lemmas.List.Sums.{sum_by-cons}
use Rattle.shop_model.specs.declared.subject.Subject.{Subject}
use Rattle.shop_model.specs.declared.tables.Tables.{Tables}
use Rattle.shop_model.specs.lists.Rankings.{latest_orders, sold_lately, best, newest}
use Rattle.shop_model.specs.lists.Related.{Sold, sold_of, last, units_in_lines, units_in_orders}
use Rattle.shop_model.specs.rows.Limits.{counted_orders, recent_orders}
use Rattle.shop_model.specs.rows.Rows.{ItemRow, LineRow, OrderRow}
use Rattle.shop_model.specs.rows.Sound.{Sound, units_in}
use Rattle.shop_model.specs.rows.Subjects.{subjects}
use Rattle.shop_model.specs.declared.buying.Buyer.{Buyer}
use Rattle.shop_model.specs.declared.buying.Buyer.TheVariants.{Returning, Newcomer}
use Rattle.shop_model.specs.trade.Buyers.{tables_entered}
use Rattle.shop_history.specs.declared.acts.Act.{Act}
use Rattle.shop_history.specs.declared.acts.Act.TheVariants as act
use Rattle.shop_history.specs.Acts.{play}
use Rattle.shop_book.specs.declared.lists.Lists.{Lists}
use Rattle.shop_book.specs.Planning.{MovesNoList}
use Rattle.shop_book.specs.Auths.{AreAuths}
use Rattle.shop_book.specs.KeptLists.{IsAdmitted, AreLists}

-- the latest

module _ {A : Type 0} (n : ℕ) where
  last_few : (xs : List A) → length xs ≤ n → last n xs ≡ xs
  last_few xs few = ap (λ k. drop k xs) (let none : length xs - n ≡ 0 = omega (arith, few) in none)

  -- one more behind the latest
  pub last_push : (xs : List A) (x : A) → last n (last n xs ++ x ∷ []) ≡ last n (xs ++ x ∷ [])
  last_push xs x =
      let kept : length (last n xs ++ x ∷ []) - n ≡ length (last n xs) + 1 - n = ap (λ k. k - n) (length-append (last n xs) (x ∷ [])) in
      let all : length (xs ++ x ∷ []) - n ≡ length xs + 1 - n = ap (λ k. k - n) (length-append xs (x ∷ [])) in
      let size : length (last n xs) ≡ length xs - (length xs - n) = length-drop (length xs - n) xs in
      let more : length xs - n + (length (last n xs) + 1 - n) ≡ length xs + 1 - n = omega (arith, size) in
      ap (λ k. drop k (last n xs ++ x ∷ [])) kept
      ∙ ap (drop (length (last n xs) + 1 - n)) (sym (drop-append-le (length xs - n) xs (x ∷ []) (omega arith)))
      ∙ drop-drop (length (last n xs) + 1 - n) (length xs - n) (xs ++ x ∷ [])
      ∙ ap (λ k. drop k (xs ++ x ∷ [])) (more ∙ sym all)

map_drop : {A B : Type 0} (f : A → B) (n : ℕ) (xs : List A) → map f (drop n xs) ≡ drop n (map f xs)
map_drop f zero xs = refl
map_drop f (suc n) [] = refl
map_drop f (suc n) (x ∷ xs) = map_drop f n xs

pub map_last : {A B : Type 0} (f : A → B) (n : ℕ) (xs : List A) → map f (last n xs) ≡ last n (map f xs)
map_last f n xs = map_drop f (length xs - n) xs ∙ ap (λ k. drop (k - n) (map f xs)) (sym (length-map xs f))

-- what is admitted next to the latest of the first ones
pub admitted : (n : ℕ) (orders : List OrderRow) (i : ℕ) (order : OrderRow) (old new : List Sold) → i < length orders → order ≡ get_or orders i order
    → old ≡ last n (map sold_of (take i orders)) → new ≡ last n (old ++ sold_of order ∷ []) → new ≡ last n (map sold_of (take (i + 1) orders))
admitted n orders i order old new within at before is =
    is
    ∙ ap (λ (l : List Sold). last n (l ++ sold_of order ∷ [])) before
    ∙ last_push n (map sold_of (take i orders)) (sold_of order)
    ∙ ap (last n) (sym (map-append sold_of (take i orders) (order ∷ [])) ∙ ap (map sold_of) (sym (take_more orders i order within ∙ ap (λ (o : OrderRow). take i orders ++ o ∷ []) (sym at))))

pub all_admitted : (n : ℕ) (orders : List OrderRow) (i : ℕ) (kept : List Sold) → length orders ≤ i → kept ≡ last n (map sold_of (take i orders)) → kept ≡ map sold_of (last n orders)
all_admitted n orders i kept all is = is ∙ ap (λ (l : List OrderRow). last n (map sold_of l)) (take_all i orders all) ∙ sym (map_last sold_of n orders)

-- sound tables have orders that windows take in
pub orders_admitted : (t : Tables) → Sound t → (size : ℕ) → length t.items ≤ size → All (IsAdmitted size) t.orders
orders_admitted t sound size longer = λ k d within. record {
  few = (sound.lines k d within).few;
  items = λ l e inside. let has = (sound.names.orders k d within).items l e inside in record { first = has.first; last = omega (arith, has.last, longer) };
}

-- the units of an item

pub units_of_lines : (item : ℕ) (lines : List LineRow) → units_in_lines item (map (λ l. (l.item, l.quantity)) lines) ≡ units_in item lines
units_of_lines item [] = refl
units_of_lines item (line ∷ lines) = one_more (line.item == item) (units_of_lines item lines)
  where
    one_more : (b : Bool) → units_in_lines item (map (λ l. (l.item, l.quantity)) lines) ≡ units_in item lines
        → sum_by (λ (l : ℕ × ℕ). l.1) (cond b ((line.item, line.quantity) ∷ filter (λ l. l.0 == item) (map (λ l. (l.item, l.quantity)) lines)) (filter (λ l. l.0 == item) (map (λ l. (l.item, l.quantity)) lines)))
        ≡ sum_by (λ (l : LineRow). l.quantity) (cond b (line ∷ filter (λ l. l.item == item) lines) (filter (λ l. l.item == item) lines))
    one_more true rest =
        sum_by-cons (λ (l : ℕ × ℕ). l.1) (line.item, line.quantity) (filter (λ l. l.0 == item) (map (λ l. (l.item, l.quantity)) lines))
        ∙ ap (λ n. line.quantity + n) rest
        ∙ sym (sum_by-cons (λ (l : LineRow). l.quantity) line (filter (λ l. l.item == item) lines))
    one_more false rest = rest

pub units_of_orders : (item : ℕ) (orders : List OrderRow) → units_in_orders item (map sold_of orders) ≡ sum_by (λ o. units_in item o.lines) orders
units_of_orders item [] = refl
units_of_orders item (order ∷ orders) =
    sum_by-cons (λ (s : Sold). units_in_lines item s.lines) (sold_of order) (map sold_of orders)
    ∙ ap (λ n. n + units_in_orders item (map sold_of orders)) (units_of_lines item order.lines)
    ∙ ap (λ n. units_in item order.lines + n) (units_of_orders item orders)
    ∙ sym (sum_by-cons (λ (o : OrderRow). units_in item o.lines) order orders)

pub sold_is : (t : Tables) (kept : List Sold) (item : ℕ) → kept ≡ map sold_of (last counted_orders t.orders) → units_in_orders item kept ≡ sold_lately t item
unfolding sold_lately
sold_is t kept item is = ap (units_in_orders item) is ∙ units_of_orders item (latest_orders t.orders)

-- lists of a function's values

pub set_next : {A B : Type 0} (f : A → B) (xs : List A) (i : ℕ) (x : A) (old new : List B) → i < length xs → x ≡ get_or xs i x → length old ≡ length xs → take i old ≡ map f (take i xs) → new ≡ set old i (f x)
    → take (i + 1) new ≡ map f (take (i + 1) xs)
set_next {A} {B} f xs i x old new within at long before is =
    ap (take (i + 1)) is
    ∙ take_more_set old i (f x) (omega (arith, long, within))
    ∙ ap (λ (l : List B). l ++ f x ∷ []) before
    ∙ sym (map-append f (take i xs) (x ∷ []))
    ∙ ap (map f) (sym (take_more xs i x within ∙ ap (λ (y : A). take i xs ++ y ∷ []) (sym at)))

pub whole : {A B : Type 0} (f : A → B) (xs : List A) (ys : List B) (i : ℕ) → length ys ≡ length xs → length xs ≤ i → take i ys ≡ map f (take i xs) → ys ≡ map f xs
whole {A} {B} f xs ys i long all are = sym (take_all i ys (omega (arith, long, all))) ∙ are ∙ ap (map f) (take_all i xs all)

-- a value at the place of its argument
pub value_at : {A B : Type 0} (f : A → B) (xs : List A) (i : ℕ) (x : A) (d : B) → slice_get xs i ≡ Some x → get_or (map f xs) i d ≡ f x
value_at f [] i x d is = absurd cc
value_at f (y ∷ ys) zero x d is = ap f cc
value_at f (y ∷ ys) (suc i) x d is = value_at f ys i x d is

-- the lists are those of any tables with the same items and orders

module _ (t u : Tables) (items : u.items ≡ t.items) (orders : u.orders ≡ t.orders) where
  sold_same : (item : ℕ) → sold_lately u item ≡ sold_lately t item
  unfolding sold_lately
  sold_same item = ap (λ (os : List OrderRow). sum_by (λ o. units_in item o.lines) (latest_orders os)) orders

  pub best_same : (subject : Subject) → best u subject ≡ best t subject
  unfolding best sold_lately
  best_same subject =
      ap (λ (is : List ItemRow). best (record t { items = is; orders = u.orders }) subject) items
      ∙ ap (λ (os : List OrderRow). best (record t { orders = os }) subject) orders

  pub newest_same : (subject : Subject) → newest u subject ≡ newest t subject
  unfolding newest
  newest_same subject = ap (λ (is : List ItemRow). newest (record t { items = is }) subject) items

  pub lists_same : (lists : Lists) → AreLists t lists → AreLists u lists
  lists_same lists are = record {
    sold_items = omega (arith, are.sold_items, ap length items);
    recent_items = omega (arith, are.recent_items, ap length items);
    sold = are.sold ∙ ap (λ (os : List OrderRow). map sold_of (last counted_orders os)) (sym orders);
    recent = are.recent ∙ ap (λ (os : List OrderRow). map sold_of (last recent_orders os)) (sym orders);
    units = record {
      subjects = are.units.subjects ∙ ap (map (λ (i : ItemRow). i.subject)) (sym items);
      units = are.units.units ∙ sym (ap (λ (f : ℕ → ℕ). map (λ (i : ItemRow). f i.id) u.items) (λ i item. sold_same item i) ∙ ap (map (λ (i : ItemRow). sold_lately t i.id)) items);
    };
    days = record {
      subjects = are.days.subjects ∙ ap (map (λ (i : ItemRow). i.subject)) (sym items);
      titles = are.days.titles ∙ ap (map (λ (i : ItemRow). i.title)) (sym items);
      days = are.days.days ∙ ap (map (λ (i : ItemRow). i.published)) (sym items);
    };
    newest_rows = are.newest_rows ∙ ap (λ (f : Subject → List ℕ). map f subjects) (λ i subject. sym (newest_same subject) i);
    best_rows = are.best_rows ∙ ap (λ (f : Subject → List ℕ). map f subjects) (λ i subject. sym (best_same subject) i);
    auths = subst (λ (os : List OrderRow). AreAuths os lists.auths) (sym orders) are.auths;
  }

-- an act that moves no list leaves items and orders as they are

enter_items : (t : Tables) (stamp draw : ℕ) (buyer : Buyer) → (tables_entered t stamp draw buyer).items ≡ t.items
enter_items t stamp draw (Returning asked) = refl
enter_items t stamp draw (Newcomer asked) = refl

enter_orders : (t : Tables) (stamp draw : ℕ) (buyer : Buyer) → (tables_entered t stamp draw buyer).orders ≡ t.orders
enter_orders t stamp draw (Returning asked) = refl
enter_orders t stamp draw (Newcomer asked) = refl

pub lists_kept : (t : Tables) (stamp : ℕ) (a : Act) (lists : Lists) → MovesNoList a → AreLists t lists → AreLists (play t stamp a).tables lists
lists_kept t stamp (act.Cart asked draw) lists nothing are = lists_same t (play t stamp (act.Cart asked draw)).tables refl refl lists are
lists_kept t stamp (act.Enter asked draw) lists nothing are =
    lists_same t (tables_entered t stamp draw asked.buyer) (enter_items t stamp draw asked.buyer) (enter_orders t stamp draw asked.buyer) lists are
lists_kept t stamp _ lists nothing are = absurd nothing
