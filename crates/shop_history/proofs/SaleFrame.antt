-- What a customer who buys a cart leaves as it was.
use Rattle.std.proofs.Common.{◌≡◌, ℕ, zero, suc, ◌+◌, ◌-◌, ◌<◌, ◌≤◌, ◌==◌, ◌||◌, Bool, true, false, eqb, List, [], ◌∷◌, ◌++◌, length, map, filter, sum_by, take, drop, get_or, All, ltb, Option, Some, None, option_map, unwrap_or, slice_get, Contains, ◌⊎◌, inl, inr, ⊎_elim, refl, sym, ◌∙◌, ap, subst, arith}
use Rattle.std.specs.List.{list_any, flat_map, find}
use Rattle.std.specs.Str.{bytes_eq}
use Rattle.std.specs.declared.cmp.Ordering.{Ordering}
use Rattle.std.proofs.lemmas.Bool.{cases_eq, eqb-true, cond-true, cond-false}
use Rattle.std.proofs.lemmas.List.{length-map}
use Rattle.std.proofs.lemmas.List.Elements.{All-nil, All-cons, All-head, All-tail, All-weaker, Contains-append_left, Contains-append_right, Contains-append_cases}
use Rattle.shop_model.proofs.cited.Lists.{id_of_place}
use Rattle.std.proofs.lemmas.Option.{slice_get-get_or}
use Rattle.std.proofs.lemmas.Slice.Eq.{bytes_eq-Decides}
use Rattle.shop_model.specs.declared.address.Address.{Address}
use Rattle.shop_model.specs.declared.address.AddressText.{AddressText}
use Rattle.shop_model.specs.declared.subject.Subject.{Subject}
use Rattle.shop_model.specs.declared.tables.Tables.{Tables}
use Rattle.shop_model.specs.asked.PurchaseAsked.{PurchaseAsked}
use Rattle.shop_model.specs.lists.Catalogues.{Naming, naming, found}
use Rattle.shop_model.specs.lists.Rankings.{put_among, in_order, newer, newest, better, Sale, best, sold_lately, in_subject}
use Rattle.shop_model.specs.lists.Related.{Sold, sold_of, has_item, is_of, ascending, totals_of, recent, buyers, bought}
use Rattle.shop_model.specs.pages.Priced.{order_lines}
use Rattle.shop_model.specs.rows.Limits.{list_limit, counted_orders, recent_orders}
use Rattle.shop_model.specs.rows.Lookups.{row_numbered, joined}
use Rattle.shop_model.specs.rows.Rows.{ItemRow, CustomerRow, CartRow, LineRow, OrderRow}
use Rattle.shop_model.specs.rows.Sound.{Sound, IsStocked, units_in}
use Rattle.shop_model.specs.declared.subject.Subject.TheVariants as subjects_of
use Rattle.shop_model.specs.rows.Subjects.{subjects, subject_name, subject_of}
use Rattle.shop_model.specs.trade.Buyers.{says_same, address_saying, addresses_with}
use Rattle.shop_model.specs.trade.Carts.{lines_named}
use Rattle.shop_model.specs.trade.Sales.{Terms, ship_addresses, new_order, sold_item, with_order, with_purchase}
use Rattle.shop_model.specs.trade.Stocks.{times_restocked}
use Rattle.shop_model.proofs.cited.Restocking.{IsRestocked, restocked}
use Rattle.shop_history.specs.MayChange.{items_of, subject_at, ranks_change, buyers_change, unranked_changes, forgotten_changes, lists_change, address_changes, ship_changes, purchase_changes, leaving}
use Rattle.shop_history.specs.declared.keys.Key.{Key}
use Rattle.shop_history.specs.declared.keys.Key as key
use Rattle.shop_history.specs.declared.keys.Row as row
use Rattle.shop_history.specs.Keys.{row_of, shown, label_of}
use Rattle.shop_history.proofs.cited.KeptTables.{map_seen}
use Rattle.shop_history.proofs.EnterFrame.{says_same_is}
use Rattle.shop_history.proofs.cited.Found.{found_pushed}
use Rattle.shop_history.proofs.WindowFrame.{window_frame, sums, passed}
use Rattle.shop_history.proofs.cited.Places.{is_there, row_there, all_numbered, id_numbered, row_set_apart, row_set_other, row_push_other}
pub use Rattle.shop_model.proofs.cited.Lookups.{numbered_map}
pub use Rattle.shop_text.proofs.cited.Lists.{contains_map}

pub by_test : {X : Type 0} (b : Bool) → (b ≡ true → X) → (b ≡ false → X) → X
by_test true passes fails = passes refl
by_test false passes fails = fails refl

-- an item that an order has, or has not

pub any_contains : (item : ℕ) (lines : List LineRow) → list_any (λ (l : ℕ × ℕ). l.0 == item) (map (λ l. (l.item, l.quantity)) lines) ≡ true → Contains (map (λ l. l.item) lines) item
any_contains item [] is = absurd cc
any_contains item (line ∷ lines) is =
    by_test (eqb line.item item)
    (λ (here : eqb line.item item ≡ true). (0, omega arith, eqb-true line.item item here))
    (λ (apart : eqb line.item item ≡ false).
    let there = any_contains item lines (rw apart at is) in (suc there.0, omega (arith, there.1), there.2))

pub none_units : (item : ℕ) (lines : List LineRow) → list_any (λ (l : ℕ × ℕ). l.0 == item) (map (λ l. (l.item, l.quantity)) lines) ≡ false → units_in item lines ≡ 0
none_units item [] is = refl
none_units item (line ∷ lines) is =
    by_test (eqb line.item item)
    (λ (here : eqb line.item item ≡ true). absurd (let not : true ≡ false = rw here at is in cc))
    (λ (apart : eqb line.item item ≡ false). rw apart (none_units item lines (rw apart at is)))

pub lines_items : (t : Tables) (number : ℕ) (lines : List (ℕ × ℕ)) → map (λ l. l.item) (order_lines t number lines) ≡ map (λ l. l.0) lines
unfolding order_lines
lines_items t number [] = refl
lines_items t number (line ∷ lines) = ap (λ items. line.0 ∷ items) (lines_items t (number + 1) lines)

-- an item of which nothing was sold
sold_same : (order : OrderRow) (i : ItemRow) → 10 ≤ i.stock → units_in i.id order.lines ≡ 0 → sold_item order i ≡ i
sold_same order i low none =
    let after : IsRestocked i.stock (units_in i.id order.lines) = restocked i.stock (units_in i.id order.lines) low in
    let same = after.none none in
    ap (λ (stock : ℕ). record i { stock = stock; restocks = i.restocks + times_restocked i.stock (units_in i.id order.lines) }) same.0
    ∙ ap (λ (restocks : ℕ). record i { restocks = restocks }) (omega (arith, same.1))

-- the lists of new items are of what no sale changes

module _ {A : Type 0} (f : A → A) where
  map_put : (order : A → A → Ordering) (x : A) (xs : List A) → ((a b : A) → order (f a) (f b) ≡ order a b) → put_among order (f x) (map f xs) ≡ map f (put_among order x xs)
  unfolding put_among
  map_put order x [] same = refl
  map_put order x (y ∷ ys) same = grind (arith, same x y, map_put order x ys same)

  map_ordered : (order : A → A → Ordering) (xs : List A) → ((a b : A) → order (f a) (f b) ≡ order a b) → in_order order (map f xs) ≡ map f (in_order order xs)
  unfolding in_order
  map_ordered order [] same = refl
  map_ordered order (x ∷ xs) same = ap (put_among order (f x)) (map_ordered order xs same) ∙ map_put order x (in_order order xs) same

  map_filter : (p : A → Bool) (xs : List A) → ((a : A) → p (f a) ≡ p a) → filter p (map f xs) ≡ map f (filter p xs)
  map_filter p [] same = refl
  map_filter p (x ∷ xs) same = grind (arith, same x, map_filter p xs same)

  map_take : (n : ℕ) (xs : List A) → take n (map f xs) ≡ map f (take n xs)
  map_take zero xs = refl
  map_take (suc n) [] = refl
  map_take (suc n) (x ∷ xs) = ap (λ ys. f x ∷ ys) (map_take n xs)

pub new_in_stays : (t : Tables) (order : OrderRow) (subject : Subject) → newest (with_order t order) subject ≡ newest t subject
unfolding newest
new_in_stays t order subject =
    let f : ItemRow → ItemRow = sold_item order in
    ap (λ (xs : List ItemRow). map (λ i. i.id) (take list_limit (in_order newer xs))) (map_filter f (λ i. bytes_eq (subject_name i.subject) (subject_name subject)) t.items (λ i. refl))
    ∙ ap (λ (xs : List ItemRow). map (λ i. i.id) (take list_limit xs)) (map_ordered f newer (in_subject subject t.items) (λ a b. refl))
    ∙ ap (map (λ i. i.id)) (map_take f list_limit (in_order newer (in_subject subject t.items)))
    ∙ map_seen (λ i. i.id) f (take list_limit (in_order newer (in_subject subject t.items))) (λ i. refl)

-- subjects of one name are one

subject_found : (subject : Subject) → subject_of (subject_name subject) ≡ Some subject
unfolding subject_of subjects subject_name
subject_found subjects_of.Arts = refl
subject_found subjects_of.Biographies = refl
subject_found subjects_of.Business = refl
subject_found subjects_of.Children = refl
subject_found subjects_of.Computers = refl
subject_found subjects_of.Cooking = refl
subject_found subjects_of.Health = refl
subject_found subjects_of.History = refl
subject_found subjects_of.Home = refl
subject_found subjects_of.Humor = refl
subject_found subjects_of.Literature = refl
subject_found subjects_of.Mystery = refl
subject_found subjects_of.NonFiction = refl
subject_found subjects_of.Parenting = refl
subject_found subjects_of.Politics = refl
subject_found subjects_of.Reference = refl
subject_found subjects_of.Religion = refl
subject_found subjects_of.Romance = refl
subject_found subjects_of.SelfHelp = refl
subject_found subjects_of.ScienceNature = refl
subject_found subjects_of.ScienceFiction = refl
subject_found subjects_of.Sports = refl
subject_found subjects_of.Youth = refl
subject_found subjects_of.Travel = refl

pub names_one : (one other : Subject) → bytes_eq (subject_name one) (subject_name other) ≡ true → one ≡ other
names_one one other same =
    let names : subject_name one ≡ subject_name other = (bytes_eq-Decides (subject_name one) (subject_name other)).0 same in
    let found : Some one ≡ Some other = sym (subject_found one) ∙ ap subject_of names ∙ subject_found other in
    cc

-- a test that one passes, or none

module _ {A : Type 0} (p : A → Bool) where
  any_found : (xs : List A) → list_any p xs ≡ true → (x : A) × Contains xs x × (p x ≡ true)
  any_found [] is = absurd cc
  any_found (y ∷ ys) is =
      by_test (p y)
      (λ (here : p y ≡ true). (y, (0, omega arith, refl), here))
      (λ (apart : p y ≡ false).
      let there = any_found ys (rw apart at is) in
      (there.0, (suc there.1.0, omega (arith, there.1.1), there.1.2), there.2))

  any_true : (xs : List A) (x : A) → Contains xs x → p x ≡ true → list_any p xs ≡ true
  any_true [] x has passes = absurd (omega (arith, has.1))
  any_true (y ∷ ys) x has passes = by has.0 has.1 has.2 (any_true ys x)
    where
      or_true : (b c : Bool) → c ≡ true → (b || c) ≡ true
      or_true true c is = refl
      or_true false c is = is

      by : (k : ℕ) → k < suc (length ys) → get_or (y ∷ ys) k x ≡ x → (Contains ys x → p x ≡ true → list_any p ys ≡ true) → (p y || list_any p ys) ≡ true
      by zero lt is behind = ap (λ b. b || list_any p ys) (ap p is ∙ passes)
      by (suc k) lt is behind = or_true (p y) (list_any p ys) (behind (k, omega (arith, lt), is) passes)

-- what all of some rows have, those that pass a test have
filter_all : {A : Type 0} (P : A → Type 0) (p : A → Bool) (xs : List A) → All (λ x. p x ≡ true → P x) xs → All P (filter p xs)
filter_all P p [] all = All-nil P
filter_all {A} P p (x ∷ xs) all =
    let rest : All P (filter p xs) = filter_all P p xs (All-tail (λ (x : A). p x ≡ true → P x) x xs all) in
    let here : p x ≡ true → P x = All-head (λ (x : A). p x ≡ true → P x) x xs all in
    by_test (p x)
    (λ (passes : p x ≡ true). subst (All P) (sym (cond-true (p x) (x ∷ filter p xs) (filter p xs) passes)) (All-cons P x (filter p xs) (here passes) rest))
    (λ (fails : p x ≡ false). subst (All P) (sym (cond-false (p x) (x ∷ filter p xs) (filter p xs) fails)) rest)

map_alike : {A B : Type 0} (f : A → A) (g h : A → B) (xs : List A) → All (λ x. g (f x) ≡ h x) xs → map g (map f xs) ≡ map h xs
map_alike f g h [] all = refl
map_alike {A} f g h (x ∷ xs) all =
    rw (All-head (λ (x : A). g (f x) ≡ h x) x xs all, map_alike f g h xs (All-tail (λ (x : A). g (f x) ≡ h x) x xs all)) refl

-- the best sold items of a subject, of whose items as many were sold lately
best_stays : (t : Tables) (order : OrderRow) (subject : Subject) → All (λ i. sold_lately (with_order t order) i.id ≡ sold_lately t i.id) (in_subject subject t.items)
    → best (with_order t order) subject ≡ best t subject
unfolding best
best_stays t order subject same =
    let f : ItemRow → ItemRow = sold_item order in
    let sale : Tables → ItemRow → Sale = λ u i. record { id = i.id; units = sold_lately u i.id } in
    ap (λ (xs : List ItemRow). map (λ s. s.id) (take list_limit (in_order better (filter (λ s. ltb 0 s.units) (map (sale (with_order t order)) xs)))))
    (map_filter f (λ i. bytes_eq (subject_name i.subject) (subject_name subject)) t.items (λ i. refl))
    ∙ ap (λ (xs : List Sale). map (λ s. s.id) (take list_limit (in_order better (filter (λ s. ltb 0 s.units) xs))))
    (map_alike f (sale (with_order t order)) (sale t) (in_subject subject t.items)
    (All-weaker (λ i. sold_lately (with_order t order) i.id ≡ sold_lately t i.id) (λ (i : ItemRow). sale (with_order t order) (f i) ≡ sale t i)
    (λ i is. ap (λ units. record { id = i.id; units = units }) is) (in_subject subject t.items) same))

module _ (t : Tables) where
  -- an item stands at its id
  item_there : Sound t → All (λ i. row_numbered t.items i.id ≡ Some i) t.items
  item_there sound k d within =
      let i : ItemRow = get_or t.items k d in
      let id : i.id ≡ 1 + k = id_of_place (λ (i : ItemRow). i.id) t.items k d sound.ids.items within in
      let before : i.id - 1 ≡ k = omega (arith, id) in
      row_there t.items i.id i (record { above = omega (arith, id); at = ap (slice_get t.items) before ∙ slice_get-get_or t.items k d within })

  -- an order's items have this subject, or of none of the subject's it has units
  order_ranks : (o : OrderRow) (subject : Subject)
      → Contains (ranks_change t (items_of o)) (key.TheVariants.BestIn subject) ⊎ ((i : ItemRow) → row_numbered t.items i.id ≡ Some i → i.subject ≡ subject → units_in i.id o.lines ≡ 0)
  order_ranks o subject =
      let test : ℕ → Bool = λ item. bytes_eq (subject_name (subject_at t item)) (subject_name subject) in
      by_test (list_any test (items_of o))
      (λ (some : list_any test (items_of o) ≡ true).
      let found = any_found test (items_of o) some in
      let is : subject_at t found.0 ≡ subject = names_one (subject_at t found.0) subject found.2 in
      inl (subst (λ s. Contains (ranks_change t (items_of o)) (key.TheVariants.BestIn s)) is (contains_map (λ (item : ℕ). key.TheVariants.BestIn (subject_at t item)) (items_of o) found.0 found.1)))
      (λ (none : list_any test (items_of o) ≡ false).
      inr (λ i there is.
      by_test (has_item i.id (sold_of o))
      (λ (has : has_item i.id (sold_of o) ≡ true).
      let of : subject_at t i.id ≡ subject = ap (λ (r : Option ItemRow). unwrap_or (option_map (λ i. i.subject) r) subjects_of.Arts) there ∙ is in
      let passes : test i.id ≡ true = (bytes_eq-Decides (subject_name (subject_at t i.id)) (subject_name subject)).1 (ap subject_name of) in
      let any : list_any test (items_of o) ≡ true = any_true test (items_of o) i.id (any_contains i.id o.lines has) passes in
      absurd (let not : true ≡ false = sym any ∙ none in cc))
      (λ (without : has_item i.id (sold_of o) ≡ false). none_units i.id o.lines without)))

module _ (t : Tables) (sound : Sound t) (order : OrderRow) where
  -- an item of a subject, and how many units of it an order has
  abbrev Of : Subject → Type 0
  Of subject = (i : ItemRow) × (row_numbered t.items i.id ≡ Some i) × (i.subject ≡ subject)

  abbrev units_of : {subject : Subject} → Of subject → OrderRow → ℕ
  units_of i o = units_in i.0.id o.lines

  -- those of a subject change only where something of it comes or leaves
  pub ranks_frame : (subject : Subject)
      → (Contains (ranks_change t (items_of order)) (key.TheVariants.BestIn subject) ⊎ Contains (unranked_changes t (leaving counted_orders t.orders)) (key.TheVariants.BestIn subject))
      ⊎ (best (with_order t order) subject ≡ best t subject)
  unfolding sold_lately
  ranks_frame subject =
      ⊎_elim
      (λ has. inl (Contains-append_cases (ranks_change t (items_of order)) (unranked_changes t (leaving counted_orders t.orders)) (key.TheVariants.BestIn subject) has))
      (λ same.
      inr (best_stays t order subject
      (filter_all (λ (i : ItemRow). sold_lately (with_order t order) i.id ≡ sold_lately t i.id) (λ i. bytes_eq (subject_name i.subject) (subject_name subject)) t.items
      (λ k d within passes.
      let i : ItemRow = get_or t.items k d in
      same (i, item_there t sound k d within, names_one i.subject subject passes)))))
      (window_frame 0 (λ a b. a + b) (λ (i : Of subject). sum_by (units_of i)) (λ i. sums (units_of i)) (λ o. ranks_change t (items_of o)) (key.TheVariants.BestIn subject)
      (λ o. ⊎_elim (λ has. inl has) (λ none. inr (λ i. omega (arith, none i.0 i.1 i.2))) (order_ranks t o subject)) counted_orders t.orders order (omega arith))

-- where an order ships to

module _ (t : Tables) where
  address_frame : (address : Option AddressText) (id : ℕ)
      → Contains (ship_changes t address) (key.TheVariants.Address id) ⊎ (row_numbered (ship_addresses t address) id ≡ row_numbered t.addresses id)
  address_frame None id = inr refl
  address_frame (Some text) id = by (address_saying t text)
    where
      by : (same : Option Address) → Contains (address_changes t text same) (key.TheVariants.Address id) ⊎ (row_numbered (addresses_with t.addresses text same) id ≡ row_numbered t.addresses id)
      by (Some same) = inr refl
      by None =
          ⊎_elim
          (λ (is : id ≡ length t.addresses + 1). inl (0, omega arith, ap key.TheVariants.Address (sym is)))
          (λ (apart : id ≡ length t.addresses + 1 → ⊥). inr (row_push_other t.addresses id (record { id = length t.addresses + 1; text = text }) apart))
          (cases_eq id (length t.addresses + 1))

  same_frame : (address : Option AddressText) (said : AddressText)
      → Contains (ship_changes t address) (key.TheVariants.SameAddress said) ⊎ (find (λ (a : Address). says_same a.text said) (ship_addresses t address) ≡ find (λ (a : Address). says_same a.text said) t.addresses)
  same_frame None said = inr refl
  same_frame (Some text) said = by (address_saying t text)
    where
      p : Address → Bool
      p = λ a. says_same a.text said

      by : (same : Option Address) → Contains (address_changes t text same) (key.TheVariants.SameAddress said) ⊎ (find p (addresses_with t.addresses text same) ≡ find p t.addresses)
      by (Some same) = inr refl
      by None =
          let new : Address = record { id = length t.addresses + 1; text = text } in
          by_test (says_same text said)
          (λ (same : says_same text said ≡ true). inl (1, omega arith, ap key.TheVariants.SameAddress (says_same_is text said same)))
          (λ (other : says_same text said ≡ false). inr (found_pushed p t.addresses new (find p t.addresses) refl (λ none passes. absurd (let not : true ≡ false = sym passes ∙ other in cc))))

module _ (t : Tables) (sound : Sound t) (asked : PurchaseAsked) (stamp draw : ℕ) (terms : Terms) (customer : CustomerRow) (cart : CartRow)
    (buys : row_numbered t.customers asked.c ≡ Some customer) (basket : row_numbered t.carts asked.cart ≡ Some cart) where
  abbrev order : OrderRow
  order = new_order t stamp draw terms asked customer

  abbrev items : List ℕ
  items = map (λ l. l.0) (unwrap_or (lines_named t.carts (Some asked.cart)) [])

  items_are : items_of order ≡ items
  items_are = lines_items t 1 (unwrap_or (lines_named t.carts (Some asked.cart)) [])

  buyer_is : customer.id ≡ asked.c
  buyer_is = id_numbered (λ (c : CustomerRow). c.id) t.customers asked.c customer sound.ids.customers buys

  -- the keys that it changes, in parts

  abbrev first : List Key
  first = key.TheVariants.Cart asked.cart ∷ key.TheVariants.Order (length t.orders + 1) ∷ key.TheVariants.LastOrder asked.c ∷ []

  abbrev ship : List Key
  ship = ship_changes t asked.address

  abbrev lists : List Key
  lists = lists_change t asked.c items

  abbrev unranked : List Key
  unranked = unranked_changes t (leaving counted_orders t.orders)

  abbrev forgotten : List Key
  forgotten = forgotten_changes (leaving recent_orders t.orders)

  in_items : (item : ℕ) → Contains items item → Contains (purchase_changes t asked) (key.TheVariants.Item item)
  in_items item has =
      Contains-append_right first (map key.TheVariants.Item items ++ ship ++ lists) (key.TheVariants.Item item)
      (Contains-append_left (map key.TheVariants.Item items ++ ship) lists (key.TheVariants.Item item)
      (Contains-append_left (map key.TheVariants.Item items) ship (key.TheVariants.Item item) (contains_map key.TheVariants.Item items item has)))

  in_ship : (k : Key) → Contains ship k → Contains (purchase_changes t asked) k
  in_ship k has =
      Contains-append_right first (map key.TheVariants.Item items ++ ship ++ lists) k
      (Contains-append_left (map key.TheVariants.Item items ++ ship) lists k (Contains-append_right (map key.TheVariants.Item items) ship k has))

  in_lists : (k : Key) → Contains lists k → Contains (purchase_changes t asked) k
  in_lists k has =
      Contains-append_right first (map key.TheVariants.Item items ++ ship ++ lists) k
      (Contains-append_right (map key.TheVariants.Item items ++ ship) lists k has)

  -- lists are those of the subjects, of those that leave, of who buys, and of those who are forgotten

  in_ranks : (k : Key) → Contains (ranks_change t items) k → Contains (purchase_changes t asked) k
  in_ranks k has =
      in_lists k
      (Contains-append_left (ranks_change t items ++ unranked ++ buyers_change asked.c items) forgotten k
      (Contains-append_left (ranks_change t items ++ unranked) (buyers_change asked.c items) k (Contains-append_left (ranks_change t items) unranked k has)))

  in_unranked : (k : Key) → Contains unranked k → Contains (purchase_changes t asked) k
  in_unranked k has =
      in_lists k
      (Contains-append_left (ranks_change t items ++ unranked ++ buyers_change asked.c items) forgotten k
      (Contains-append_left (ranks_change t items ++ unranked) (buyers_change asked.c items) k (Contains-append_right (ranks_change t items) unranked k has)))

  in_buyers : (k : Key) → Contains (buyers_change asked.c items) k → Contains (purchase_changes t asked) k
  in_buyers k has =
      in_lists k
      (Contains-append_left (ranks_change t items ++ unranked ++ buyers_change asked.c items) forgotten k
      (Contains-append_right (ranks_change t items ++ unranked) (buyers_change asked.c items) k has))

  in_forgotten : (k : Key) → Contains forgotten k → Contains (purchase_changes t asked) k
  in_forgotten k has = in_lists k (Contains-append_right (ranks_change t items ++ unranked ++ buyers_change asked.c items) forgotten k has)

  -- an item of which nothing is sold, and how items are named

  item_same : (id : ℕ) (o : Option ItemRow) → row_numbered t.items id ≡ o → units_in id order.lines ≡ 0 → option_map (sold_item order) o ≡ o
  item_same id None is none = refl
  item_same id (Some i) is none =
      let same : i.id ≡ id = id_numbered (λ (i : ItemRow). i.id) t.items id i sound.ids.items is in
      ap Some (sold_same order i (all_numbered (IsStocked t) t.items id i is sound.stock).low (ap (λ n. units_in n order.lines) same ∙ none))

  label_same : (o : Option ItemRow) → shown (λ i. row.TheVariants.Label (label_of t i)) (option_map (sold_item order) o) ≡ shown (λ i. row.TheVariants.Label (label_of t i)) o
  label_same None = refl
  label_same (Some i) = refl

  best_frame : (subject : Subject) → Contains (purchase_changes t asked) (key.TheVariants.BestIn subject) ⊎ (best (with_order t order) subject ≡ best t subject)
  best_frame subject =
      ⊎_elim
      (λ changes.
      inl (⊎_elim
      (λ here. in_ranks (key.TheVariants.BestIn subject) (subst (λ xs. Contains (ranks_change t xs) (key.TheVariants.BestIn subject)) items_are here))
      (λ there. in_unranked (key.TheVariants.BestIn subject) there)
      changes))
      (λ same. inr same)
      (ranks_frame t sound order subject)

  -- who bought an item lately, and what a customer did

  -- orders that pass a test stay, unless the key is one of who buys or of who is forgotten
  recent_frame : (p : Sold → Bool) (k : Key) → ((o : OrderRow) → p (sold_of o) ≡ true → Contains (buyers_change o.customer (items_of o)) k)
      → Contains (purchase_changes t asked) k ⊎ (filter p (recent (with_order t order)) ≡ filter p (recent t))
  recent_frame p k changes =
      ⊎_elim
      (λ has. inl (⊎_elim
      (λ here. in_buyers k (subst (λ xs. Contains xs k) (ap (λ c. buyers_change c (items_of order)) buyer_is ∙ ap (buyers_change asked.c) items_are) here))
      (λ there. in_forgotten k there)
      (Contains-append_cases (buyers_change customer.id (items_of order)) forgotten k has)))
      (λ same. inr (same tt))
      (window_frame [] (λ xs ys. xs ++ ys) (λ (_ : Unit {0}) os. filter p (map sold_of os)) (λ _. passed sold_of p) (λ o. buyers_change o.customer (items_of o)) k
      (λ o. by_test (p (sold_of o)) (λ passes. inl (changes o passes)) (λ fails. inr (λ _. cond-false (p (sold_of o)) (sold_of o ∷ []) [] fails))) recent_orders t.orders order (omega arith))

  buyers_frame : (item : ℕ) → Contains (purchase_changes t asked) (key.TheVariants.Buyers item) ⊎ (buyers (with_order t order) item ≡ buyers t item)
  buyers_frame item =
      ⊎_elim (λ here. inl here) (λ same. inr (ap (λ (xs : List Sold). ascending (map (λ o. o.customer) xs)) same))
      (recent_frame (has_item item) (key.TheVariants.Buyers item)
      (λ o has. Contains-append_right (key.TheVariants.Bought o.customer ∷ []) (map key.TheVariants.Buyers (items_of o)) (key.TheVariants.Buyers item) (contains_map key.TheVariants.Buyers (items_of o) item (any_contains item o.lines has))))

  bought_frame : (c : ℕ) → Contains (purchase_changes t asked) (key.TheVariants.Bought c) ⊎ (bought (with_order t order) c ≡ bought t c)
  bought_frame c =
      ⊎_elim (λ here. inl here) (λ same. inr (ap (λ (xs : List Sold). totals_of (flat_map (λ o. o.lines) xs)) same))
      (recent_frame (is_of c) (key.TheVariants.Bought c) (λ o has. (0, omega arith, ap key.TheVariants.Bought (eqb-true o.customer c has))))

  above : 0 < customer.id
  above = omega (arith, buyer_is, (is_there t.customers asked.c customer buys).above)

  -- what a key shows after a purchase, unless it may change it
  pub purchase_frame : (k : Key) → Contains (purchase_changes t asked) k ⊎ (row_of (with_purchase t asked order) k ≡ row_of t k)
  unfolding newest best sold_lately
  purchase_frame (key.TheVariants.Item id) =
      by_test (has_item id (sold_of order))
      (λ (has : has_item id (sold_of order) ≡ true). inl (in_items id (subst (λ xs. Contains xs id) items_are (any_contains id order.lines has))))
      (λ (without : has_item id (sold_of order) ≡ false).
      inr (ap (shown row.TheVariants.Item) (numbered_map (sold_item order) t.items id ∙ item_same id (row_numbered t.items id) refl (none_units id order.lines without))))
  purchase_frame (key.TheVariants.Label id) =
      inr (ap (shown (λ i. row.TheVariants.Label (label_of t i))) (numbered_map (sold_item order) t.items id) ∙ label_same (row_numbered t.items id))
  purchase_frame (key.TheVariants.Cart id) =
      ⊎_elim
      (λ (same : id ≡ asked.cart). inl (0, omega arith, ap key.TheVariants.Cart (sym same)))
      (λ (apart : id ≡ asked.cart → ⊥). inr (ap (shown row.TheVariants.Cart) (row_set_other t.carts asked.cart id cart (record { id = asked.cart; lines = [] }) basket apart)))
      (cases_eq id asked.cart)
  purchase_frame (key.TheVariants.NewIn subject) = inr (ap row.TheVariants.Items (new_in_stays t order subject))
  purchase_frame (key.TheVariants.BestIn subject) = ⊎_elim (λ here. inl here) (λ same. inr (ap row.TheVariants.Items same)) (best_frame subject)
  purchase_frame (key.TheVariants.Buyers item) = ⊎_elim (λ here. inl here) (λ same. inr (ap row.TheVariants.Customers same)) (buyers_frame item)
  purchase_frame (key.TheVariants.Bought c) = ⊎_elim (λ here. inl here) (λ same. inr (ap row.TheVariants.Totals same)) (bought_frame c)
  purchase_frame (key.TheVariants.Address id) =
      ⊎_elim
      (λ here. inl (in_ship (key.TheVariants.Address id) here))
      (λ same. inr (ap (shown row.TheVariants.Address) same))
      (address_frame t asked.address id)
  purchase_frame (key.TheVariants.SameAddress said) =
      ⊎_elim
      (λ here. inl (in_ship (key.TheVariants.SameAddress said) here))
      (λ same. inr (ap (λ (o : Option Address). shown row.TheVariants.Id (option_map (λ a. a.id) o)) same))
      (same_frame t asked.address said)
  purchase_frame (key.TheVariants.Order id) =
      ⊎_elim
      (λ (same : id ≡ length t.orders + 1). inl (1, omega arith, ap key.TheVariants.Order (sym same)))
      (λ (apart : id ≡ length t.orders + 1 → ⊥). inr (ap (shown row.TheVariants.Order) (row_push_other t.orders id order apart)))
      (cases_eq id (length t.orders + 1))
  purchase_frame (key.TheVariants.LastOrder id) =
      ⊎_elim
      (λ (same : id ≡ asked.c). inl (2, omega arith, ap key.TheVariants.LastOrder (sym same)))
      (λ (apart : id ≡ asked.c → ⊥).
      inr (ap (λ (o : Option (Option ℕ)). shown row.TheVariants.Id (joined o)) (row_set_apart t.last customer.id id (Some order.id) above (λ same. apart (same ∙ buyer_is)))))
      (cases_eq id asked.c)
  purchase_frame key.TheVariants.Count = inr (ap row.TheVariants.Number (length-map t.items (sold_item order)))
  purchase_frame (key.TheVariants.Added search) =
      inr (ap (λ (names : List Naming). row.TheVariants.Items (found (record { items = drop t.born_items names; authors = t.authors }) search.kind search.text))
      (map_seen naming (sold_item order) t.items (λ i. refl)))
  purchase_frame _ = inr refl
