-- The steps by which an order's coming moves the kept lists on, put together.
use Rattle.std.proofs.Common.{◌≡◌, ℕ, ◌+◌, ◌-◌, ◌≤◌, nat_lt, Bool, true, false, cond, List, [], ◌∷◌, ◌++◌, length, map, get_or, Option, Some, None, option_map, slice_get, inl, append_assoc, length-append, ap₂, refl, sym, ◌∙◌, ap, subst, arith}
use Rattle.std.specs.Prelude.{◌||◌, max, All, IfSome, bytes_eq, option_and_then}
use Rattle.std.specs.List.{list_any}
use Rattle.std.proofs.lemmas.List.{length-map}
use Rattle.std.proofs.lemmas.List.Elements.{All-weaker}
use Rattle.std.proofs.lemmas.List.Folds.{list_any-append}
use Rattle.std.proofs.lemmas.Option.{slice_get_within, get_or_from_slice_get}
use Rattle.shop_model.specs.declared.subject.Subject.{Subject}
use Rattle.shop_model.specs.declared.tables.Tables.{Tables}
use Rattle.shop_model.specs.lists.Rankings.{best, sold_lately}
use Rattle.shop_model.specs.lists.Related.{Sold, sold_of, last, units_in_orders}
use Rattle.shop_model.specs.rows.Limits.{counted_orders, recent_orders, items_limit}
use Rattle.shop_model.specs.rows.Lookups.{row_numbered}
use Rattle.shop_model.specs.rows.Rows.{ItemRow, LineRow, OrderRow}
use Rattle.shop_model.specs.rows.Sound.{Has, HasLines, OrderNames}
use Rattle.shop_model.specs.rows.Subjects.{subjects}
use Rattle.shop_model.specs.trade.Sales.{sold_item, with_order}
use Rattle.shop_history.specs.declared.keys.Key.{Key}
use Rattle.shop_history.specs.MayChange as changes
use Rattle.shop_history.specs.MayChange.{items_of}
use Rattle.shop_history.proofs.cited.Versions.{RaisedFor}
use Rattle.shop_window.specs.Windows as windows
use Rattle.shop_ranking.specs.StandingBest.{Units, AreSoldLately, standing_best}
use Rattle.shop_book.specs.declared.auths.Auths.{Auths}
use Rattle.shop_book.specs.declared.lists.Lists.{Lists}
use Rattle.shop_book.specs.declared.rows.Rows.{Rows}
use Rattle.shop_ranking.specs.StandingNewest.{AreAsPublished}
use Rattle.shop_history.proofs.SaleFrame.{new_in_stays}
use Rattle.shop_book.specs.Auths.{AreAuths, has_in}
use Rattle.shop_book.specs.KeptLists.{IsAdmitted, AreLists}
use Rattle.shop_book.specs.Sales.{IsSale, AreThere, AreRanked, IsRemembered, Bumps, Renews, subjects_in, gone_items, gone_subjects}
use Rattle.shop_book.proofs.KeptLists.{value_at}
use Rattle.shop_book.proofs.RankedSales.{units_after, lists_after, ranks_raised}
use Rattle.shop_book.proofs.WatchingLemmas.{raised_and}
use Rattle.shop_book.proofs.WindowMoves.{gone_found, window_after}

-- nothing is set yet
pub nothing_set : (sold : ℕ → ℕ) (units : Units) → Bumps sold units [] units
nothing_set sold units = record {
  subjects = refl;
  size = refl;
  each = λ place within. inl refl;
  all = λ item has there. absurd (omega (arith, has.1));
}

-- and nothing is listed anew
pub nothing_listed : (t : Tables) (lists : Lists) → AreRanked t lists → (is : Subject → List ℕ) (number : ℕ) (versions : Key → ℕ) → Renews (best t) is number [] lists.best_rows.items versions versions
nothing_listed t lists ranked is number versions = record {
  size = ap length ranked.best_rows ∙ length-map subjects (best t);
  each = λ place subject at. inl (ap (λ (rows : List (List ℕ)). get_or rows place []) ranked.best_rows ∙ value_at (best t) subjects place subject [] at, refl);
  all = λ place subject at has. absurd (omega (arith, has.1));
  others = λ k apart. refl;
}

-- what holds of a value that is referred to
pub some_mapped : {A B : Type 0} (f : A → B) (P : B → Type 0) (o : Option A) → IfSome (option_map f o) P → IfSome o (λ x. P (f x))
some_mapped f P None holds = tt
some_mapped f P (Some x) holds = holds

module _ (t : Tables) (order : OrderRow) (rows : Rows) (sale : IsSale t order rows) where
  pub admitted : (size : ℕ) → max items_limit (length t.items) ≤ size → IsAdmitted size order
  admitted size longer = record {
    few = sale.lines.few;
    items = All-weaker (λ (l : LineRow). Has (length t.items) l.item) (λ (l : LineRow). Has size l.item) (λ l has. record { first = has.first; last = omega (arith, has.last, longer) }) order.lines sale.there;
  }

  -- the order that leaves is found
  pub gone_is : (most : ℕ) (kept : List Sold) → 1 ≤ most → kept ≡ map sold_of (last most t.orders)
      → option_and_then (row_numbered rows.orders.items) (windows.leaving most kept) ≡ changes.leaving most t.orders
  gone_is most kept some is =
      ap (λ (os : List OrderRow). option_and_then (row_numbered os) (windows.leaving most kept)) sale.orders
      ∙ gone_found most t.orders order kept some sale.sound.ids.orders is

  pub found_is : (most : ℕ) (kept : List Sold) (orders : List OrderRow) (id : Option ℕ) (found : Option OrderRow) → 1 ≤ most → kept ≡ map sold_of (last most t.orders)
      → orders ≡ rows.orders.items → id ≡ windows.leaving most kept → found ≡ option_and_then (row_numbered orders) id → found ≡ changes.leaving most t.orders
  found_is most kept orders id found some is are leaves finds =
      finds ∙ ap (λ (os : List OrderRow). option_and_then (row_numbered os) id) are ∙ ap (option_and_then (row_numbered rows.orders.items)) leaves ∙ gone_is most kept some is

  -- it is one of the tables' orders
  pub gone_all : (P : OrderRow → Type 0) (most : ℕ) → All P t.orders → IfSome (changes.leaving most t.orders) P
  gone_all P most all = by (nat_lt (length t.orders) most)
    where
      at : (o : Option OrderRow) → slice_get t.orders (length t.orders - most) ≡ o → IfSome o P
      at None is = tt
      at (Some o) is = subst P (get_or_from_slice_get t.orders (length t.orders - most) o o is) (all (length t.orders - most) o (slice_get_within t.orders (length t.orders - most) o is))

      by : (b : Bool) → IfSome (cond b None (slice_get t.orders (length t.orders - most))) P
      by true = tt
      by false = at (slice_get t.orders (length t.orders - most)) refl

  pub gone_there : (most : ℕ) → IfSome (changes.leaving most t.orders) (AreThere (length t.items))
  gone_there most = gone_all (AreThere (length t.items)) most (All-weaker (OrderNames t) (AreThere (length t.items)) (λ o names. names.items) t.orders sale.sound.names.orders)

  pub items_kept : length (with_order t order).items ≡ length t.items
  items_kept = length-map t.items (sold_item order)

  pub items_size : length rows.items.items ≡ length t.items
  items_size = ap length sale.items ∙ length-map t.items (sold_item order)

  -- items that are there are among more
  pub wide : (o : OrderRow) (more : ℕ) → length rows.items.items ≤ more → AreThere (length t.items) o → AreThere more o
  wide o more longer there =
      All-weaker (λ (l : LineRow). Has (length t.items) l.item) (λ (l : LineRow). Has more l.item) (λ l has. record { first = has.first; last = omega (arith, has.last, longer, items_size) }) o.lines there

  pub wide_gone : (most more : ℕ) → length rows.items.items ≤ more → IfSome (changes.leaving most t.orders) (AreThere more)
  wide_gone most more longer =
      gone_all (AreThere more) most (All-weaker (OrderNames t) (AreThere more) (λ o names. wide o more longer names.items) t.orders sale.sound.names.orders)

  -- the order that leaves has lines, and its customer is there
  pub gone_lines : (most : ℕ) (o : OrderRow) → changes.leaving most t.orders ≡ Some o → HasLines o
  gone_lines most o is = subst (λ (gone : Option OrderRow). IfSome gone HasLines) is (gone_all HasLines most sale.sound.lines)

  pub gone_buyers : (most more : ℕ) → length rows.customers.items ≤ more → IfSome (changes.leaving most t.orders) (λ o. Has more o.customer)
  gone_buyers most more longer =
      gone_all (λ o. Has more o.customer) most
      (All-weaker (OrderNames t) (λ (o : OrderRow). Has more o.customer) (λ o names. record { first = names.customer.first; last = omega (arith, names.customer.last, longer, sale.customers) }) t.orders sale.sound.names.orders)

  pub units_size : (lists : Lists) → AreRanked t lists → length lists.best.units ≡ length t.items
  units_size lists ranked = ap length ranked.units.units ∙ length-map t.items (λ (i : ItemRow). sold_lately t i.id)

  -- the ranks, once the window has moved on, the units of the items are set and their lists are renewed

  module _ (lists : Lists) (ranked : AreRanked t lists) (kept : List Sold) (moved : kept ≡ last counted_orders (lists.sold.kept ++ sold_of order ∷ []))
      (now : Units) (bumps : (was : Units) (done : List ℕ) → Bumps (λ item. units_in_orders item kept) was done lists.best → Bumps (λ item. units_in_orders item kept) was ((done ++ items_of order) ++ gone_items (changes.leaving counted_orders t.orders)) now) where
    pub kept_is : kept ≡ map sold_of (last counted_orders (t.orders ++ order ∷ []))
    kept_is = window_after counted_orders t.orders order lists.sold.kept kept ranked.sold moved

    pub ranked_units : AreSoldLately (with_order t order) now
    ranked_units = units_after t sale.sound order lists.best now kept ranked.units kept_is (bumps lists.best [] (nothing_set (λ item. units_in_orders item kept) lists.best))

    module _ (number : ℕ) (renewed : List (List ℕ)) (old new : Key → ℕ)
        (renews : (was : Subject → List ℕ) (first : Key → ℕ) (done : List Subject) → Renews was (standing_best now) number done lists.best_rows.items first old
        → Renews was (standing_best now) number ((done ++ subjects_in rows.items.items order) ++ gone_subjects rows.items.items (changes.leaving counted_orders t.orders)) renewed first new) where
      all_renewed : Renews (best t) (standing_best now) number (subjects_in (with_order t order).items order ++ gone_subjects (with_order t order).items (changes.leaving counted_orders t.orders)) renewed old new
      all_renewed =
          subst (λ (items : List ItemRow). Renews (best t) (standing_best now) number (subjects_in items order ++ gone_subjects items (changes.leaving counted_orders t.orders)) renewed old new) sale.items
          (renews (best t) old [] (nothing_listed t lists ranked (standing_best now) number old))

      pub ranked_rows : renewed ≡ map (best (with_order t order)) subjects
      ranked_rows = lists_after t sale.sound order now ranked_units number renewed old new all_renewed

      pub ranked_raised : RaisedFor t (with_order t order) number (changes.ranks_change t (items_of order) ++ changes.unranked_changes t (changes.leaving counted_orders t.orders)) old new
      ranked_raised = ranks_raised t sale.sound order now ranked_units number renewed old new all_renewed

-- both parts together

pub are_ranked : (t : Tables) (lists : Lists) → AreLists t lists → AreRanked t lists
are_ranked t lists are = record { items = are.sold_items; sold = are.sold; units = are.units; best_rows = are.best_rows }

pub is_remembered : (t : Tables) (lists : Lists) → AreLists t lists → IsRemembered t lists
is_remembered t lists are = record { items = are.recent_items; kept = are.recent }

-- the last of the rows is the order that came
pub last_is : (t : Tables) (order : OrderRow) (rows : Rows) → IsSale t order rows → (count : ℕ) (last : OrderRow) → count ≡ length rows.orders.items → last ≡ get_or rows.orders.items (count - 1) last → last ≡ order
last_is t order rows sale count last all is =
    let size : length rows.orders.items ≡ length t.orders + 1 = ap length sale.orders ∙ length-append t.orders (order ∷ []) in
    let place : count - 1 ≡ length t.orders = omega (arith, all, size) in
    is ∙ ap (λ n. get_or rows.orders.items n last) place ∙ ap (λ (os : List OrderRow). get_or os (length t.orders) last) sale.orders ∙ at t.orders order last
  where
    at : (xs : List OrderRow) (x d : OrderRow) → get_or (xs ++ x ∷ []) (length xs) d ≡ x
    at [] x d = refl
    at (y ∷ ys) x d = at ys x d

-- an order brings its authorisation
pub auths_sold : (orders : List OrderRow) (order : OrderRow) (old new : Auths) → AreAuths orders old → ((auth : List ℕ) → has_in new auth ≡ (has_in old auth || bytes_eq order.card.auth auth)) → AreAuths (orders ++ order ∷ []) new
auths_sold orders order old new are added = λ auth.
    let here : OrderRow → Bool = λ o. bytes_eq o.card.auth auth in
    added auth
    ∙ ap (λ b. b || here order) (are auth)
    ∙ sym (list_any-append here orders (order ∷ []) ∙ ap (λ b. list_any here orders || b) (or_false (here order)))
  where
    or_false : (b : Bool) → (b || false) ≡ b
    or_false true = refl
    or_false false = refl

-- lists whose parts are those of the tables with the order; the days of publication stay
pub sold_lists : (t : Tables) (order : OrderRow) (lists moved : Lists) → AreLists t lists → AreRanked (with_order t order) moved → IsRemembered (with_order t order) moved
    → moved.newest ≡ lists.newest → moved.newest_rows.items ≡ lists.newest_rows.items → AreAuths (t.orders ++ order ∷ []) moved.auths → AreLists (with_order t order) moved
sold_lists t order lists moved are ranked remembered days rows auths = record {
  sold_items = ranked.items;
  recent_items = remembered.items;
  sold = ranked.sold;
  recent = remembered.kept;
  units = ranked.units;
  days = subst (AreAsPublished (with_order t order)) (sym days) published;
  best_rows = ranked.best_rows;
  newest_rows = rows ∙ are.newest_rows ∙ ap (λ (f : Subject → List ℕ). map f subjects) (λ i subject. sym (new_in_stays t order subject) i);
  auths = auths;
}
  where
    seen : {A : Type 0} (f : ItemRow → A) → ((i : ItemRow) → f (sold_item order i) ≡ f i) → (items : List ItemRow) → map f items ≡ map f (map (sold_item order) items)
    seen f same [] = refl
    seen f same (i ∷ items) = ap₂ (λ x xs. x ∷ xs) (sym (same i)) (seen f same items)

    published : AreAsPublished (with_order t order) lists.newest
    published = record {
      subjects = are.days.subjects ∙ seen (λ i. i.subject) (λ i. refl) t.items;
      titles = are.days.titles ∙ seen (λ i. i.title) (λ i. refl) t.items;
      days = are.days.days ∙ seen (λ i. i.published) (λ i. refl) t.items;
    }

-- and the versions that both parts raise
pub raised_both : (t : Tables) (order : OrderRow) (number : ℕ) (first mid end : Key → ℕ)
    → RaisedFor t (with_order t order) number (changes.ranks_change t (items_of order) ++ changes.unranked_changes t (changes.leaving counted_orders t.orders)) first mid
    → RaisedFor t (with_order t order) number (changes.buyers_change order.customer (items_of order) ++ changes.forgotten_changes (changes.leaving recent_orders t.orders)) mid end
    → RaisedFor t (with_order t order) number (changes.lists_change t order.customer (items_of order)) first end
raised_both t order number first mid end ranks buyers =
    let ranks_keys : List Key = changes.ranks_change t (items_of order) ++ changes.unranked_changes t (changes.leaving counted_orders t.orders) in
    let buyers_keys : List Key = changes.buyers_change order.customer (items_of order) in
    let forgotten_keys : List Key = changes.forgotten_changes (changes.leaving recent_orders t.orders) in
    subst (λ ks. RaisedFor t (with_order t order) number ks first end) (sym (append_assoc ranks_keys buyers_keys forgotten_keys))
    (raised_and t (with_order t order) number ranks_keys (buyers_keys ++ forgotten_keys) first mid end ranks buyers)
