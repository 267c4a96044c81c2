-- A change whose writes were made: what the plan of its act tells of the lists and of the versions.
use Rattle.std.proofs.Common.{◌≡◌, ◌≢◌, ℕ, ◌+◌, ◌<◌, nat_lt, true, false, List, [], ◌∷◌, get_or, length, Option, Some, inl, refl, sym, ◌∙◌, ap, subst, arith}
use Rattle.std.specs.Global.{Global}
use Rattle.std.specs.Prelude.{if◌then◌else◌, All, None, Vec}
use Rattle.shop_model.specs.declared.tables.Tables.{Tables}
use Rattle.shop_model.specs.asked.AddAsked.{AddAsked}
use Rattle.shop_model.specs.asked.AdminAsked.{AdminAsked}
use Rattle.shop_model.specs.declared.author.Author.{Author}
use Rattle.shop_model.specs.lists.Catalogues.{Naming, naming}
use Rattle.shop_model.specs.rows.Limits.{items_limit}
use Rattle.shop_model.specs.trade.Adding.{check_author, check_room, tables_added}
use Rattle.shop_model.specs.trade.Carts.{first_of}
use Rattle.shop_model.specs.asked.PurchaseAsked.{PurchaseAsked}
use Rattle.shop_model.specs.declared.refusal.Refusal.TheVariants.{NoItem, FullShop}
use Rattle.shop_model.specs.rows.Lookups.{row_numbered}
use Rattle.shop_model.specs.rows.Rows.{ItemRow, OrderRow}
use Rattle.shop_model.specs.rows.Sound.{Sound}
use Rattle.shop_model.specs.pages.Show.{check, check_there}
use Rattle.shop_model.specs.trade.Mending.{tables_mended}
use Rattle.shop_model.specs.trade.Sales.{Terms, check_purchase, new_order, with_order, with_purchase, tables_bought}
use Rattle.shop_history.specs.declared.acts.Act.{Act}
use Rattle.shop_history.specs.declared.acts.Act.TheVariants as act
use Rattle.shop_history.specs.declared.keys.Key.{Key}
use Rattle.shop_history.specs.declared.keys.Key.TheVariants as key
use Rattle.shop_history.specs.declared.keys.Row.{Row}
use Rattle.shop_history.specs.Acts.{request_of}
use Rattle.shop_history.specs.MayChange.{MayChange, may_change, lists_change, items_of, purchase_changes, subject_at}
use Rattle.shop_history.proofs.cited.MayChange.{Buys, who_buys}
use Rattle.shop_history.proofs.cited.Versions.{RaisedFor, RaisedWhere}
use Rattle.shop_book.specs.declared.addition.Addition.{Addition}
use Rattle.shop_book.specs.declared.lists.Lists.{Lists}
use Rattle.shop_book.specs.declared.plan.Plan.{Plan}
use Rattle.shop_book.specs.declared.plan.Plan.TheVariants.{One, Compare, Sell, Mend, Add}
use Rattle.shop_book.specs.declared.rows.Rows.{Rows}
use Rattle.shop_book.specs.declared.versions.Versions.{Versions}
use Rattle.shop_book.specs.declared.watching.Watched.{Watched}
use Rattle.shop_book.specs.Adding.{IsAdded}
use Rattle.shop_book.specs.Additions.{AddedItems, AreAdded, with_addition}
use Rattle.shop_book.specs.Changing.{after, IsChange, IsDone, AreWatchable, RaisesAll}
use Rattle.shop_book.specs.KeptLists.{AreLists}
use Rattle.shop_book.specs.Mending.{IsMended}
use Rattle.shop_book.specs.Named.{AreNamed}
use Rattle.shop_book.specs.Planning.{certain_changes, IsAddition, IsCompared, IsPlanOf, MovesNoList}
use Rattle.shop_book.specs.declared.puts.Put.{Put}
use Rattle.shop_book.specs.Puts.{all_put}
use Rattle.shop_book.specs.RowsNow.{tables_with}
use Rattle.shop_book.specs.Sales.{IsSale}
use Rattle.shop_book.specs.Stored.{stored, HasPlace, HasPlaces}
use Rattle.shop_book.specs.Watching.{keys_of, AreOf, CanWatch, IsWatchable, RaisesOne}
use Rattle.shop_book.proofs.AddedItems as adding
use Rattle.shop_book.proofs.AddedItems.{AddsNone, added_kept, taken_are}
use Rattle.shop_book.proofs.AddedLists.{items_size}
use Rattle.shop_book.proofs.Ascending.{by_test}
use Rattle.shop_book.proofs.ChangesLemmas.{sound_named, rows_again}
use Rattle.shop_book.proofs.KeptLists.{lists_kept}
use Rattle.shop_history.specs.Keys.{row_of}
use Rattle.shop_book.proofs.Placed.{place_shown}
use Rattle.shop_book.proofs.WatchingLemmas.{raised_and, raised_more}
use Rattle.shop_book.proofs.SaleChanges.{purchase_raised, lists_bought, is_sale, certain_places}

-- some change was done
abbrev pub SomeDone : Rows → Lists → Plan → Type 0
SomeDone rows lists plan = (t : Tables) × (a : Act) × (stamp : ℕ) × IsDone t a stamp rows lists plan

pub named_done : (rows : Rows) (lists : Lists) (plan : Plan) → SomeDone rows lists plan → AreNamed rows.customers.items
named_done rows lists plan done =
    subst AreNamed (sym (ap (λ (u : Tables). u.customers) done.3.rows_are)) (sound_named (after done.0 done.2 done.1) done.3.sound_after)

-- a change is done once its writes were made
pub done_of : (t : Tables) (a : Act) (rows : Rows) (lists : Lists) (plan : Plan) (stamp : ℕ) (puts : List Put) (later : Rows) → IsChange t a rows lists plan stamp puts
    → tables_with t later ≡ all_put (tables_with t rows) stamp puts → IsDone t a stamp later lists plan
done_of t a rows lists plan stamp puts later change made = record {
  rows_are = made ∙ ap (λ (u : Tables). all_put u stamp puts) change.rows_are ∙ change.made;
  lists_are = change.lists_are;
  sound = change.sound;
  passes = change.passes;
  plan_is = change.plan_is;
  sound_after = change.sound_after;
}

-- an act that administers this item, whose key showed this row
pub record Mending (t : Tables) (a : Act) (item : ℕ) (row : Row) : Type 0 where
  pub asked : AdminAsked
  pub does : a ≡ act.Admin asked
  pub asks : item ≡ asked.item
  pub row_is : row ≡ row_of t (key.Item item)

mending : (t : Tables) (a : Act) (item : ℕ) (row : Row) → IsPlanOf t a (Mend item row) → Mending t a item row
mending t (act.Admin asked) item row planned = record { asked = asked; does = refl; asks = planned.0; row_is = planned.1 }
mending t _ item row planned = absurd planned

-- watched keys have places where they showed rows
pub watchable_done : (t : Tables) (a : Act) (rows : Rows) (lists : Lists) (plan : Plan) (stamp : ℕ) (puts : List Put) → IsChange t a rows lists plan stamp puts
    → (v : Versions) → HasPlaces v rows → AreWatchable v plan
watchable_done t a rows lists plan stamp puts change v places = by plan refl
  where
    watchable : (kept : Watched) → IsWatchable kept.key → kept.row ≡ row_of t kept.key → CanWatch v kept
    watchable kept kind was = record {
      kind = kind;
      place = λ some. place_shown v rows t kept.key kind places (λ absent. some (was ∙ sym (ap (λ (u : Tables). row_of u kept.key) change.rows_are) ∙ absent));
    }

    by : (p : Plan) → plan ≡ p → AreWatchable v p
    by (Sell keys) is = tt
    by (Add addition) is = tt
    by (Mend item row) is =
        let mends : Mending t a item row = mending t a item row (subst (IsPlanOf t a) is change.plan_is) in
        watchable (record { key = key.Item item; row = row }) tt mends.row_is
    by (One watched) is =
        let compared : IsCompared t a (watched ∷ []) = subst (IsPlanOf t a) is change.plan_is in
        watchable watched (compared.kinds 0 watched (omega arith)) (compared.rows 0 watched (omega arith))
    by (Compare watched) is =
        let compared : IsCompared t a watched.items = subst (IsPlanOf t a) is change.plan_is in
        λ k d within. watchable (get_or watched.items k d) (compared.kinds k d within) (compared.rows k d within)

-- where nothing is added, an act changes the keys of a list
listed : (t : Tables) (a : Act) → AddsNone a → (u : Tables) (number : ℕ) (old new : Key → ℕ) → RaisedFor t u number (may_change t a) old new → RaisedWhere t u number (MayChange t a) old new
listed t (act.Cart asked draw) none u number old new raised = record { each = raised.each; all = raised.all }
listed t (act.Enter asked draw) none u number old new raised = record { each = raised.each; all = raised.all }
listed t (act.Confirm asked draw auth tax) none u number old new raised = record { each = raised.each; all = raised.all }
listed t (act.Admin asked) none u number old new raised = record { each = raised.each; all = raised.all }
listed t (act.Add asked) none u number old new raised = absurd none

still_none : (a : Act) → MovesNoList a → AddsNone a
still_none (act.Cart asked draw) still = tt
still_none (act.Enter asked draw) still = tt
still_none _ still = absurd still

-- an act whose keys were compared

module _ (t : Tables) (a : Act) (stamp : ℕ) (rows : Rows) (lists : Lists) (plan : Plan) (done : IsDone t a stamp rows lists plan) (watched : List Watched) (compared : IsCompared t a watched) where
  pub compared_lists : AreLists (after t stamp a) lists
  compared_lists = lists_kept t stamp a lists compared.still done.lists_are

  pub compared_added : (kept : AddedItems) → AreAdded t kept → AreAdded (after t stamp a) kept
  compared_added = added_kept t stamp a done.sound (still_none a compared.still)

  pub compared_raised : (number : ℕ) (old new : Key → ℕ) → ((before u : Tables) → AreOf before watched → RaisedFor before (tables_with u rows) number (keys_of watched) old new)
      → RaisedWhere t (after t stamp a) number (MayChange t a) old new
  compared_raised number old new raised =
      listed t a (still_none a compared.still) (after t stamp a) number old new
      (subst (λ (ks : List Key). RaisedFor t (after t stamp a) number ks old new) compared.keys
      (subst (λ (u : Tables). RaisedFor t u number (keys_of watched) old new) (rows_again t (after t stamp a) rows done.rows_are) (raised t (after t stamp a) compared.rows)))

-- a purchase

pub record Selling (t : Tables) (a : Act) (keys : List Key) : Type 0 where
  pub asked : PurchaseAsked
  pub draw : ℕ
  pub terms : Terms
  pub does : a ≡ act.Confirm asked draw terms.auth terms.tax
  pub keys_are : keys ≡ certain_changes t asked

selling : (t : Tables) (a : Act) (keys : Vec Key Global) → IsPlanOf t a (Sell keys) → Selling t a keys.items
selling t (act.Confirm asked draw auth tax) keys planned = record { asked = asked; draw = draw; terms = record { auth = auth; tax = tax }; does = refl; keys_are = planned }
selling t _ keys planned = absurd planned

module _ (t : Tables) (a : Act) (stamp : ℕ) (rows : Rows) (lists : Lists) (plan : Plan) (keys : Vec Key Global) (same : plan ≡ Sell keys) (done : IsDone t a stamp rows lists plan) where
  sells : Selling t a keys.items
  sells = selling t a keys (subst (IsPlanOf t a) same done.plan_is)

  passes : check_purchase t sells.asked ≡ None
  passes = subst (λ (b : Act). check t (request_of b) ≡ None) sells.does done.passes

  who : Buys t sells.asked
  who = who_buys t sells.asked passes

  abbrev order : OrderRow
  order = new_order t stamp sells.draw sells.terms sells.asked who.customer

  -- the tables after it
  after_is : after t stamp a ≡ with_purchase t sells.asked order
  after_is = ap (after t stamp) sells.does ∙ ap (tables_bought t stamp sells.draw sells.terms sells.asked) who.buys

  after_sound : Sound (with_purchase t sells.asked order)
  after_sound = subst Sound after_is done.sound_after

  rows_are : tables_with (with_purchase t sells.asked order) rows ≡ with_purchase t sells.asked order
  rows_are = rows_again t (with_purchase t sells.asked order) rows (done.rows_are ∙ after_is)

  sale : IsSale t order rows
  sale = is_sale t done.sound sells.asked stamp sells.draw sells.terms who.customer who.cart who.buys who.bought who.some after_sound rows rows_are

  pub sale_done : (u : Tables) × (o : OrderRow) × IsSale u o rows × AreLists u lists
  sale_done = (t, order, sale, done.lists_are)

  pub places_done : (v : Versions) → HasPlaces v rows → All (HasPlace v) keys.items
  places_done v places =
      subst (All (HasPlace v)) (sym sells.keys_are)
      (certain_places t done.sound sells.asked stamp sells.draw sells.terms who.customer who.cart who.buys who.bought who.some after_sound rows rows_are v places)

  pub lists_done : (moved : Lists) → ((u : Tables) (o : OrderRow) → IsSale u o rows → AreLists u lists → AreLists (with_order u o) moved) → AreLists (after t stamp a) moved
  lists_done moved sold =
      subst (λ (u : Tables). AreLists u moved) (sym after_is)
      (lists_bought t done.sound sells.asked stamp sells.draw sells.terms who.customer who.cart who.buys who.bought who.some moved (sold t order sale done.lists_are))

  sells_none : AddsNone a
  sells_none = subst AddsNone (sym sells.does) tt

  pub added_done : (kept : AddedItems) → AreAdded t kept → AreAdded (after t stamp a) kept
  added_done = added_kept t stamp a done.sound sells_none

  pub raised_done : (number : ℕ) (first mid end : Key → ℕ) → RaisesAll keys.items number first mid
      → ((u : Tables) (o : OrderRow) → IsSale u o rows → AreLists u lists → RaisedFor u (with_order u o) number (lists_change u o.customer (items_of o)) mid end)
      → RaisedWhere t (after t stamp a) number (MayChange t a) first end
  raised_done number first mid end certain moved =
      listed t a sells_none (after t stamp a) number first end
      (subst (λ (b : Act). RaisedFor t (after t stamp a) number (may_change t b) first end) (sym sells.does)
      (subst (λ (u : Tables). RaisedFor t u number (purchase_changes t sells.asked) first end) (sym after_is)
      (purchase_raised t done.sound sells.asked stamp sells.draw sells.terms who.customer who.cart who.buys who.bought who.some number first mid end
      (subst (λ (ks : List Key). RaisesAll ks number first mid) sells.keys_are certain) (moved t order sale done.lists_are))))

-- the administration of an item

module _ (t : Tables) (a : Act) (stamp : ℕ) (rows : Rows) (lists : Lists) (plan : Plan) (item : ℕ) (row : Row) (same : plan ≡ Mend item row) (done : IsDone t a stamp rows lists plan) where
  mends : Mending t a item row
  mends = mending t a item row (subst (IsPlanOf t a) same done.plan_is)

  some_item : (o : Option ItemRow) → row_numbered t.items mends.asked.item ≡ o → check_there NoItem o ≡ None → (i : ItemRow) × (row_numbered t.items mends.asked.item ≡ Some i)
  some_item None is passes = absurd cc
  some_item (Some i) is passes = (i, is)

  found : (i : ItemRow) × (row_numbered t.items mends.asked.item ≡ Some i)
  found = some_item (row_numbered t.items mends.asked.item) refl (subst (λ (b : Act). check t (request_of b) ≡ None) mends.does done.passes)

  -- the tables after it
  mended_is : after t stamp a ≡ tables_mended t stamp mends.asked
  mended_is = ap (after t stamp) mends.does

  is_mended : IsMended t stamp mends.asked item rows
  is_mended = record {
    sound = done.sound;
    asks = mends.asks;
    row = found.0;
    there = found.1;
    items = ap (λ (u : Tables). u.items) (done.rows_are ∙ mended_is);
  }

  pub mend_done : (u : Tables) × (s : ℕ) × (asked : AdminAsked) × IsMended u s asked item rows × AreLists u lists
  mend_done = (t, stamp, mends.asked, is_mended, done.lists_are)

  pub mended_lists : (moved : Lists) → ((u : Tables) (s : ℕ) (asked : AdminAsked) → IsMended u s asked item rows → AreLists u lists → AreLists (tables_mended u s asked) moved) → AreLists (after t stamp a) moved
  mended_lists moved mended = subst (λ (u : Tables). AreLists u moved) (sym mended_is) (mended t stamp mends.asked is_mended done.lists_are)

  mends_none : AddsNone a
  mends_none = subst AddsNone (sym mends.does) tt

  pub mended_added : (kept : AddedItems) → AreAdded t kept → AreAdded (after t stamp a) kept
  mended_added = added_kept t stamp a done.sound mends_none

  pub mended_raised : (number : ℕ) (first mid : Versions) (end : Key → ℕ) → RaisesOne rows number (record { key = key.Item item; row = row }) first mid
      → ((u : Tables) (s : ℕ) (asked : AdminAsked) → IsMended u s asked item rows → AreLists u lists → RaisedFor u (tables_mended u s asked) number (key.NewIn (subject_at u item) ∷ []) (stored mid) end)
      → RaisedWhere t (after t stamp a) number (MayChange t a) (stored first) end
  mended_raised number first mid end one moved =
      listed t a mends_none (after t stamp a) number (stored first) end
      (subst (λ (b : Act). RaisedFor t (after t stamp a) number (may_change t b) (stored first) end) (sym mends.does)
      (subst (λ n. RaisedFor t (after t stamp a) number (key.Item n ∷ key.NewIn (subject_at t n) ∷ []) (stored first) end) mends.asks
      (raised_and t (after t stamp a) number (key.Item item ∷ []) (key.NewIn (subject_at t item) ∷ []) (stored first) (stored mid) end
      (subst (λ (u : Tables). RaisedFor t u number (key.Item item ∷ []) (stored first) (stored mid)) done.rows_are
      (raised_more t t rows number [] (stored first) first mid (record { key = key.Item item; row = row }) mends.row_is one none))
      (subst (λ (u : Tables). RaisedFor t u number (key.NewIn (subject_at t item) ∷ []) (stored mid) end) (sym mended_is) (moved t stamp mends.asked is_mended done.lists_are)))))
    where
      none : RaisedFor t (tables_with t rows) number [] (stored first) (stored first)
      none = record { each = λ k. inl refl; all = λ k has differs. absurd (omega (arith, has.1)) }

-- an item that is added

pub record Adds (t : Tables) (a : Act) (addition : Addition) : Type 0 where
  pub asked : AddAsked
  pub does : a ≡ act.Add asked
  pub planned : IsAddition t asked addition

adds_it : (t : Tables) (a : Act) (addition : Addition) → IsPlanOf t a (Add addition) → Adds t a addition
adds_it t (act.Add asked) addition planned = record { asked = asked; does = refl; planned = planned }
adds_it t _ addition planned = absurd planned

some_room : (author : Option Author) (items : ℕ) → first_of (check_author author) (check_room items) ≡ None → items < items_limit
some_room None items passes = absurd cc
some_room (Some author) items passes =
    by_test (nat_lt items items_limit) (λ (few : nat_lt items items_limit ≡ true). grind (arith, few))
    (λ (full : nat_lt items items_limit ≡ false). absurd (let not : Some FullShop ≡ None = sym (ap (λ b. if b then None else Some FullShop) full) ∙ passes in cc))

module _ (t : Tables) (a : Act) (stamp : ℕ) (rows : Rows) (lists : Lists) (plan : Plan) (addition : Addition) (same : plan ≡ Add addition) (done : IsDone t a stamp rows lists plan) where
  adds : Adds t a addition
  adds = adds_it t a addition (subst (IsPlanOf t a) same done.plan_is)

  -- the tables after it
  added_is : after t stamp a ≡ tables_added t stamp adds.asked
  added_is = ap (after t stamp) adds.does

  is_added : IsAdded t stamp adds.asked addition rows
  is_added = record {
    sound = done.sound;
    room = some_room (row_numbered t.authors adds.asked.author) (length t.items) (subst (λ (b : Act). check t (request_of b) ≡ None) adds.does done.passes);
    addition = adds.planned;
    items = ap (λ (u : Tables). u.items) (done.rows_are ∙ added_is);
    sound_after = subst Sound added_is done.sound_after;
  }

  pub add_done : (u : Tables) × (s : ℕ) × (asked : AddAsked) × IsAdded u s asked addition rows × AreLists u lists
  add_done = (t, stamp, adds.asked, is_added, done.lists_are)

  pub added_lists : (moved : Lists) → ((u : Tables) (s : ℕ) (asked : AddAsked) → IsAdded u s asked addition rows → AreLists u lists → AreLists (tables_added u s asked) moved) → AreLists (after t stamp a) moved
  added_lists moved grown = subst (λ (u : Tables). AreLists u moved) (sym added_is) (grown t stamp adds.asked is_added done.lists_are)

  -- what is kept of added items, once the item was taken
  module _ (number : ℕ) (kept taken : AddedItems) (are : AreAdded t kept) (expected : kept.room ≡ Some (naming addition.item))
      (takes : (item : Naming) → kept.room ≡ Some item → taken ≡ with_addition kept item number) where
    taken_is : taken ≡ adding.taken t done.sound stamp adds.asked number kept are
    taken_is = takes (naming addition.item) expected ∙ ap (λ i. with_addition kept (naming i) number) adds.planned.item_is

    pub added_taken : AreAdded (after t stamp a) taken
    added_taken = subst (λ (u : Tables). AreAdded u taken) (sym added_is) (subst (AreAdded (tables_added t stamp adds.asked)) (sym taken_is) (taken_are t done.sound stamp adds.asked number kept are))

  pub added_raised : (number id : ℕ) (first v : Versions) (taken : AddedItems) (end : Key → ℕ) → AreAdded t first.added → first.added.room ≡ Some (naming addition.item) → v.added ≡ first.added
      → ((item : Naming) → v.added.room ≡ Some item → taken ≡ with_addition v.added item number) → id ≡ length rows.items.items
      → stored v (key.Item id) ≡ number → ((k : Key) → k ≢ key.Item id → stored v k ≡ stored first k)
      → ((u : Tables) (s : ℕ) (asked : AddAsked) → IsAdded u s asked addition rows → AreLists u lists → RaisedFor u (tables_added u s asked) number (key.NewIn asked.subject ∷ []) (stored (record v { added = taken })) end)
      → RaisedWhere t (after t stamp a) number (MayChange t a) (stored first) end
  added_raised number id first v taken end are expected still takes id_is here others moved =
      let v_are : AreAdded t v.added = subst (AreAdded t) (sym still) are in
      let is = taken_is number v.added taken v_are (subst (λ (k : AddedItems). k.room ≡ Some (naming addition.item)) (sym still) expected) takes in
      let last : id ≡ length t.items + 1 = id_is ∙ items_size t stamp adds.asked addition rows is_added in
      subst (λ (b : Act). RaisedWhere t (after t stamp a) number (MayChange t b) (stored first) end) (sym adds.does)
      (subst (λ (u : Tables). RaisedWhere t u number (MayChange t (act.Add adds.asked)) (stored first) end) (sym added_is)
      (adding.added_raised t done.sound stamp adds.asked number v v_are (stored first) end
      (ap (λ n. stored v (key.Item n)) (sym last) ∙ here)
      (λ k apart. others k (λ same. apart (same ∙ ap key.Item last)))
      (subst (λ (taken : AddedItems). RaisedFor t (tables_added t stamp adds.asked) number (key.NewIn adds.asked.subject ∷ []) (stored (record v { added = taken })) end) is
      (moved t stamp adds.asked is_added done.lists_are))))
