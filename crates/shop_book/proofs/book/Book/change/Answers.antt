use Rattle.std.proofs.Common.{◌≡◌, ℕ, ◌+◌, ◌-◌, ◌*◌, ◌≤◌, ◌==◌, if◌then◌else◌, List, [], ◌∷◌, ◌++◌, length, take, drop, sum_by, refl, sym, ◌∙◌, ap, subst, arith, length-append}
use Rattle.std.proofs.lemmas.List.{length-map}
use Rattle.shop_model.specs.declared.tables.Tables.{Tables}
use Rattle.shop_model.specs.rows.Rows.{OrderRow}
use Rattle.shop_history.specs.declared.acts.Entry.{Entry}
use Rattle.shop_history.specs.Drawing.{new_ids}
use Rattle.shop_history.specs.Logs as logs
use Rattle.shop_history.specs.MayChange.{MayChange}
use Rattle.shop_history.proofs.cited.Rows.{tables_push}
use Rattle.shop_history.proofs.cited.Versions.{RaisedWhere}
use Rattle.shop_book.specs.Additions.{AreAdded}
use Rattle.shop_book.specs.Books.{tables_of}
use Rattle.shop_book.specs.BookView.{book_of}
use Rattle.shop_book.specs.Changing.{after, IsChange}
use Rattle.shop_book.specs.Keeping.{IsKept}
use Rattle.shop_book.specs.RowsNow.{HasRoom}
use Rattle.shop_book.specs.declared.puts.Put.{Put}
use Rattle.shop_book.specs.Stored as versioned
use Rattle.shop_book.specs.Stored.{stored}
use Rattle.shop_book.specs.Openings.{most_entries}
use Rattle.shop_book.specs.Summaries.{charge_limit, cents_in}
use Rattle.shop_book.proofs.ChangesLemmas.{with_entry, next, book_after, kept_roomy, ready, is_change, kept_after}
use Rattle.shop_book.proofs.NewOrders.{count_within, few_charged, charges_within, cents_few, cents_more}
use Rattle.shop_book.proofs.book.Book.change.Goals as goal
use Rattle.shop_book.proofs.book.Book.change.Goals.{After-make_room, After-deref}

kept_now : (c : After-make_room) → IsKept (book_of c.self.inside) c.make_room.new.rows c.make_room.new.versions c.make_room.new.counts c.make_room.new.lists c.self.inside.cents
kept_now c =
    kept_roomy (book_of c.self.inside) c.self.inside.rows c.make_room.new.rows c.self.inside.versions c.make_room.new.versions c.self.inside.counts c.make_room.new.counts c.self.inside.lists c.make_room.new.lists c.self.inside.cents
    c.self.invariant c.make_room.ensures.rows c.make_room.ensures.versions c.make_room.ensures.places c.make_room.ensures.added c.make_room.ensures.counts c.make_room.ensures.lists

changes : (c : After-make_room) → IsChange (tables_of (book_of c.self.inside)) c.args.entry.act c.make_room.new.rows c.make_room.new.lists c.args.plan c.args.entry.stamp c.args.puts.items
changes c =
    is_change _ _ c.self.invariant.is_book _ _ _ c.self.view_is c.requires c.self.inside.rows c.self.inside.versions c.self.inside.counts c.self.inside.lists c.self.inside.cents c.self.invariant
    c.make_room.new.rows c.make_room.ensures.rows c.make_room.new.lists c.make_room.ensures.lists

-- the orders after the change, of which so many were there before
module _ (c : After-deref) (change : IsChange (tables_of (book_of c.self.inside)) c.args.entry.act c.make_room.new.rows c.make_room.new.lists c.args.plan c.args.entry.stamp c.args.puts.items) where
  abbrev now : Tables
  now = tables_of (book_of c.self.inside)

  count_is : c.len-orders.result ≡ length now.orders
  count_is = omega (arith, c.len-orders.ensures, c.make_room.new.rows.orders.ok.0, ap (λ (u : Tables). length u.orders) change.rows_are)

  orders_are : c.deref.result.now ≡ (after now c.args.entry.stamp c.args.entry.act).orders
  orders_are = c.deref.ensures.value ∙ ap (λ (u : Tables). u.orders) (c.change_rows-ids.ensures.made now c.args.entry.act change)

  within : c.len-orders.result ≤ length c.deref.result.now
  within = count_within now change.sound c.args.entry.stamp c.args.entry.act change.sound_after c.len-orders.result count_is c.deref.result.now orders_are

  -- what they were charged
  charged : c.self.inside.cents + sum_by (λ o. o.total) (take (length c.deref.result.now - c.len-orders.result) (drop c.len-orders.result c.deref.result.now))
      ≡ cents_in (after now c.args.entry.stamp c.args.entry.act)
  charged =
      ap (λ n. n + sum_by (λ o. o.total) (take (length c.deref.result.now - c.len-orders.result) (drop c.len-orders.result c.deref.result.now))) c.self.invariant.cents_are
      ∙ sym (cents_more now change.sound c.args.entry.stamp c.args.entry.act change.sound_after c.len-orders.result count_is c.deref.result.now orders_are)

  charged_few : cents_in (after now c.args.entry.stamp c.args.entry.act) ≤ most_entries * charge_limit
  charged_few =
      subst (λ (u : Tables). cents_in u ≤ most_entries * charge_limit) (tables_push c.self.inside.opening.tables c.self.inside.log.items c.args.entry)
      (cents_few (with_entry (book_of c.self.inside) c.args.entry) (book_after _ _ c.self.invariant.is_book _ _ _ c.self.view_is c.requires))

pub slice_bounds-cents_of-count : goal.slice_bounds-cents_of-count
slice_bounds-cents_of-count c =
    let at = goal.at.slice_bounds-cents_of-count c in
    within at.After-deref (changes at.After-make_room)

pub slice_bounds-cents_of-start : goal.slice_bounds-cents_of-start
slice_bounds-cents_of-start c =
    let at = goal.at.slice_bounds-cents_of-start c in
    within at.After-deref (changes at.After-make_room)

pub offset_bounds-deref-orders : goal.offset_bounds-deref-orders
offset_bounds-deref-orders c =
    let at = goal.at.offset_bounds-deref-orders c in
    let change = changes at.After-make_room in
    omega (arith, count_is at.After-deref change, change.sound.ids.orders.fits, length-map (tables_of (book_of c.self.inside)).orders (λ (o : OrderRow). o.id))

pub cents_of-requires-clause-few : goal.cents_of-requires-clause-few
cents_of-requires-clause-few c =
    let at = goal.at.cents_of-requires-clause-few c in
    let change = changes at.After-make_room in
    few_charged (tables_of (book_of c.self.inside)) change.sound c.args.entry.stamp c.args.entry.act change.sound_after c.len-orders.result (count_is at.After-deref change) c.deref.result.now (orders_are at.After-deref change)

pub cents_of-requires-clause-charges : goal.cents_of-requires-clause-charges
cents_of-requires-clause-charges c =
    let at = goal.at.cents_of-requires-clause-charges c in
    let change = changes at.After-make_room in
    charges_within (tables_of (book_of c.self.inside)) change.sound c.args.entry.stamp c.args.entry.act change.sound_after c.len-orders.result (count_is at.After-deref change) c.deref.result.now (orders_are at.After-deref change)

pub overflow_add-self : goal.overflow_add-self
overflow_add-self c =
    let at = goal.at.overflow_add-self c in
    let change = changes at.After-make_room in
    omega (arith, c.cents_of.ensures, charged at.After-deref change, charged_few at.After-deref change)

pub invariant_of-self : goal.invariant_of-self
invariant_of-self c =
    subst (λ (log : List Entry). IsKept (record { opening = c.self.inside.opening; log = log; latest = c.self.inside.latest }) c.make_room.new.rows c.make_room.new.versions c.make_room.new.counts c.make_room.new.lists c.self.inside.cents) (sym c.make_room.ensures.log)
    (kept_now (goal.at.invariant_of-self c).After-make_room)

pub change_rows-ids-requires-clause-change : goal.change_rows-ids-requires-clause-change
change_rows-ids-requires-clause-change c =
    (tables_of (book_of c.self.inside), c.args.entry.act, changes (goal.at.change_rows-ids-requires-clause-change c).After-make_room)

pub change_rows-ids-requires-clause-ready : goal.change_rows-ids-requires-clause-ready
change_rows-ids-requires-clause-ready c =
    ready _ _ c.self.invariant.is_book _ _ _ c.self.view_is c.requires c.self.inside.rows c.self.inside.versions c.self.inside.counts c.self.inside.lists c.self.inside.cents c.self.invariant
    c.make_room.new.rows c.make_room.ensures.rows c.make_room.new.lists c.make_room.ensures.lists
    (subst (λ (puts : List Put). HasRoom c.make_room.new.rows (length puts)) c.as_slice.ensures.value c.if-not-make_room.ensures.rows_room)

pub change_rows-ids-requires-clause-room : goal.change_rows-ids-requires-clause-room
change_rows-ids-requires-clause-room c =
    subst (versioned.HasRoom c.make_room.new.versions c.make_room.new.rows) c.as_slice.ensures.value c.if-not-make_room.ensures.versions_room

pub invariant_of-self-2 : goal.invariant_of-self-2
invariant_of-self-2 c =
    let at = (goal.at.invariant_of-self-2 c).After-make_room in
    let t : Tables = tables_of (book_of c.self.inside) in
    let log : c.push_reserved.new.self.items ≡ c.self.inside.log.items ++ c.args.entry ∷ [] = c.push_reserved.ensures.items ∙ ap (λ (l : List Entry). l ++ c.args.entry ∷ []) c.make_room.ensures.log in
    let size : c.len.result + 1 ≡ length c.self.inside.log.items + 1 = omega (arith, c.len.ensures, c.make_room.new.log.ok.0, ap length c.make_room.ensures.log) in
    let added : AreAdded t c.make_room.new.versions.added = (kept_now at).added_are in
    let rises : RaisedWhere t (after t c.args.entry.stamp c.args.entry.act) (length c.self.inside.log.items + 1) (MayChange t c.args.entry.act) (stored c.make_room.new.versions) (stored c.change_rows-ids.new.versions)
    = subst (λ n. RaisedWhere t (after t c.args.entry.stamp c.args.entry.act) n (MayChange t c.args.entry.act) (stored c.make_room.new.versions) (stored c.change_rows-ids.new.versions)) size
    (c.change_rows-ids.ensures.raised t c.args.entry.act (changes at) added) in
    subst (λ (l : List Entry). IsKept (record { opening = c.self.inside.opening; log = l; latest = c.args.entry.stamp }) c.change_rows-ids.new.rows c.change_rows-ids.new.versions c.set.new.self c.change_rows-ids.new.lists (c.self.inside.cents + c.cents_of.result)) (sym log)
    (kept_after _ _ c.self.invariant.is_book _ _ _ c.self.view_is c.requires c.self.inside.rows c.self.inside.versions c.self.inside.counts c.self.inside.lists c.self.inside.cents c.self.invariant
    c.make_room.new.rows c.make_room.ensures.rows c.make_room.new.lists c.make_room.ensures.lists
    c.change_rows-ids.new.rows c.make_room.new.versions c.change_rows-ids.new.versions c.set.new.self c.change_rows-ids.new.lists (c.self.inside.cents + c.cents_of.result)
    (c.change_rows-ids.ensures.made t c.args.entry.act (changes at)) c.change_rows-ids.ensures.places c.make_room.ensures.versions (c.change_rows-ids.ensures.added t c.args.entry.act (changes at) added) rises
    (λ caller. c.set.ensures caller ∙ ap (λ (count : ℕ). if c.args.entry.caller == caller then c.args.entry.number else count) (c.make_room.ensures.counts caller))
    (c.change_rows-ids.ensures.lists t c.args.entry.act (changes at))
    (ap (λ n. c.self.inside.cents + n) c.cents_of.ensures ∙ charged (goal.at.invariant_of-self-2 c).After-deref (changes at)))

pub returns-clause-taken : goal.returns-clause-taken
returns-clause-taken c =
    let at = (goal.at.returns-clause-taken c).After-make_room in
    let t : Tables = tables_of (book_of c.self.inside) in
    let log : c.push_reserved.new.self.items ≡ c.self.inside.log.items ++ c.args.entry ∷ [] = c.push_reserved.ensures.items ∙ ap (λ (l : List Entry). l ++ c.args.entry ∷ []) c.make_room.ensures.log in
    rw (← c.self.view_is)
    (record {
      room = λ some. (next _ _ c.self.invariant.is_book _ _ _ c.self.view_is c.requires).left;
      stamp_is = refl;
      book = ap (λ (l : List Entry). record { opening = c.self.inside.opening; log = l; latest = c.args.entry.stamp }) log;
      front = omega (arith, c.len.ensures, c.make_room.new.log.ok.0, ap length c.make_room.ensures.log, ap length log, length-append c.self.inside.log.items (c.args.entry ∷ []));
      ids =
          c.change_rows-ids.ensures.ids t c.args.entry.act (changes at)
          ∙ ap (new_ids t) (sym (tables_push c.self.inside.opening.tables c.self.inside.log.items c.args.entry))
          ∙ ap (λ (l : List Entry). new_ids t (logs.tables c.self.inside.opening.tables l)) (sym log);
    })

pub returns-clause-kept : goal.returns-clause-kept
returns-clause-kept c = (invariant_of-self-2 c).is_book
