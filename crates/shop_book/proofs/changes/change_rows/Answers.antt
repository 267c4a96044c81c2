use Rattle.std.proofs.Common.{sym, ◌∙◌, ap, subst}
use Rattle.shop_model.specs.declared.tables.Tables.{Tables}
use Rattle.shop_history.specs.declared.acts.Act.{Act}
use Rattle.shop_history.specs.Drawing.{new_ids}
use Rattle.shop_book.specs.Changing.{IsChange, IsDone}
use Rattle.shop_book.specs.Readiness.{IdsFit}
use Rattle.shop_book.specs.RowsNow.{tables_with}
use Rattle.shop_book.specs.declared.ids.Sizes.{Sizes}
use Rattle.shop_book.specs.Sizes.{ids_behind}
use Rattle.shop_book.proofs.Fitting.{room_places, all_placed}
use Rattle.shop_book.proofs.Doing.{done_of, watchable_done}
use Rattle.shop_book.proofs.changes.change_rows.Goals as goal
use Rattle.shop_book.proofs.changes.change_rows.Goals.{After-put_all}

-- the change is done once the writes were made
done : (c : After-put_all) (t : Tables) (a : Act) → IsChange t a c.args.rows.now c.args.lists.now c.args.plan c.args.stamp c.args.puts.items → IsDone t a c.args.stamp c.put_all.new.self c.args.lists.now c.args.plan
done c t a change = done_of t a c.args.rows.now c.args.lists.now c.args.plan c.args.stamp c.args.puts.items c.put_all.new.self change (c.put_all.ensures t)

pub carry_out-requires-clause-done : goal.carry_out-requires-clause-done
carry_out-requires-clause-done c =
    let at = goal.at.carry_out-requires-clause-done c in
    (c.requires.change.0, c.requires.change.1, c.args.stamp, done at.After-put_all c.requires.change.0 c.requires.change.1 c.requires.change.2)

pub carry_out-requires-clause-places : goal.carry_out-requires-clause-places
carry_out-requires-clause-places c =
    all_placed c.args.versions.now c.args.rows.now c.put_all.new.self c.requires.ready.tables c.args.stamp c.args.puts.items (c.put_all.ensures c.requires.ready.tables) c.requires.room

pub carry_out-requires-clause-watchable : goal.carry_out-requires-clause-watchable
carry_out-requires-clause-watchable c =
    watchable_done c.requires.change.0 c.requires.change.1 c.args.rows.now c.args.lists.now c.args.plan c.args.stamp c.args.puts.items c.requires.change.2 c.args.versions.now (room_places c.requires.room)

pub new_ids-requires : goal.new_ids-requires
new_ids-requires c = (c.requires.ready.tables, subst IdsFit (sym (c.put_all.ensures c.requires.ready.tables)) c.requires.ready.fits)

pub returns-clause-made : goal.returns-clause-made
returns-clause-made c = λ t a change. (done_of t a c.args.rows.now c.args.lists.now c.args.plan c.args.stamp c.args.puts.items c.put_all.new.self change (c.put_all.ensures t)).rows_are

pub returns-clause-lists : goal.returns-clause-lists
returns-clause-lists c = λ t a change.
    c.carry_out.ensures.lists t a c.args.stamp (done_of t a c.args.rows.now c.args.lists.now c.args.plan c.args.stamp c.args.puts.items c.put_all.new.self change (c.put_all.ensures t))

pub returns-clause-added : goal.returns-clause-added
returns-clause-added c = λ t a change.
    c.carry_out.ensures.added t a c.args.stamp (done_of t a c.args.rows.now c.args.lists.now c.args.plan c.args.stamp c.args.puts.items c.put_all.new.self change (c.put_all.ensures t))

pub returns-clause-raised : goal.returns-clause-raised
returns-clause-raised c = λ t a change.
    c.carry_out.ensures.raised t a c.args.stamp (done_of t a c.args.rows.now c.args.lists.now c.args.plan c.args.stamp c.args.puts.items c.put_all.new.self change (c.put_all.ensures t))

pub returns-clause-ids : goal.returns-clause-ids
returns-clause-ids c = λ t a change.
    let is_done = done_of t a c.args.rows.now c.args.lists.now c.args.plan c.args.stamp c.args.puts.items c.put_all.new.self change (c.put_all.ensures t) in
    c.new_ids.ensures
    ∙ ap (λ (sizes : Sizes). ids_behind sizes c.put_all.new.self) c.of-before.ensures
    ∙ ap (λ (u : Tables). new_ids u (tables_with t c.put_all.new.self)) change.rows_are
    ∙ ap (new_ids t) is_done.rows_are
