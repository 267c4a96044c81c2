use Rattle.std.proofs.Common.{◌∙◌, arith}
use Rattle.shop_model.specs.declared.tables.Tables.{Tables}
use Rattle.shop_book.specs.KeptLists.{AreLists}
use Rattle.shop_book.proofs.lists.Lists.make_room.Goals as goal
use Rattle.shop_book.proofs.lists.Lists.make_room.Goals.{After-make_room-auths}

-- room is all that changes
wider : (c : After-make_room-auths) (t : Tables) → AreLists t c.args.self.now
    → AreLists t (record c.args.self.now { sold = c.reserve.new.self; recent = c.reserve-2.new.self; auths = c.make_room-auths.new.self })
wider c t are = record {
  sold_items = omega (arith, c.reserve.ensures.items, are.sold_items);
  recent_items = omega (arith, c.reserve-2.ensures.items, are.recent_items);
  sold = c.reserve.ensures.kept ∙ are.sold;
  recent = c.reserve-2.ensures.kept ∙ are.recent;
  units = are.units;
  days = are.days;
  best_rows = are.best_rows;
  newest_rows = are.newest_rows;
  auths = λ auth. c.make_room-auths.ensures.same auth ∙ are.auths auth;
}

pub returns-then-recent-clause-lists : goal.returns-then-recent-clause-lists
returns-then-recent-clause-lists c = wider (goal.at.returns-then-recent-clause-lists c).After-make_room-auths

pub returns-else-recent-clause-lists : goal.returns-else-recent-clause-lists
returns-else-recent-clause-lists c = wider (goal.at.returns-else-recent-clause-lists c).After-make_room-auths
