use Rattle.shop_model.specs.rows.Empty.{no_tables}
use Rattle.shop_book.proofs.AddedItems.{places_roomy}
use Rattle.shop_book.proofs.Fitting.{same_sizes}
use Rattle.shop_book.proofs.Placed.{more_have}
use Rattle.shop_book.proofs.changes.make_room.Goals as goal

pub make_room-versions_room-requires : goal.make_room-versions_room-requires
make_room-versions_room-requires c = same_sizes no_tables (c.make_room-rows_room.ensures.same no_tables) c.requires

pub returns-else-counts_room-clause-places : goal.returns-else-counts_room-clause-places
returns-else-counts_room-clause-places c =
    places_roomy c.make_room-versions_room.new.self c.expect-item_room.new.versions c.make_room-rows_room.new.self c.expect-item_room.ensures.rest
    (more_have c.make_room-versions_room.ensures.places (same_sizes no_tables (c.make_room-rows_room.ensures.same no_tables) c.requires))
