use Rattle.std.proofs.Common.{◌≡◌}
use Rattle.std.specs.Bool.{OnTrue}
use Rattle.shop_history.specs.declared.keys.Key.{Key}
use Rattle.shop_book.specs.Stored.{stored, MorePlaces}
use Rattle.shop_book.proofs.Fitting.{HasRoomUntil}
use Rattle.shop_book.proofs.versions.Versions.make_room.Given as goal

abbrev pub invariant-loop-put : goal.invariant-loop-put
invariant-loop-put l = record {
  same : (key : Key) → stored l.self key ≡ stored l.fn.self key;
  longer : MorePlaces l.fn.self l.self;
  room : OnTrue l.rooms (HasRoomUntil l.self l.rows l.puts l.put-index);
}
