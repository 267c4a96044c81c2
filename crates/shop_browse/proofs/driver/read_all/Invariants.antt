use Rattle.std.proofs.Common.{◌≡◌, length}
use Rattle.std.specs.Vec.Iter.{into_iter_items, into_iter_len}
use Rattle.shop_attempt.specs.Marks.{Looks}
use Rattle.shop_browse.proofs.DriverLemmas.{ReadsSome}
use Rattle.shop_browse.proofs.driver.read_all.Given as goal

-- the rows so far were read, and the keys that are left come behind them
abbrev pub invariant-loop-key : goal.invariant-loop-key
invariant-loop-key g l = record {
  looks : Looks g.St.Store.seat g.St.Store.marked l.fn.store l.store;
  reads : ReadsSome (g.St.Store.seat l.fn.store) (g.St.Store.seat l.store) l.fn.keys (into_iter_items l.key-iterator) l.fn.reads.items l.reads.items;
  count : into_iter_len l.key-iterator ≡ length (into_iter_items l.key-iterator);
}
