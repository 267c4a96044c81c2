use Rattle.std.proofs.Common.{◌≡◌, length}
use Rattle.std.specs.Vec.Iter.{into_iter_items, into_iter_len}
use Rattle.shop_attempt.specs.Reads.{first_stale}
use Rattle.shop_book.proofs.book.Book.first_stale.Given as goal

abbrev pub invariant-loop-read : goal.invariant-loop-read
invariant-loop-read l =
    (first_stale l.self.opening.tables l.self.log (into_iter_items l.read-iterator)
    ≡ first_stale l.self.opening.tables l.self.log l.fn.reads)
    × (into_iter_len l.read-iterator ≡ length (into_iter_items l.read-iterator))
