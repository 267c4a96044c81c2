use Rattle.std.proofs.Common.{codes, length}
use Rattle.shop_model.specs.pages.PageText.{row_text}
use Rattle.shop_pages.proofs.Listing.{IsWithin}
use Rattle.shop_pages.proofs.reading.lists.read_rows.Given as goal

abbrev pub invariant-loop-alloc : goal.invariant-loop-alloc
invariant-loop-alloc l = IsWithin row_text (codes "</table>") l.bytes l.rows l.rest

abbrev pub decreases-loop-alloc : goal.decreases-loop-alloc
decreases-loop-alloc l = length l.rest
