use Rattle.std.proofs.Common.{codes, length}
use Rattle.shop_model.specs.pages.PageText.{block_line}
use Rattle.shop_pages.proofs.Listing.{IsWithin}
use Rattle.shop_pages.proofs.reading.blocks.read_blocks.Given as goal

abbrev pub invariant-loop-alloc : goal.invariant-loop-alloc
invariant-loop-alloc l = IsWithin block_line (codes "</body>") l.bytes l.blocks l.rest

abbrev pub decreases-loop-alloc : goal.decreases-loop-alloc
decreases-loop-alloc l = length l.rest
