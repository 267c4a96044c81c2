use Rattle.std.proofs.Common.{◌∙◌, codes, sym}
use Rattle.shop_model.specs.pages.PageText.{block_line}
use Rattle.shop_pages.proofs.Letters.{block_apart}
use Rattle.shop_pages.proofs.Listing.{list_begun, part_taken, part_missed, list_ended}
use Rattle.shop_pages.proofs.PartLemmas.{failed_as}
use Rattle.shop_pages.proofs.reading.blocks.read_blocks.Goals as goal

pub loop-alloc-init : goal.loop-alloc-init
loop-alloc-init c = list_begun block_line (codes "</body>") c.args.bytes.now _ c.new-blocks.ensures

pub loop-alloc-preserved : goal.loop-alloc-preserved
loop-alloc-preserved c =
    part_taken block_line (codes "</body>") c.args.bytes.now _ _ _ _ _ c.loop-alloc.invariant (sym c.starts_with.ensures.value ∙ c.loop-alloc-test.true) c.in_ok-block.ensures.read c.in_ok-block.ensures.shorter c.in_ok-push.ensures.ok

pub returns-in_err-block : goal.returns-in_err-block
returns-in_err-block c = λ xs rest ends is.
    failed_as c.from_residual.result _ xs rest c.from_residual.ensures.1
    (part_missed block_line (codes "</body>") c.args.bytes.now _ _ _ c.loop-alloc.invariant (sym c.starts_with.ensures.value ∙ c.loop-alloc-test.true) c.in_err-block.ensures.read xs rest ends is)

pub returns : goal.returns
returns c =
    list_ended block_line (codes "</body>") c.args.bytes.now _ _ c.loop-alloc.invariant block_apart (sym c.starts_with.ensures.value ∙ c.loop-alloc-test.false)
