use Rattle.std.proofs.Common.{◌∙◌, codes, refl, sym}
use Rattle.shop_model.specs.pages.PageText.{cell_text}
use Rattle.shop_pages.proofs.Listing.{list_begun, part_taken, part_missed, list_ended}
use Rattle.shop_pages.proofs.PartLemmas.{failed_as}
use Rattle.shop_pages.proofs.reading.lists.read_cells.Goals as goal

pub loop-alloc-init : goal.loop-alloc-init
loop-alloc-init c = list_begun cell_text (codes "</tr>") c.args.bytes.now _ c.new-cells.ensures

pub loop-alloc-preserved : goal.loop-alloc-preserved
loop-alloc-preserved c =
    part_taken cell_text (codes "</tr>") c.args.bytes.now _ _ _ _ _ c.loop-alloc.invariant (sym c.starts_with.ensures.value ∙ c.loop-alloc-test.true) c.in_ok-cell.ensures.read c.in_ok-cell.ensures.shorter c.in_ok-push.ensures.ok

pub returns-in_err-cell-clause-read : goal.returns-in_err-cell-clause-read
returns-in_err-cell-clause-read c = λ xs rest ends is.
    failed_as c.from_residual.result _ xs rest c.from_residual.ensures.1
    (part_missed cell_text (codes "</tr>") c.args.bytes.now _ _ _ c.loop-alloc.invariant (sym c.starts_with.ensures.value ∙ c.loop-alloc-test.true) c.in_err-cell.ensures.read xs rest ends is)

pub returns-clause-read : goal.returns-clause-read
returns-clause-read c =
    list_ended cell_text (codes "</tr>") c.args.bytes.now _ _ c.loop-alloc.invariant (λ part rest. refl) (sym c.starts_with.ensures.value ∙ c.loop-alloc-test.false)
