use Rattle.std.proofs.Common.{ap}
use Rattle.shop_model.specs.declared.page.Block.TheVariants.{Heading}
use Rattle.shop_model.specs.pages.PageText.{block_text}
use Rattle.shop_pages.proofs.PartLemmas.{failed_as}
use Rattle.shop_pages.proofs.reading.blocks.read_heading.Goals as goal

pub returns-in_err-text-clause-read : goal.returns-in_err-text-clause-read
unfolding block_text
returns-in_err-text-clause-read c = λ text rest is.
    failed_as c.from_residual.result _ (Heading text) rest c.from_residual.ensures.1
    (c.in_err-text.ensures.read text rest is)

pub returns-clause-read : goal.returns-clause-read
unfolding block_text
returns-clause-read c = λ text rest is.
    let read = c.in_ok-text.ensures.read text rest is in (ap Heading read.0, read.1)
