use Rattle.std.proofs.Common.{◌++◌, ◌∙◌, codes, append_assoc}
use Rattle.shop_model.specs.pages.PageText.{block_text}
use Rattle.shop_pages.proofs.PartLemmas.{failed_as}
use Rattle.shop_pages.proofs.reading.blocks.read_line.Goals as goal

pub returns-in_err-block-clause-read : goal.returns-in_err-block-clause-read
returns-in_err-block-clause-read c = λ block rest is.
    failed_as c.from_residual.result _ block rest c.from_residual.ensures.1
    (c.in_err-block.ensures.read block (codes "\n" ++ rest) (is ∙ append_assoc (block_text block) (codes "\n") rest))

pub returns-in_err-rest-clause-read : goal.returns-in_err-rest-clause-read
returns-in_err-rest-clause-read c = λ block rest is.
    failed_as c.from_residual-in_err-rest.result _ block rest c.from_residual-in_err-rest.ensures.1
    (let read = c.in_ok-block.ensures.read block (codes "\n" ++ rest) (is ∙ append_assoc (block_text block) (codes "\n") rest) in
    c.in_err-rest.ensures.read rest read.1)

pub returns-clause-read : goal.returns-clause-read
returns-clause-read c = λ block rest is.
    let read = c.in_ok-block.ensures.read block (codes "\n" ++ rest) (is ∙ append_assoc (block_text block) (codes "\n") rest) in
    (read.0, c.in_ok-rest.ensures.read rest read.1)
