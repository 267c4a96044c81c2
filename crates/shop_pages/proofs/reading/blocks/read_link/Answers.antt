use Rattle.std.proofs.Common.{codes, ap₂}
use Rattle.shop_text.specs.Texts.{escape}
use Rattle.shop_model.specs.declared.page.Block.TheVariants.{Link}
use Rattle.shop_model.specs.pages.PageText.{block_text}
use Rattle.shop_pages.proofs.PartLemmas.{failed_as, then_tagged}
use Rattle.shop_pages.proofs.reading.blocks.read_link.Goals as goal

pub returns-in_err-target-clause-read : goal.returns-in_err-target-clause-read
unfolding block_text
returns-in_err-target-clause-read c = λ target label rest is.
    failed_as c.from_residual.result _ (Link target label) rest c.from_residual.ensures.1
    (c.in_err-target.ensures.read target _ (then_tagged (codes "<a href=\"") (escape target) (codes "\">") (escape label) (codes "</a>") rest _ is))

pub returns-in_err-label-clause-read : goal.returns-in_err-label-clause-read
unfolding block_text
returns-in_err-label-clause-read c = λ target label rest is.
    failed_as c.from_residual-in_err-label.result _ (Link target label) rest c.from_residual-in_err-label.ensures.1
    (let front = c.in_ok-target.ensures.read target _ (then_tagged (codes "<a href=\"") (escape target) (codes "\">") (escape label) (codes "</a>") rest _ is) in
    c.in_err-label.ensures.read label rest front.1)

pub returns-clause-read : goal.returns-clause-read
unfolding block_text
returns-clause-read c = λ target label rest is.
    let front = c.in_ok-target.ensures.read target _ (then_tagged (codes "<a href=\"") (escape target) (codes "\">") (escape label) (codes "</a>") rest _ is) in
    let read = c.in_ok-label.ensures.read label rest front.1 in
    (ap₂ Link front.0 read.0, read.1)
