use Rattle.std.proofs.Common.{◌++◌, codes, refl, ap₂}
use Rattle.std.specs.List.{flat_map}
use Rattle.shop_text.specs.Texts.{escape}
use Rattle.shop_model.specs.declared.page.Block.TheVariants.{Form}
use Rattle.shop_model.specs.pages.PageText.{block_text, field_text}
use Rattle.shop_pages.proofs.PartLemmas.{failed_as, then_inside}
use Rattle.shop_pages.proofs.reading.blocks.read_form.Goals as goal

pub returns-in_err-target-clause-read : goal.returns-in_err-target-clause-read
unfolding block_text
returns-in_err-target-clause-read c = λ target fields rest is.
    failed_as c.from_residual.result _ (Form target fields) rest c.from_residual.ensures.1
    (c.in_err-target.ensures.read target _ (then_inside (codes "<form action=\"") (escape target) (codes "\">") (flat_map field_text fields) (codes "</form>") rest _ is))

pub returns-in_err-fields-clause-read : goal.returns-in_err-fields-clause-read
unfolding block_text
returns-in_err-fields-clause-read c = λ target fields rest is.
    failed_as c.from_residual-in_err-fields.result _ (Form target fields) rest c.from_residual-in_err-fields.ensures.1
    (let front = c.in_ok-target.ensures.read target _ (then_inside (codes "<form action=\"") (escape target) (codes "\">") (flat_map field_text fields) (codes "</form>") rest _ is) in
    c.in_err-fields.ensures.read fields (codes "</form>" ++ rest) refl front.1)

pub returns-in_err-rest-clause-read : goal.returns-in_err-rest-clause-read
unfolding block_text
returns-in_err-rest-clause-read c = λ target fields rest is.
    failed_as c.from_residual-in_err-rest.result _ (Form target fields) rest c.from_residual-in_err-rest.ensures.1
    (let front = c.in_ok-target.ensures.read target _ (then_inside (codes "<form action=\"") (escape target) (codes "\">") (flat_map field_text fields) (codes "</form>") rest _ is) in
    let read = c.in_ok-fields.ensures.read fields (codes "</form>" ++ rest) refl front.1 in
    c.in_err-rest.ensures.read rest read.1)

pub returns-clause-read : goal.returns-clause-read
unfolding block_text
returns-clause-read c = λ target fields rest is.
    let front = c.in_ok-target.ensures.read target _ (then_inside (codes "<form action=\"") (escape target) (codes "\">") (flat_map field_text fields) (codes "</form>") rest _ is) in
    let read = c.in_ok-fields.ensures.read fields (codes "</form>" ++ rest) refl front.1 in
    (ap₂ Form front.0 read.0, c.in_ok-rest.ensures.read rest read.1)
