use Rattle.std.proofs.Common.{codes, ap₂, List, ℕ}
use Rattle.shop_text.specs.Texts.{escape}
use Rattle.shop_model.specs.declared.page.Field.{Field}
use Rattle.shop_model.specs.pages.PageText.{field_text}
use Rattle.shop_pages.proofs.PartLemmas.{failed_as, then_tagged}
use Rattle.shop_pages.proofs.reading.lists.read_field.Goals as goal

pub returns-in_err-name-clause-read : goal.returns-in_err-name-clause-read
unfolding field_text
returns-in_err-name-clause-read c = λ field rest is.
    failed_as c.from_residual.result _ field rest c.from_residual.ensures.1
    (c.in_err-name.ensures.read field.name _
    (then_tagged (codes "<input name=\"") (escape field.name) (codes "\" value=\"") (escape field.value) (codes "\">") rest _ is))

pub returns-in_err-value-clause-read : goal.returns-in_err-value-clause-read
unfolding field_text
returns-in_err-value-clause-read c = λ field rest is.
    failed_as c.from_residual-in_err-value.result _ field rest c.from_residual-in_err-value.ensures.1
    (let name = c.in_ok-name.ensures.read field.name _
    (then_tagged (codes "<input name=\"") (escape field.name) (codes "\" value=\"") (escape field.value) (codes "\">") rest _ is) in
    c.in_err-value.ensures.read field.value rest name.1)

pub returns-clause-read : goal.returns-clause-read
unfolding field_text
returns-clause-read c = λ field rest is.
    let name = c.in_ok-name.ensures.read field.name _
    (then_tagged (codes "<input name=\"") (escape field.name) (codes "\" value=\"") (escape field.value) (codes "\">") rest _ is) in
    let value = c.in_ok-value.ensures.read field.value rest name.1 in
    let of : List ℕ → List ℕ → Field = λ n v. record { name = n; value = v } in
    (ap₂ of name.0 value.0, value.1)
