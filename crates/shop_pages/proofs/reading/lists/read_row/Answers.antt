use Rattle.std.proofs.Common.{◌++◌, codes, refl}
use Rattle.std.specs.List.{flat_map}
use Rattle.shop_model.specs.pages.PageText.{cell_text}
use Rattle.shop_pages.proofs.PartLemmas.{failed_as, inside}
use Rattle.shop_pages.proofs.reading.lists.read_row.Goals as goal

pub returns-in_err-rest-clause-read : goal.returns-in_err-rest-clause-read
returns-in_err-rest-clause-read c = λ cells rest is.
    failed_as c.from_residual.result _ cells rest c.from_residual.ensures.1
    (c.in_err-rest.ensures.read _ (inside (codes "<tr>") (flat_map cell_text cells) (codes "</tr>") rest _ is))

pub returns-in_err-cells-clause-read : goal.returns-in_err-cells-clause-read
returns-in_err-cells-clause-read c = λ cells rest is.
    failed_as c.from_residual-in_err-cells.result _ cells rest c.from_residual-in_err-cells.ensures.1
    (let front = c.in_ok-rest.ensures.read _ (inside (codes "<tr>") (flat_map cell_text cells) (codes "</tr>") rest _ is) in
    c.in_err-cells.ensures.read cells (codes "</tr>" ++ rest) refl front)

pub returns-in_err-rest-2-clause-read : goal.returns-in_err-rest-2-clause-read
returns-in_err-rest-2-clause-read c = λ cells rest is.
    failed_as c.from_residual-in_err-rest-2.result _ cells rest c.from_residual-in_err-rest-2.ensures.1
    (let front = c.in_ok-rest.ensures.read _ (inside (codes "<tr>") (flat_map cell_text cells) (codes "</tr>") rest _ is) in
    let read = c.in_ok-cells.ensures.read cells (codes "</tr>" ++ rest) refl front in
    c.in_err-rest-2.ensures.read rest read.1)

pub returns-clause-read : goal.returns-clause-read
returns-clause-read c = λ cells rest is.
    let front = c.in_ok-rest.ensures.read _ (inside (codes "<tr>") (flat_map cell_text cells) (codes "</tr>") rest _ is) in
    let read = c.in_ok-cells.ensures.read cells (codes "</tr>" ++ rest) refl front in
    (read.0, c.in_ok-rest-2.ensures.read rest read.1)
