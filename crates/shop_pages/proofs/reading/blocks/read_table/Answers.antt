use Rattle.std.proofs.Common.{◌++◌, codes, refl, ap}
use Rattle.std.specs.List.{flat_map}
use Rattle.shop_model.specs.declared.page.Block.TheVariants.{Table}
use Rattle.shop_model.specs.pages.PageText.{block_text, row_text}
use Rattle.shop_pages.proofs.PartLemmas.{failed_as, inside}
use Rattle.shop_pages.proofs.reading.blocks.read_table.Goals as goal

pub returns-in_err-rest-clause-read : goal.returns-in_err-rest-clause-read
unfolding block_text
returns-in_err-rest-clause-read c = λ rows rest is.
    failed_as c.from_residual.result _ (Table rows) rest c.from_residual.ensures.1
    (c.in_err-rest.ensures.read _ (inside (codes "<table>") (flat_map row_text rows) (codes "</table>") rest _ is))

pub returns-in_err-rows-clause-read : goal.returns-in_err-rows-clause-read
unfolding block_text
returns-in_err-rows-clause-read c = λ rows rest is.
    failed_as c.from_residual-in_err-rows.result _ (Table rows) rest c.from_residual-in_err-rows.ensures.1
    (c.in_err-rows.ensures.read rows (codes "</table>" ++ rest) refl (c.in_ok-rest.ensures.read _ (inside (codes "<table>") (flat_map row_text rows) (codes "</table>") rest _ is)))

pub returns-in_err-rest-2-clause-read : goal.returns-in_err-rest-2-clause-read
unfolding block_text
returns-in_err-rest-2-clause-read c = λ rows rest is.
    failed_as c.from_residual-in_err-rest-2.result _ (Table rows) rest c.from_residual-in_err-rest-2.ensures.1
    (let read = c.in_ok-rows.ensures.read rows (codes "</table>" ++ rest) refl (c.in_ok-rest.ensures.read _ (inside (codes "<table>") (flat_map row_text rows) (codes "</table>") rest _ is)) in
    c.in_err-rest-2.ensures.read rest read.1)

pub returns-clause-read : goal.returns-clause-read
unfolding block_text
returns-clause-read c = λ rows rest is.
    let read = c.in_ok-rows.ensures.read rows (codes "</table>" ++ rest) refl (c.in_ok-rest.ensures.read _ (inside (codes "<table>") (flat_map row_text rows) (codes "</table>") rest _ is)) in
    (ap Table read.0, c.in_ok-rest-2.ensures.read rest read.1)
