use Rattle.std.proofs.lemmas.Result.{IfOk-weaker}
use Rattle.shop_app.proofs.cited.Chosen.{opens_at}
use Rattle.shop_app.proofs.SessionLemmas.{posted, is_first}
use Rattle.shop_app.proofs.alone.first_worker.Goals as goal

pub open-requires : goal.open-requires
open-requires c = opens_at c.in_ok-tables.tables c.args.asked.limit c.requires c.in_ok-tables.ensures.sound c.in_ok-tables.ensures.room c.in_ok-tables.ensures.born c.in_ok-tables.ensures.born_items

pub new-requires-2 : goal.new-requires-2
new-requires-2 c =
    posted c.args.asked c.in_ok-tables.tables c.new.result c.in_ok-book.book c.new.ensures.value c.in_ok-book.ensures.value c.in_ok-tables.ensures.value
    _ c.in_ok-index.ensures c.new.ensures.valid

pub returns : goal.returns
returns c =
    IfOk-weaker c.new-2.result _ _
    (is_first c.args.asked c.in_ok-tables.tables c.new.result c.in_ok-book.book c.new.ensures.value c.in_ok-book.ensures.value c.in_ok-tables.ensures.value)
    c.new-2.ensures
