use Rattle.std.proofs.Common.{ap, sym}
use Rattle.shop_model.specs.lists.Catalogues.{opened}
use Rattle.race_tests.proofs.Posted.{first_posted, second_posted}
use Rattle.race_tests.proofs.opened.open_desks.Goals as goal

pub returns-clause-first : goal.returns-clause-first
returns-clause-first g c =
    first_posted _ _ _ _ c.in-Some-pop.first c.in-Some.second c.in_ok-desks.ensures c.in-Some.ensures.items c.in-Some-pop.ensures.items
    c.in_ok-tables.tables c.args.scale.now _ _ c.in_ok-book.ensures.value (ap opened (sym c.in_ok-tables.ensures.value))

pub returns-clause-second : goal.returns-clause-second
returns-clause-second g c =
    second_posted _ _ _ _ c.in-Some-pop.first c.in-Some.second c.in_ok-desks.ensures c.in-Some.ensures.items c.in-Some-pop.ensures.items
    c.in_ok-tables.tables c.args.scale.now _ _ c.in_ok-book.ensures.value (ap opened (sym c.in_ok-tables.ensures.value))
