use Rattle.shop_app.proofs.cited.Chosen.{opens_at}
use Rattle.shop_app.proofs.cited.NewShops.{opens_new}
use Rattle.shop_app.proofs.shops.open_shop.Goals as goal

pub open-requires : goal.open-requires
open-requires g c = opens_at c.in_ok-tables.tables c.args.asked.limit c.requires.limit c.in_ok-tables.ensures.sound c.in_ok-tables.ensures.room c.in_ok-tables.ensures.born c.in_ok-tables.ensures.born_items

pub returns-clause-desks : goal.returns-clause-desks
returns-clause-desks g c = opens_new c.args.asked _ c.in_ok-tables.tables c.args.callers _ c.in_ok-book.ensures.value c.in_ok-tables.ensures.value c.in_ok-desks.ensures
