use Rattle.std.proofs.Common.{IsTrue, subst}
use Rattle.shop_browse.proofs.NamesLemmas.{details_there, none_added}
use Rattle.shop_browse.proofs.names.unread_labels.Goals as goal

pub returns-then-is_some : goal.returns-then-is_some
returns-then-is_some c =
    none_added c.args.index.now c.args.count (details_there c.details.result _ _ c.details.ensures (subst IsTrue c.is_some.ensures c.if-is_some.true)) c.args.items.now
