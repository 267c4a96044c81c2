use Rattle.std.proofs.Common.{sym, subst}
use Rattle.shop_draft.specs.Pages.{IsPage}
use Rattle.shop_engine.proofs.SettleLemmas.{list_is}
use Rattle.shop_engine.proofs.TriesLemmas.{again_is, no_room}
use Rattle.shop_engine.proofs.settles.settle_list.Goals as goal

pub returns-in_default-clause-tried : goal.returns-in_default-clause-tried
returns-in_default-clause-tried g c start kept answers looked has list = no_room _ _ _ looked

pub returns-in-Done-clause-tried : goal.returns-in-Done-clause-tried
returns-in-Done-clause-tried g c start kept answers looked has list =
    let settled = c.settle.ensures in
    list_is _ _ _ _ _ _ _ _ _ _ _ looked settled.follows settled.valid settled.settles c.requires.caller has list c.in-Done.ensures.settled
    (λ page is. c.finish.ensures page (subst (λ d. IsPage d c.in-Done.drawn page) (sym c.reserve.ensures.draft) is))

pub returns-in-Stale-clause-tried : goal.returns-in-Stale-clause-tried
returns-in-Stale-clause-tried g c start kept answers looked has list =
    let settled = c.settle.ensures in
    again_is _ _ _ _ _ _ looked settled.follows settled.settles list.ready.attempts c.in-Stale.ensures.settled
