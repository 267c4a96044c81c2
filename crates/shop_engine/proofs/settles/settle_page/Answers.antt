use Rattle.std.proofs.Common.{refl, sym, ◌∙◌, subst}
use Rattle.shop_draft.specs.Pages.{IsPage}
use Rattle.shop_engine.proofs.SettleLemmas.{shown_is, changed_is, full_is}
use Rattle.shop_engine.proofs.TriesLemmas.{again_is, not_taken, no_room}
use Rattle.shop_engine.proofs.settles.settle_page.Goals as goal

pub returns-in_default-clause-tried : goal.returns-in_default-clause-tried
returns-in_default-clause-tried g c start answers looked may = no_room _ _ _ looked

pub returns-then-changes-clause-tried : goal.returns-then-changes-clause-tried
returns-then-changes-clause-tried g c start answers looked may =
    let settled = c.settle.ensures in (
      refl,
      changed_is _ _ _ _ _ _ _ _ _ looked settled.follows settled.valid settled.settles may c.in-Done.ensures.settled (sym c.if-changes.ensures)
          (λ page is. c.finish.ensures page (subst (λ d. IsPage d c.in-Done.drawn page) (sym c.reserve.ensures.draft) is)),
    )

pub returns-else-changes-clause-tried : goal.returns-else-changes-clause-tried
returns-else-changes-clause-tried g c start answers looked may =
    let settled = c.settle.ensures in (
      refl,
      shown_is _ _ _ _ _ _ _ _ _ looked settled.follows settled.valid settled.settles may c.in-Done.ensures.settled (sym c.is_some-changes.ensures ∙ c.if-changes.false)
          (λ page is. c.finish.ensures page (subst (λ d. IsPage d c.in-Done.drawn page) (sym c.reserve.ensures.draft) is)),
    )

pub returns-in-Stale-clause-tried : goal.returns-in-Stale-clause-tried
returns-in-Stale-clause-tried g c start answers looked may =
    let settled = c.settle.ensures in
    again_is _ _ _ _ _ _ looked settled.follows settled.settles may.ready.attempts c.in-Stale.ensures.settled

pub returns-in-Memory-clause-tried : goal.returns-in-Memory-clause-tried
returns-in-Memory-clause-tried g c start answers looked may =
    let settled = c.settle.ensures in
    not_taken _ _ _ _ looked settled.follows settled.settles c.in-Memory.ensures.settled.0.refused

pub returns-in-Ok-refusal_reply-clause-tried : goal.returns-in-Ok-refusal_reply-clause-tried
returns-in-Ok-refusal_reply-clause-tried g c start answers looked may =
    let settled = c.settle.ensures in
    (refl, full_is _ _ _ _ _ _ _ _ _ looked settled.follows settled.valid settled.settles may c.in-Full.ensures.settled c.in-Ok-refusal_reply.ensures)

pub returns-in-Err-clause-tried : goal.returns-in-Err-clause-tried
returns-in-Err-clause-tried g c start answers looked may =
    let settled = c.settle.ensures in
    not_taken _ _ _ _ looked settled.follows settled.settles c.in-Full.ensures.settled.0.refused
