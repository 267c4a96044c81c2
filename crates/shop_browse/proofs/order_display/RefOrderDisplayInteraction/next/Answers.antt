use Rattle.std.proofs.Common.{◌≡◌, ℕ, List, refl, sym, subst}
use Rattle.std.proofs.lemmas.Result.{IfOk-weaker}
use Rattle.shop_model.specs.declared.buying.OrderDisplay as asked_for
use Rattle.shop_model.specs.declared.requests.Request.TheVariants.{OrderDisplay}
use Rattle.shop_draft.specs.declared.draft.Draft.{Draft}
use Rattle.shop_attempt.specs.declared.attempts.ReadOf.{ReadOf}
use Rattle.shop_browse.specs.declared.attempted.Ask.{Ask}
use Rattle.shop_browse.specs.declared.driver.Next.{Next}
use Rattle.shop_browse.specs.Driver.{IsNext}
use Rattle.shop_browse.specs.OrderDisplay.{DisplaysNext, FollowsDisplay}
use Rattle.shop_browse.proofs.order_display.RefOrderDisplayInteraction.next.Goals as goal

-- what is next in this round
in_round : (asked : asked_for.OrderDisplay) (ask : Ask) (n round : ℕ) (reads : List ReadOf) (draft : Draft) (next : Next) → round ≡ n
    → DisplaysNext ask.index.now asked n reads draft next → IsNext (FollowsDisplay asked ask.index.now) (OrderDisplay asked) ask round reads draft next
in_round asked ask n round reads draft next is right =
    subst (λ r. IsNext (FollowsDisplay asked ask.index.now) (OrderDisplay asked) ask r reads draft next) (sym is) (right ask refl)

pub returns-in-1-clause-next : goal.returns-in-1-clause-next
returns-in-1-clause-next c =
    let ask = c.args.ask.now in
    IfOk-weaker c.by_name.result _ _ (λ next right. in_round c.args.self.now.now ask 1 c.args.round c.args.reads.now c.by_name.new.draft next c.in-1.is (right ask.index.now)) c.by_name.ensures

pub returns-in-2-clause-next : goal.returns-in-2-clause-next
returns-in-2-clause-next c =
    let ask = c.args.ask.now in
    IfOk-weaker c.by_customer.result _ _ (λ next right. in_round c.args.self.now.now ask 2 c.args.round c.args.reads.now c.by_customer.new.draft next c.in-2.is (right ask.index.now)) c.by_customer.ensures

pub returns-in-3-clause-next : goal.returns-in-3-clause-next
returns-in-3-clause-next c =
    let ask = c.args.ask.now in
    IfOk-weaker c.by_last.result _ _ (λ next right. in_round c.args.self.now.now ask 3 c.args.round c.args.reads.now c.by_last.new.draft next c.in-3.is (right ask.index.now)) c.by_last.ensures

pub returns-in-4-clause-next : goal.returns-in-4-clause-next
returns-in-4-clause-next c =
    let ask = c.args.ask.now in
    let draft = c.args.draft.now in
    in_round c.args.self.now.now ask 4 c.args.round c.args.reads.now draft c.by_order.result c.in-4.is (c.by_order.ensures ask.index.now draft)

pub returns-in-5-clause-next : goal.returns-in-5-clause-next
returns-in-5-clause-next c =
    let draft = c.args.draft.now in
    IfOk-weaker c.by_address.result _ _ (λ next right. in_round c.args.self.now.now c.args.ask.now 5 c.args.round c.args.reads.now draft next c.in-5.is (right draft)) c.by_address.ensures

pub returns-in_default-clause-next : goal.returns-in_default-clause-next
returns-in_default-clause-next c = IfOk-weaker c.by_all.result _ _ (λ next right. right c.args.round c.args.ask.now refl) c.by_all.ensures
