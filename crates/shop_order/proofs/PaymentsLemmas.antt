-- What is decided of a purchase is what comes of it, in whichever views of a seat it is one.
use Rattle.std.proofs.Common.{◌≡◌, ℕ, ◌+◌, List, length, Option, Some, refl, sym, ◌∙◌, ap, subst}
use Rattle.shop_model.specs.declared.requests.Request.TheVariants.{BuyConfirm}
use Rattle.shop_model.specs.declared.tables.Tables.{Tables}
use Rattle.shop_model.specs.declared.tax.TaxRule.{TaxRule}
use Rattle.shop_model.specs.asked.PurchaseAsked.{PurchaseAsked}
use Rattle.shop_model.specs.rows.Rows.{CustomerRow}
use Rattle.shop_model.specs.trade.Sales.{Terms, new_order, tables_bought}
use Rattle.shop_edges.specs.declared.charge.Call.{Call}
use Rattle.shop_edges.specs.declared.gateway.Answer.{Answer}
use Rattle.shop_edges.specs.declared.gateway.Reason.{Reason}
use Rattle.shop_edges.specs.declared.gateway.Verdict.{Verdict}
use Rattle.shop_edges.specs.Charges.{ChargeValue, charge_to, charge_due}
use Rattle.shop_history.specs.declared.acts.Act.{Act}
use Rattle.shop_history.specs.declared.acts.Act.TheVariants.{Confirm}
use Rattle.shop_history.specs.declared.acts.Drawn.{Drawn}
use Rattle.shop_history.specs.Acts.{play}
use Rattle.shop_history.specs.Drawing.{new_id, new_ids}
use Rattle.shop_history.proofs.cited.Drawing.{id_pushed}
use Rattle.shop_draft.specs.declared.draft.Draft.{Draft}
use Rattle.shop_draft.specs.Drawing.{or_zero}
use Rattle.shop_draft.specs.Pages.{IsPage}
use Rattle.shop_attempt.specs.declared.attempts.Attempt.{Attempt}
use Rattle.shop_attempt.specs.declared.attempts.Write.{Write}
use Rattle.shop_attempt.specs.Faithful.{Makes}
use Rattle.shop_attempt.specs.Reads.{Agrees}
use Rattle.shop_attempt.specs.Writes.{written}
use Rattle.shop_browse.specs.declared.attempted.Ask.{Ask}
use Rattle.shop_browse.specs.Attempts.{Becomes, asking_of}
use Rattle.shop_order.specs.declared.buy_confirm.Paid.TheVariants as paid
use Rattle.shop_order.specs.declared.decision.Decision.TheVariants as decisions
use Rattle.shop_order.specs.Decisions.{Decides, answer_to}
use Rattle.shop_order.specs.Payments.{IsSettledBy, PaidAs, PaidFor}
use Rattle.shop_order.proofs.PurchaseWrites.{items_shown, customer_there, passes, charge_is, written_is, page_is}

module _ (ask : Ask) (asked : PurchaseAsked) (call : Call) (given : Attempt) (draft : Draft) (kept : Option Answer) where
  -- the answer that is kept settles it
  settles : (decision : _) (verdict : Verdict) (opening : Tables) → (is : Decides asked call (asking_of ask (BuyConfirm asked)) given.reads draft kept decision) → kept ≡ Some (answer_to call is.purchase is.bill verdict)
      → IsSettledBy opening ask.tax asked call given.reads kept verdict
  settles decision verdict opening is same t agrees = (
    passes t agrees.sound asked given.reads is.purchase is.is agrees.shows,
    same
        ∙ ap (λ (c : ChargeValue). Some (record { charge = c; verdict = verdict }))
        (ap (λ (a : PurchaseAsked). charge_to a call is.bill.totals.total) is.is.same
        ∙ charge_is t agrees.sound asked given.reads is.purchase is.is agrees.shows is.bill is.billed call
        ∙ ap (λ x. charge_due t x asked call) is.rule),
  )

  pub paid_denied : (reason : Reason) → Decides asked call (asking_of ask (BuyConfirm asked)) given.reads draft kept (decisions.Denied reason) → PaidFor (asking_of ask (BuyConfirm asked)) asked call given draft kept (paid.Denied given reason)
  paid_denied reason is start now payable = record {
    attempts = payable.attempts;
    reading = payable.reading;
    settled = settles (decisions.Denied reason) _ now.opening is is.decided.1;
    written = is.decided.0;
  }

  pub paid_failed : Decides asked call (asking_of ask (BuyConfirm asked)) given.reads draft kept decisions.Failed → PaidFor (asking_of ask (BuyConfirm asked)) asked call given draft kept paid.Failed
  paid_failed is start now payable = λ t agrees. passes t agrees.sound asked given.reads is.purchase is.is agrees.shows

  module _ (act : Act) (writes : List Write) (is : Decides asked call (asking_of ask (BuyConfirm asked)) given.reads draft kept (decisions.Approved act writes)) where
    abbrev auth : List ℕ
    auth = is.decided.0

    abbrev tax : TaxRule
    tax = is.purchase.tax

    abbrev terms : Terms
    terms = record { auth = auth; tax = tax }

    act_is : act ≡ Confirm asked ask.draw auth tax
    act_is = is.decided.1.act_is ∙ ap (λ (a : PurchaseAsked). Confirm a ask.draw auth tax) is.is.same

    makes : (opening t : Tables) (stamp : ℕ) → Agrees opening t given.reads → Makes t stamp (Confirm asked ask.draw auth tax) writes
    makes opening t stamp agrees = record {
      passes = passes t agrees.sound asked given.reads is.purchase is.is agrees.shows;
      tables_are =
          ap (written t stamp) (is.decided.1.writes_are t (items_shown t agrees.sound asked given.reads is.purchase is.is agrees.shows))
          ∙ written_is t agrees.sound asked given.reads is.purchase is.is agrees.shows is.bill is.billed stamp ask.draw auth agrees.room_for;
    }

    becomes : (opening t : Tables) (stamp : ℕ) → Agrees opening t given.reads → Becomes t stamp (Confirm asked ask.draw auth tax) draft
    becomes opening t stamp agrees front =
        let customer : CustomerRow = is.purchase.customer.now in
        let drawn : Drawn = record { front = front; stamp = stamp; ids = new_ids t (play t stamp (Confirm asked ask.draw auth tax)).tables } in
        let there = customer_there t agrees.sound asked given.reads is.purchase is.is agrees.shows in
        let id : or_zero drawn.ids.order ≡ length t.orders + 1
        = ap (λ (o : Option CustomerRow). or_zero (new_id t.orders (tables_bought t stamp ask.draw terms asked o).orders)) there
        ∙ ap or_zero (id_pushed t.orders (new_order t stamp ask.draw terms asked customer)) in
        subst (IsPage draft drawn) (page_is t agrees.sound asked given.reads is.purchase is.is agrees.shows is.bill is.billed stamp ask.draw auth drawn refl id)
        (is.decided.1.page t (items_shown t agrees.sound asked given.reads is.purchase is.is agrees.shows) drawn)

    pub paid_approved : PaidFor (asking_of ask (BuyConfirm asked)) asked call given draft kept (paid.Approved (record given { writes = Some writes; act = Some act }))
    paid_approved start now payable =
        subst (λ a. PaidAs start now (asking_of ask (BuyConfirm asked)) asked call given draft kept (paid.Approved (record given { writes = Some writes; act = Some a }))) (sym act_is) (record {
          auth = auth;
          ready = record {
            attempts = record {
              at = payable.attempts.at;
              drew = payable.attempts.drew;
              reads = payable.attempts.reads;
              faithful = record { reads_are = payable.attempts.faithful.reads_are; makes = λ t stamp agrees bound. makes now.opening t stamp agrees };
            };
            drafts = (record { does = refl; drew = refl; taxed = is.rule }, λ t stamp agrees bound. becomes now.opening t stamp agrees);
          };
          act = ap (λ x. Some (Confirm asked ask.draw auth x)) is.rule;
          settled = settles (decisions.Approved act writes) _ now.opening is is.decided.2;
        })
