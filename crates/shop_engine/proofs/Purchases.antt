-- Purchases that a gateway denied, or at which it failed.
use Rattle.std.proofs.Common.{◌≡◌, ℕ, eqb, List, [], ◌∷◌, length, Option, Some, None, refl, sym, ◌∙◌, ap, subst, arith}
use Rattle.std.proofs.lemmas.Bool.{eq-eqb, cond-true}
use Rattle.shop_log.proofs.cited.Extends.{extends_self}
use Rattle.shop_model.specs.declared.page.Page.{Page}
use Rattle.shop_model.specs.declared.refusal.Refusal.TheVariants.{GatewayFailed}
use Rattle.shop_model.specs.declared.requests.Request.{Request}
use Rattle.shop_model.specs.declared.requests.Request.TheVariants.{BuyConfirm}
use Rattle.shop_model.specs.declared.tables.Tables.{Tables}
use Rattle.shop_model.specs.declared.tax.TaxRule.{TaxRule}
use Rattle.shop_model.specs.declared.tax.TaxRule.TheVariants.{ByCountry}
use Rattle.shop_model.specs.pages.Show.{check}
use Rattle.shop_model.specs.asked.PurchaseAsked.{PurchaseAsked}
use Rattle.shop_model.specs.asked.Refusals.{page_of}
use Rattle.shop_edges.specs.declared.gateway.Answer.{Answer}
use Rattle.shop_edges.specs.declared.gateway.Reason.{Reason}
use Rattle.shop_edges.specs.declared.gateway.Verdict.TheVariants as verdict
use Rattle.shop_edges.specs.Charges.{ChargeValue, charge_due, denial}
use Rattle.shop_edges.specs.Payments.{Keeps}
use Rattle.shop_history.specs.declared.acts.Act.{Act}
use Rattle.shop_history.specs.declared.acts.Drawn.{Drawn}
use Rattle.shop_history.specs.declared.acts.Entry.{Entry}
use Rattle.shop_history.specs.Logs.{tables, version_of}
use Rattle.shop_draft.specs.declared.draft.Draft.{Draft}
use Rattle.shop_draft.specs.Pages.{IsPage}
use Rattle.shop_attempt.specs.declared.attempts.Attempt.{Attempt}
use Rattle.shop_attempt.specs.declared.attempts.ReadOf.{ReadOf}
use Rattle.shop_attempt.specs.Reads.{Agrees, first_stale}
use Rattle.shop_attempt.specs.Seats.{Seat, IsSeat, Follows, Looked, RoseOnce}
use Rattle.shop_attempt.specs.Settles.{Confirmed, DoneAs}
use Rattle.shop_attempt.proofs.cited.Settles.{agrees_now}
use Rattle.shop_pages.specs.Replies.{reply}
use Rattle.shop_browse.specs.Attempts.{Asking, AreReadFor, IsPayable, asking_of}
use Rattle.shop_order.specs.declared.buy_confirm.Paid.{Paid}
use Rattle.shop_order.specs.declared.buy_confirm.Paid.TheVariants as paid
use Rattle.shop_order.specs.Payments.{PaidAs, PaidFor, IsDenied}
use Rattle.shop_engine.specs.declared.tries.Job.{Job}
use Rattle.shop_engine.specs.declared.tries.Tried.TheVariants.{Denied, Failed}
use Rattle.shop_engine.specs.Tries.{HasAsked, IsPaidFor, MaySettle, TriedAs, asking_for}
use Rattle.shop_engine.proofs.Payments.{asked_for, kept_said}
use Rattle.shop_engine.proofs.Seats.{stays_looked, stays_confirmed}
use Rattle.shop_engine.proofs.SettleLemmas.{agrees_found}

-- what came of a purchase whose rows are read

module _ (start now : Seat) (job : Job) (asked : PurchaseAsked) (given : Attempt) (draft : Draft) (kept : Option Answer) (buys : job.request.now ≡ BuyConfirm asked)
    (payable : IsPayable start now (asking_for job) given) where
  pub paid_is : (result : Paid) → PaidFor (asking_of job.ask (BuyConfirm asked)) asked job.call given draft kept result
      → PaidAs start now (asking_for job) asked job.call given draft kept result
  paid_is result is =
      subst (λ (r : Request). PaidAs start now (asking_of job.ask r) asked job.call given draft kept result) (sym buys)
      (is start now (subst (λ (r : Request). IsPayable start now (asking_of job.ask r) given) buys payable))

  pub approved_may : (attempt : Attempt) (answers : List Answer) → now.caller ≡ job.call.caller → HasAsked job answers kept
      → PaidFor (asking_of job.ask (BuyConfirm asked)) asked job.call given draft kept (paid.Approved attempt) → MaySettle start now job answers draft attempt
  approved_may attempt answers caller has is =
      let was = paid_is (paid.Approved attempt) is in
      record {
        caller = caller;
        kept = kept;
        asked = has;
        ready = was.ready;
        unlisted = λ none. absurd (cc (none, was.act));
        paid = λ t agrees.
            subst (λ (o : Option Act). IsPaidFor o t job.call answers) (sym was.act)
            (kept_said answers (record { charge = charge_due t job.ask.tax asked job.call; verdict = verdict.Approved was.auth }) (subst (Keeps None answers) (was.settled t agrees).1 has.keeps));
      }

-- a settle of a purchase that was denied

pub denied_is : (start old new : Seat) (job : Job) (asked : PurchaseAsked) (kept : Option Answer) (answers : List Answer) (draft : Draft) (attempt : Attempt) (reason : Reason) (drawn : Drawn) (bytes : List ℕ)
    → Looked start old → Follows old new → IsSeat new → RoseOnce old.settles new.settles → old.caller ≡ job.call.caller → job.request.now ≡ BuyConfirm asked → HasAsked job answers kept
    → IsDenied start old (asking_for job) asked job.call draft kept attempt reason → DoneAs old new attempt attempt.act drawn
    → ((page : Page) → IsPage draft drawn page → bytes ≡ reply page job.form) → TriedAs start new job answers bytes (Denied reason drawn.front)
denied_is start old new job asked kept answers draft attempt reason drawn bytes looked follows seat rose caller buys has denied done bytes_are =
    let was : Confirmed old new attempt drawn = subst (λ o. DoneAs old new attempt o drawn) denied.reading done in
    let t : Tables = tables new.opening new.seen in
    let settled = denied.settled t (agrees_found old new new.seen attempt follows seat was.accepted.is_found.grows (extends_self new.seen) denied.attempts.faithful was.accepted.fresh) in
    let charge : ChargeValue = charge_due t ByCountry asked job.call in
    let said : TaxRule → Answer = λ rule. record { charge = charge_due t rule asked job.call; verdict = verdict.Denied reason } in
    let keeps : Keeps None answers (Some (record { charge = charge; verdict = verdict.Denied reason }))
    = subst (Keeps None answers) (settled.1 ∙ ap (λ (rule : TaxRule). Some (said rule)) has.tax) has.keeps in (
      charge,
      keeps,
      record {
        made = [];
        page = page_of (denial reason);
        decided = record {
          stays = stays_confirmed start old new job.ask.moment attempt drawn looked follows rose denied.attempts.at was;
          some = omega arith;
          few = omega arith;
          alone = λ told. refl;
          asks = asked_for new job answers kept (follows.caller ∙ caller) has;
          cause = (
            rw (follows.caller, caller)
                (record {
                  asked = asked;
                  buys = buys;
                  passes = ap (check t) buys ∙ settled.0;
                  due = refl;
                  said = kept_said answers (record { charge = charge; verdict = verdict.Denied reason }) keeps;
                }),
            (refl, was.accepted.front),
          );
          shows = refl;
        };
        lines = tt;
        bytes_are = bytes_are (page_of (denial reason)) (denied.written drawn);
      },
    )

-- a gateway that failed, where the caller is the only one

fresh_alone : (start now : Seat) (asking : Asking) (reads : List ReadOf) → now.seen ≡ start.seen → AreReadFor start now asking reads → first_stale now.opening now.seen reads ≡ None
fresh_alone start now asking [] same are = refl
fresh_alone start now asking (read ∷ reads) same are =
    let version : version_of now.opening now.seen read.key ≡ read.version
    = ap (λ (log : List Entry). version_of now.opening log read.key) same ∙ are.0.since.since (omega (arith, are.0.since.holds.within, ap length same)) in
    cond-true (eqb (version_of now.opening now.seen read.key) read.version) (first_stale now.opening now.seen reads) _ (eq-eqb (version_of now.opening now.seen read.key) read.version version)
    ∙ fresh_alone start now asking reads same are.1

pub failed_is : (start now : Seat) (job : Job) (asked : PurchaseAsked) (kept : Option Answer) (answers : List Answer) (attempt : Attempt) (bytes : List ℕ)
    → Looked start now → IsSeat start → start.caller ≡ job.call.caller → job.request.now ≡ BuyConfirm asked → HasAsked job answers kept
    → IsPayable start now (asking_for job) attempt → ((t : Tables) → Agrees now.opening t attempt.reads → check t (BuyConfirm asked) ≡ None)
    → bytes ≡ reply (page_of GatewayFailed) job.form → TriedAs start now job answers bytes Failed
failed_is start now job asked kept answers attempt bytes looked seat caller buys has payable passes bytes_are =
    let t : Tables = tables now.opening now.seen in
    let valid : IsSeat now = looked.follows.valid seat in
    record {
      made = [];
      page = page_of GatewayFailed;
      decided = record {
        stays = stays_looked start now job.ask.moment looked;
        some = omega arith;
        few = omega arith;
        alone = λ told. refl;
        asks = asked_for now job answers kept (looked.follows.caller ∙ caller) has;
        cause = (
          record {
            asked = asked;
            buys = buys;
            passes = λ told.
                ap (check t) buys
                ∙ passes t
                (agrees_now now.opening now.limit now.seen attempt.reads valid.good valid.legal valid.short payable.attempts.faithful.reads_are
                (fresh_alone start now (asking_for job) attempt.reads (looked.alone told) payable.attempts.reads));
          },
          (refl, refl),
        );
        shows = refl;
      };
      lines = tt;
      bytes_are = bytes_are;
    }
