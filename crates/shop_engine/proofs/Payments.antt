-- What a gateway was asked, and said, over several tries.
use Rattle.std.proofs.Common.{◌≡◌, ◌⊎◌, inl, inr, ⊎_elim, List, [], ◌∷◌, ◌++◌, Option, Some, None, refl, sym, ◌∙◌, subst, arith}
use Rattle.std.specs.List.{All, Contains}
use Rattle.std.proofs.lemmas.List.Elements.{All-nil, All-head, All-append, Contains-append_right}
use Rattle.shop_model.specs.declared.requests.Request.{Request}
use Rattle.shop_model.specs.declared.requests.Request.TheVariants.{BuyConfirm}
use Rattle.shop_model.specs.declared.tables.Tables.{Tables}
use Rattle.shop_model.specs.declared.tax.TaxRule.TheVariants.{ByCountry}
use Rattle.shop_model.specs.asked.PurchaseAsked.{PurchaseAsked}
use Rattle.shop_edges.specs.declared.charge.Call.{Call}
use Rattle.shop_edges.specs.declared.gateway.Answer.{Answer}
use Rattle.shop_edges.specs.Gateways.{Answered}
use Rattle.shop_edges.specs.Payments.{Keeps, IsFor, AsksOnce}
use Rattle.shop_edges.proofs.cited.Answering.{answered_nothing, answered_more}
use Rattle.shop_history.specs.declared.acts.Act.{Act}
use Rattle.shop_history.specs.declared.acts.Act.TheVariants.{Confirm}
use Rattle.shop_attempt.specs.Seats.{Seat}
use Rattle.shop_browse.specs.Attempts.{IsFree}
use Rattle.shop_engine.specs.declared.tries.Job.{Job}
use Rattle.shop_engine.specs.Payments.{AreFor}
use Rattle.shop_engine.specs.Tries.{IsAnswerTo, IsPaidFor, HasAsked, Trying, Asks}

-- the answer that is kept

keeps_more : (a b c : Option Answer) (first then : List Answer) → Keeps a first b → Keeps b then c → Keeps a (first ++ then) c
keeps_more a b c [] then one more = subst (λ (o : Option Answer). Keeps o then c) one more
keeps_more a b c (answer ∷ first) then one more = (one.0, keeps_more (Some answer) b c first then one.1 more)

pub keeps_same : (a b c : Option Answer) (answers : List Answer) → Keeps a answers b → Keeps a answers c → b ≡ c
keeps_same a b c [] one other = one ∙ sym other
keeps_same a b c (answer ∷ answers) one other = keeps_same (Some answer) b c answers one.1 other.1

said_or_kept : (kept : Option Answer) (answers : List Answer) (answer : Answer) → Keeps kept answers (Some answer) → (kept ≡ Some answer) ⊎ Contains answers answer
said_or_kept kept [] answer keeps = inl (sym keeps)
said_or_kept kept (first ∷ answers) answer keeps = ⊎_elim
    (λ (same : Some first ≡ Some answer). inr (0, omega arith, cc))
    (λ (said : Contains answers answer). inr (Contains-append_right (first ∷ []) answers answer said))
    (said_or_kept (Some first) answers answer keeps.1)

-- what is kept was said
pub kept_said : (answers : List Answer) (answer : Answer) → Keeps None answers (Some answer) → Contains answers answer
kept_said answers answer keeps = ⊎_elim
    (λ (none : None ≡ Some answer). absurd cc)
    (λ (said : Contains answers answer). said)
    (said_or_kept None answers answer keeps)

-- what was asked for a job

none_asked : (answers : List Answer) → All (λ (a : Answer). ⊥) answers → answers ≡ []
none_asked [] all = refl
none_asked (answer ∷ answers) all = absurd (All-head (λ (a : Answer). ⊥) answer answers all)

are_for : (request : Request) (call : Call) (answers : List Answer) (kept : Option Answer) → All (IsAnswerTo request call) answers → Keeps None answers kept → AreFor request call answers
are_for (BuyConfirm asked) call answers kept charges keeps = ((kept, keeps), charges)
are_for _ call answers kept charges keeps = none_asked answers charges

-- nothing was asked
pub asked_none : (request : Request) (call : Call) → AreFor request call []
asked_none (BuyConfirm asked) call = ((None, refl), All-nil (IsFor asked call))
asked_none _ call = refl

-- by the caller who has a seat
pub asked_for : (seat : Seat) (job : Job) (answers : List Answer) (kept : Option Answer) → seat.caller ≡ job.call.caller → HasAsked job answers kept
    → AreFor job.request.now (record { caller = seat.caller; number = job.call.number }) answers
asked_for seat job answers kept caller asked =
    subst (λ c. AreFor job.request.now (record { caller = c; number = job.call.number }) answers) (sym caller)
    (are_for job.request.now job.call answers kept asked.charges asked.keeps)

pub asked_nothing : (job : Job) → job.ask.tax ≡ ByCountry → HasAsked job [] None
asked_nothing job tax = record { tax = tax; charges = All-nil (IsAnswerTo job.request.now job.call); keeps = refl }

-- nothing meanwhile
pub asks_nothing : (old new : Trying) (job : Job) → new.kept ≡ old.kept → new.told ≡ old.told → Asks old new job []
asks_nothing old new job kept told = record {
  charges = All-nil (IsAnswerTo job.request.now job.call);
  keeps = kept;
  told = subst (λ (o : Option (List Answer)). Answered old.told o []) (sym told) (answered_nothing old.told);
}

-- once at most meanwhile
pub asks_once : (old new : Trying) (job : Job) (asked : PurchaseAsked) → job.request.now ≡ BuyConfirm asked → (asks : AsksOnce asked job.call old.kept new.kept old.told new.told)
    → Asks old new job asks.answers
asks_once old new job asked is asks = record {
  charges = subst (λ (r : Request). All (IsAnswerTo r job.call) asks.answers) (sym is) asks.charges;
  keeps = asks.keeps;
  told = asks.answered;
}

pub asks_more : (a b c : Trying) (job : Job) (first then : List Answer) → Asks a b job first → Asks b c job then → Asks a c job (first ++ then)
asks_more a b c job first then one more = record {
  charges = All-append (IsAnswerTo job.request.now job.call) first then one.charges more.charges;
  keeps = keeps_more a.kept b.kept c.kept first then one.keeps more.keeps;
  told = answered_more a.told b.told c.told first then one.told more.told;
}

pub has_asked : (job : Job) (before answers : List Answer) (old new : Trying) → HasAsked job before old.kept → Asks old new job answers → HasAsked job (before ++ answers) new.kept
has_asked job before answers old new asked asks = record {
  tax = asked.tax;
  charges = All-append (IsAnswerTo job.request.now job.call) before answers asked.charges asks.charges;
  keeps = keeps_more None old.kept new.kept before answers asked.keeps asks.keeps;
}

-- what needs no payment is paid
pub free_paid : (act : Option Act) → IsFree act → (t : Tables) (call : Call) (answers : List Answer) → IsPaidFor act t call answers
free_paid None free t call answers = tt
free_paid (Some (Confirm asked draw auth tax)) free t call answers = absurd free
free_paid (Some _) free t call answers = tt
