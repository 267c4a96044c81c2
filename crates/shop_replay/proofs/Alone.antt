-- Where nobody else changes a shop, its tables agree with all that a caller reads.
use Rattle.std.proofs.Common.{◌≡◌, ◌≢◌, ℕ, eqb, List, [], ◌∷◌, length, Some, None, IsSome, refl, sym, ◌∙◌, ap, subst, arith}
use Rattle.std.proofs.lemmas.Bool.{eq-eqb, cond-true}
use Rattle.shop_model.specs.asked.PurchaseAsked.{PurchaseAsked}
use Rattle.shop_model.specs.pages.Show.{check}
use Rattle.shop_history.specs.declared.acts.Act.{Act}
use Rattle.shop_history.specs.declared.acts.Act.TheVariants.{Confirm}
use Rattle.shop_history.specs.declared.acts.Entry.{Entry}
use Rattle.shop_history.specs.Acts.{request_of}
use Rattle.shop_history.specs.Logs.{tables, version_of}
use Rattle.shop_draft.specs.declared.draft.Draft.{Draft}
use Rattle.shop_attempt.specs.declared.attempts.Attempt.{Attempt}
use Rattle.shop_attempt.specs.declared.attempts.ReadOf.{ReadOf}
use Rattle.shop_attempt.specs.Reads.{Agrees, first_stale}
use Rattle.shop_attempt.specs.Seats.{Seat, IsSeat, Looked}
use Rattle.shop_attempt.proofs.cited.Settles.{agrees_now}
use Rattle.shop_browse.specs.Attempts.{Asking, AreReadFor, IsAttempt, IsDraftOf, IsFree, IsPayable, IsReady}
use Rattle.shop_replay.specs.Tries.{IsTryOf, IsPaidBy, asking_for}
use Rattle.shop_replay.proofs.Acts.{free_act, page_refuses}

fresh_alone : (start now : Seat) (asking : Asking) (reads : List ReadOf) → now.seen ≡ start.seen → AreReadFor start now asking reads → first_stale now.opening now.seen reads ≡ None
fresh_alone start now asking [] same are = refl
fresh_alone start now asking (read ∷ reads) same are =
    let version : version_of now.opening now.seen read.key ≡ read.version
    = ap (λ (log : List Entry). version_of now.opening log read.key) same ∙ are.0.since.since (omega (arith, are.0.since.holds.within, ap length same)) in
    cond-true (eqb (version_of now.opening now.seen read.key) read.version) (first_stale now.opening now.seen reads) _ (eq-eqb (version_of now.opening now.seen read.key) read.version version)
    ∙ fresh_alone start now asking reads same are.1

-- a caller who is the only one made an attempt
module _ (start now : Seat) (valid : IsSeat start) (told : IsSome start.latest) (looked : Looked start now) (asking : Asking) where
  pub fresh_attempt : (attempt : Attempt) → IsAttempt start now asking attempt → first_stale now.opening now.seen attempt.reads ≡ None
  fresh_attempt attempt is = fresh_alone start now asking attempt.reads (looked.alone told) is.reads

  pub agrees_alone : (attempt : Attempt) → IsAttempt start now asking attempt → Agrees now.opening (tables now.opening now.seen) attempt.reads
  agrees_alone attempt is =
      let seat : IsSeat now = looked.follows.valid valid in
      agrees_now now.opening now.limit now.seen attempt.reads seat.good seat.legal seat.short is.faithful.reads_are (fresh_attempt attempt is)

-- of the act of an entry
module _ (start now : Seat) (valid : IsSeat start) (told : IsSome start.latest) (looked : Looked start now) (entry : Entry) where
  abbrev asking : Asking
  asking = asking_for entry.stamp entry.act

  try_is : (attempt : Attempt) → IsAttempt start now asking attempt → attempt.act ≡ Some entry.act → IsTryOf now entry attempt
  try_is attempt is does = record {
    faithful = is.faithful;
    fresh = fresh_attempt start now valid told looked asking attempt is;
    at = is.at;
    does = does;
  }

  pub ready_try : (draft : Draft) (attempt : Attempt) (act : Act) → IsReady start now asking draft attempt → attempt.act ≡ Some act → IsFree attempt.act → IsTryOf now entry attempt
  ready_try draft attempt act ready does free =
      let drafts : IsDraftOf now.opening asking attempt.reads draft (Some act) = subst (IsDraftOf now.opening asking attempt.reads draft) does ready.drafts in
      try_is attempt ready.attempts (does ∙ ap Some (free_act act entry.act drafts.0 (subst IsFree does free)))

  pub paid_try : (asked : PurchaseAsked) (auth : List ℕ) (given attempt : Attempt) → IsPayable start now asking given → IsPaidBy asking asked auth given attempt
      → entry.act ≡ Confirm asked asking.draw auth asking.tax → IsTryOf now entry attempt
  paid_try asked auth given attempt payable paid is =
      let both = paid start now payable in
      try_is attempt both.0 (both.1 ∙ ap Some (sym is))

  -- a page alone
  pub page_only : (draft : Draft) (attempt : Attempt) → IsReady start now asking draft attempt → attempt.act ≡ None → check (tables now.opening now.seen) (request_of entry.act) ≢ None
  page_only draft attempt ready none =
      let drafts : IsDraftOf now.opening asking attempt.reads draft None = subst (IsDraftOf now.opening asking attempt.reads draft) none ready.drafts in
      let shown = drafts (tables now.opening now.seen) (agrees_alone start now valid told looked asking attempt ready.attempts) in
      page_refuses (tables now.opening now.seen) entry.act asking.draw shown.page shown.shows
