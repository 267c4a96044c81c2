-- What a settle shows of an attempt whose page is written.
use Rattle.std.proofs.Common.{◌≡◌, ℕ, ◌+◌, ◌-◌, ◌≤◌, max, true, false, List, [], ◌∷◌, ◌++◌, length, Option, Some, None, IsSome, is_some, slice_get, refl, sym, ◌∙◌, ap, subst, arith, append_assoc, length-append}
use Rattle.std.proofs.lemmas.List.{take-append-le, take_all}
use Rattle.shop_log.specs.Histories.{Extends}
use Rattle.shop_log.proofs.cited.Extends.{extends_self, extends_trans}
use Rattle.shop_log.proofs.cited.Legality.{legal_shorter, legal_last}
use Rattle.shop_model.specs.declared.page.Page.{Page}
use Rattle.shop_model.specs.declared.refusal.Refusal.TheVariants.{FullLog}
use Rattle.shop_model.specs.declared.tables.Tables.{Tables}
use Rattle.shop_model.specs.rows.Limits.{stamp_limit}
use Rattle.shop_model.specs.rows.Lookups.{row_numbered}
use Rattle.shop_model.specs.pages.Show.{is_changing, check}
use Rattle.shop_model.specs.asked.Refusals.{page_of}
use Rattle.shop_edges.specs.declared.gateway.Answer.{Answer}
use Rattle.shop_history.specs.declared.acts.Act.{Act}
use Rattle.shop_history.specs.declared.acts.Act.TheVariants.{Cart}
use Rattle.shop_history.specs.declared.acts.Drawn.{Drawn}
use Rattle.shop_history.specs.declared.acts.Entry.{Entry}
use Rattle.shop_history.specs.declared.acts.Ids.{Ids}
use Rattle.shop_history.specs.Acts.{play, request_of, IsActOf}
use Rattle.shop_history.specs.Drawing.{new_ids}
use Rattle.shop_history.specs.Logs.{tables, page_at, Legal, MayFollow}
use Rattle.shop_history.proofs.cited.Places.{push_here, row_there}
use Rattle.shop_history.proofs.cited.Rows.{tables_push}
use Rattle.shop_cache.specs.declared.lines.ListLine.{ListLine}
use Rattle.shop_draft.specs.declared.draft.Draft.{Draft}
use Rattle.shop_draft.specs.Pages.{IsPage}
use Rattle.shop_attempt.specs.declared.attempts.Attempt.{Attempt}
use Rattle.shop_attempt.specs.declared.attempts.ReadOf.{ReadOf}
use Rattle.shop_attempt.specs.declared.attempts.Settle.TheVariants as settle
use Rattle.shop_attempt.specs.declared.attempts.Write.{Write}
use Rattle.shop_attempt.specs.Faithful.{Faithful, MakesAct}
use Rattle.shop_attempt.specs.Reads.{Agrees, AreTrue, first_stale}
use Rattle.shop_attempt.specs.Seats.{Seat, IsSeat, Follows, Looked, RoseOnce}
use Rattle.shop_attempt.specs.Settles.{Accepted, Confirmed, Added, DoneAs, SettledAs, raised}
use Rattle.shop_attempt.proofs.cited.Settles.{true_longer_all, agrees_now}
use Rattle.shop_pages.specs.Replies.{reply}
use Rattle.shop_browse.specs.Attempts.{IsDraftOf, IsList, IsReady, Becomes}
use Rattle.shop_engine.specs.declared.report.PointKind.TheVariants.{At, Change, Full as FullKind}
use Rattle.shop_engine.specs.declared.tries.Job.{Job}
use Rattle.shop_engine.specs.Payments.{IsPaid}
use Rattle.shop_engine.specs.Tries.{HasAsked, HasLines, IsAnswer, IsPaidFor, MaySettle, asking_for}
use Rattle.shop_engine.proofs.Payments.{asked_for}
use Rattle.shop_engine.proofs.Seats.{stamp_raised, entries_one, stays_found, stays_refused, stays_confirmed}

-- where no read is stale in the log found, the tables after it agree with the reads

pub agrees_found : (old new : Seat) (found : List Entry) (attempt : Attempt) → Follows old new → IsSeat new → Extends old.seen found → Extends found new.seen → Faithful old.opening old.seen attempt
    → first_stale new.opening found attempt.reads ≡ None → Agrees old.opening (tables new.opening found) attempt.reads
agrees_found old new found attempt follows seat grows begins faithful fresh =
    let were : AreTrue new.opening old.seen attempt.reads = subst (λ t. AreTrue t old.seen attempt.reads) (sym follows.opening) faithful.reads_are in
    let legal : Legal new.opening found = legal_shorter (MayFollow new.opening) found new.seen begins seat.legal in
    let short : length found ≤ new.limit = omega (arith, seat.short, ap length begins.is, length-append found begins.rest) in
    subst (λ t. Agrees t (tables new.opening found) attempt.reads) follows.opening
    (agrees_now new.opening new.limit found attempt.reads seat.good legal short
    (true_longer_all new.opening old.seen found attempt.reads grows were) fresh)

-- what an act decides

no_act : (act : Option Act) → is_some act ≡ false → act ≡ None
no_act None is = refl
no_act (Some act) is = absurd cc

some_act : (act : Option Act) → is_some act ≡ true → (does : Act) × (act ≡ Some does)
some_act None is = absurd cc
some_act (Some act) is = (act, refl)

-- a settle that was done without a change

read_is : (start old new : Seat) (job : Job) (answers : List Answer) (kept : Option Answer) (draft : Draft) (attempt : Attempt) (lines : Option (List ListLine)) (drawn : Drawn) (bytes : List ℕ)
    → Looked start old → Follows old new → IsSeat new → RoseOnce old.settles new.settles → old.caller ≡ job.call.caller → HasAsked job answers kept → IsReady start old (asking_for job) draft attempt → attempt.act ≡ None
    → (Agrees old.opening (tables new.opening new.seen) attempt.reads → HasLines new job.request.now At lines) → DoneAs old new attempt attempt.act drawn
    → ((page : Page) → IsPage draft drawn page → bytes ≡ reply page job.form) → IsAnswer start new job answers bytes (record { kind = At; front = drawn.front; tries = 1; lines = lines })
read_is start old new job answers kept draft attempt lines drawn bytes looked follows seat rose caller has ready none lined done bytes_are =
    let asking = asking_for job in
    let was : Confirmed old new attempt drawn = subst (λ o. DoneAs old new attempt o drawn) none done in
    let t : Tables = tables new.opening new.seen in
    let drafts : IsDraftOf old.opening asking attempt.reads draft None = subst (IsDraftOf old.opening asking attempt.reads draft) none ready.drafts in
    let agrees : Agrees old.opening t attempt.reads = agrees_found old new new.seen attempt follows seat was.accepted.is_found.grows (extends_self new.seen) ready.attempts.faithful was.accepted.fresh in
    let shown = drafts t agrees in
    record {
      made = [];
      page = shown.page;
      decided = record {
        stays = stays_confirmed start old new asking.moment attempt drawn looked follows rose ready.attempts.at was;
        some = omega arith;
        few = omega arith;
        alone = λ told. refl;
        asks = asked_for new job answers kept (follows.caller ∙ caller) has;
        cause = (refl, was.accepted.front);
        shows = shown.shows;
      };
      lines = lined agrees;
      bytes_are = bytes_are shown.page (shown.written drawn);
    }

pub shown_is : (start old new : Seat) (job : Job) (answers : List Answer) (draft : Draft) (attempt : Attempt) (drawn : Drawn) (bytes : List ℕ) → Looked start old → Follows old new → IsSeat new
    → RoseOnce old.settles new.settles → MaySettle start old job answers draft attempt → DoneAs old new attempt attempt.act drawn → is_some attempt.act ≡ false
    → ((page : Page) → IsPage draft drawn page → bytes ≡ reply page job.form) → IsAnswer start new job answers bytes (record { kind = At; front = drawn.front; tries = 1; lines = None })
shown_is start old new job answers draft attempt drawn bytes looked follows seat rose may done reads bytes_are =
    let none : attempt.act ≡ None = no_act attempt.act reads in
    read_is start old new job answers may.kept draft attempt None drawn bytes looked follows seat rose may.caller may.asked may.ready none (λ agrees. may.unlisted none) done bytes_are

-- of a list
pub list_is : (start old new : Seat) (job : Job) (answers : List Answer) (kept : Option Answer) (draft : Draft) (attempt : Attempt) (lines : List ListLine) (drawn : Drawn) (bytes : List ℕ)
    → Looked start old → Follows old new → IsSeat new → RoseOnce old.settles new.settles → old.caller ≡ job.call.caller → HasAsked job answers kept → IsList start old (asking_for job) draft attempt lines
    → DoneAs old new attempt attempt.act drawn → ((page : Page) → IsPage draft drawn page → bytes ≡ reply page job.form)
    → IsAnswer start new job answers bytes (record { kind = At; front = drawn.front; tries = 1; lines = Some lines })
list_is start old new job answers kept draft attempt lines drawn bytes looked follows seat rose caller has list done bytes_are =
    read_is start old new job answers kept draft attempt (Some lines) drawn bytes looked follows seat rose caller has list.ready list.reading (λ agrees. list.listed _ agrees) done bytes_are

-- a settle that was done as a change

-- the page of the last entry
last_page : (t : Tables) (log : List Entry) (entry : Entry) (number : ℕ) → number ≡ length (log ++ entry ∷ []) → page_at t (log ++ entry ∷ []) number ≡ Some (play (tables t log) entry.stamp entry.act).page
last_page t log entry number is =
    let long : length (log ++ entry ∷ []) ≡ length log + 1 = length-append log (entry ∷ []) in
    let at : number - 1 ≡ length log = omega (arith, is, long) in
    let there : row_numbered (log ++ entry ∷ []) number ≡ Some entry
    = row_there (log ++ entry ∷ []) number entry (record { above = omega (arith, is, long); at = ap (slice_get (log ++ entry ∷ [])) at ∙ push_here log entry }) in
    rw (there, at, take-append-le (length log) log (entry ∷ []) (omega arith), take_all (length log) log (omega arith))

exact_stamp : (latest now : Option ℕ) (moment stamp : ℕ) → (IsSome latest → now ≡ Some stamp) → now ≡ raised latest moment → (told : ℕ) → latest ≡ Some told → stamp ≡ max told moment
exact_stamp latest now moment stamp is rose told same =
    same_stamp stamp (max told moment) (sym (is (subst IsSome (sym same) refl)) ∙ rose ∙ ap (λ o. raised o moment) same)
  where
    same_stamp : (one other : ℕ) → Some one ≡ Some other → one ≡ other
    same_stamp one other is = cc

-- by the same caller, after the same log
paid_there : (t : Tables) (log same : List Entry) (caller by call : ℕ) (answers : List Answer) (act : Act) → same ≡ log → by ≡ caller
    → IsPaid (tables t log) (record { caller = caller; number = call }) answers act → IsPaid (tables t same) (record { caller = by; number = call }) answers act
paid_there t log same caller by call answers act log_is caller_is paid =
    subst (λ (l : List Entry). IsPaid (tables t l) (record { caller = by; number = call }) answers act) (sym log_is)
    (subst (λ c. IsPaid (tables t log) (record { caller = c; number = call }) answers act) (sym caller_is) paid)

pub changed_is : (start old new : Seat) (job : Job) (answers : List Answer) (draft : Draft) (attempt : Attempt) (drawn : Drawn) (bytes : List ℕ) → Looked start old → Follows old new → IsSeat new
    → RoseOnce old.settles new.settles → MaySettle start old job answers draft attempt → DoneAs old new attempt attempt.act drawn → is_some attempt.act ≡ true
    → ((page : Page) → IsPage draft drawn page → bytes ≡ reply page job.form) → IsAnswer start new job answers bytes (record { kind = Change; front = drawn.front; tries = 1; lines = None })
changed_is start old new job answers draft attempt drawn bytes looked follows seat rose may done changes bytes_are =
    let asking = asking_for job in
    let ready = may.ready in
    let some = some_act attempt.act changes in
    let act : Act = some.0 in
    let was : Added old new attempt act drawn = subst (λ o. DoneAs old new attempt o drawn) some.1 done in
    let accepted : Accepted old new was.before attempt drawn = was.accepted in
    let begins : Extends was.before new.seen = record { rest = was.entry ∷ []; is = was.seen } in
    let t : Tables = tables new.opening was.before in
    let drafts : IsDraftOf old.opening asking attempt.reads draft (Some act) = subst (IsDraftOf old.opening asking attempt.reads draft) some.1 ready.drafts in
    let follow : MayFollow new.opening was.before was.entry = legal_last (MayFollow new.opening) was.before was.entry (subst (Legal new.opening) was.seen seat.legal) in
    let agrees : Agrees old.opening t attempt.reads
    = agrees_found old new was.before attempt follows seat accepted.is_found.grows begins ready.attempts.faithful accepted.fresh in
    let becomes : Becomes t was.entry.stamp act draft = drafts.1 t was.entry.stamp agrees follow.bound in
    let paid : IsPaid t job.call answers act = subst (λ o. IsPaidFor o t job.call answers) some.1 (may.paid t agrees) in
    let ids_are : drawn.ids ≡ new_ids t (play t was.entry.stamp act).tables
    = was.ids
    ∙ ap (new_ids t) (ap (tables new.opening) was.seen ∙ tables_push new.opening was.before was.entry ∙ ap (λ a. (play t was.entry.stamp a).tables) was.does) in
    let at : Ids → ℕ → Drawn = λ ids stamp. record { front = drawn.front; stamp = stamp; ids = ids } in
    let same : at (new_ids t (play t was.entry.stamp act).tables) was.entry.stamp ≡ drawn
    = ap (at (new_ids t (play t was.entry.stamp act).tables)) was.stamp ∙ ap (λ ids. at ids drawn.stamp) (sym ids_are) in
    let page_is : IsPage draft drawn (play t was.entry.stamp was.entry.act).page
    = subst (λ a. IsPage draft drawn (play t was.entry.stamp a).page) (sym was.does)
    (subst (λ d. IsPage draft d (play t was.entry.stamp act).page) same (becomes drawn.front)) in
    let shows : page_at new.opening new.seen (length new.seen) ≡ Some (play t was.entry.stamp was.entry.act).page
    = ap (λ (log : List Entry). page_at new.opening log (length log)) was.seen ∙ last_page new.opening was.before was.entry (length (was.before ++ was.entry ∷ [])) refl in
    let caller : was.entry.caller ≡ old.caller = was.caller ∙ follows.caller in
    let begins_found : Extends start.seen was.before = extends_trans start.seen old.seen was.before looked.follows.grows accepted.is_found.grows in
    record {
      made = was.entry ∷ [];
      page = (play t was.entry.stamp was.entry.act).page;
      decided = record {
        stays =
            stays_found start old new was.before (was.entry ∷ []) asking.moment looked follows rose accepted.is_found was.seen (entries_one old.caller was.entry caller) was.own
            (omega (arith, accepted.greatest, ready.attempts.at))
            (stamp_raised old.latest new.latest asking.moment (accepted.latest ∙ ap (raised old.latest) ready.attempts.at));
        some = omega arith;
        few = omega arith;
        alone = λ told. refl;
        asks = asked_for new job answers may.kept (follows.caller ∙ may.caller) may.asked;
        cause = (
          record {
            between = begins_found.rest;
            entry = was.entry;
            made_is = refl;
            seen = was.seen ∙ ap (λ (log : List Entry). log ++ was.entry ∷ []) begins_found.is ∙ append_assoc start.seen begins_found.rest (was.entry ∷ []);
            caller = was.caller;
            does = subst (λ tax. IsActOf asking.request asking.draw tax was.entry.act) may.asked.tax (subst (IsActOf asking.request asking.draw asking.tax) (sym was.does) drafts.0);
            paid =
                paid_there new.opening was.before (start.seen ++ begins_found.rest) job.call.caller new.caller job.call.number answers was.entry.act (sym begins_found.is) (follows.caller ∙ may.caller)
                (subst (IsPaid t job.call answers) (sym was.does) paid);
            later = omega (arith, accepted.moment, ready.attempts.at, was.stamp);
            exact = λ told same.
                was.stamp
                ∙ exact_stamp start.latest new.latest asking.moment drawn.stamp (λ is. accepted.told (subst IsSome (sym looked.latest) is))
                (accepted.latest ∙ ap (raised old.latest) ready.attempts.at ∙ ap (λ o. raised o asking.moment) looked.latest) told same;
          },
          accepted.front,
        );
        shows = shows;
      };
      lines = tt;
      bytes_are = bytes_are (play t was.entry.stamp was.entry.act).page page_is;
    }

-- a settle that found the log full

act_changes : (act : Act) → is_changing (request_of act) ≡ true
act_changes (Cart asked draw) = refl
act_changes _ = refl

passes_there : (opening : Tables) (reads : List ReadOf) (act : Act) (writes : Option (List Write)) (t : Tables) (stamp : ℕ) → MakesAct opening reads (Some act) writes → Agrees opening t reads → stamp ≤ stamp_limit
    → check t (request_of act) ≡ None
passes_there opening reads act None t stamp makes agrees bound = absurd makes
passes_there opening reads act (Some writes) t stamp makes agrees bound = (makes t stamp agrees bound).passes

pub full_is : (start old new : Seat) (job : Job) (answers : List Answer) (draft : Draft) (attempt : Attempt) (size : ℕ) (bytes : List ℕ) → Looked start old → Follows old new → IsSeat new
    → RoseOnce old.settles new.settles → MaySettle start old job answers draft attempt → SettledAs old new attempt (settle.Full size)
    → bytes ≡ reply (page_of FullLog) job.form → IsAnswer start new job answers bytes (record { kind = FullKind; front = size; tries = 1; lines = None })
full_is start old new job answers draft attempt size bytes looked follows seat rose may settled bytes_are =
    let asking = asking_for job in
    let ready = may.ready in
    let some = some_act attempt.act settled.0.changes in
    let t : Tables = tables new.opening new.seen in
    let agrees : Agrees old.opening t attempt.reads
    = agrees_found old new new.seen attempt follows seat settled.0.refused.found.grows (extends_self new.seen) ready.attempts.faithful settled.0.fresh in
    let makes : MakesAct old.opening attempt.reads (Some some.0) attempt.writes = subst (λ o. MakesAct old.opening attempt.reads o attempt.writes) some.1 ready.attempts.faithful.makes in
    let drafts : IsDraftOf old.opening asking attempt.reads draft (Some some.0) = subst (IsDraftOf old.opening asking attempt.reads draft) some.1 ready.drafts in
    let paid : IsPaid t job.call answers some.0 = subst (λ o. IsPaidFor o t job.call answers) some.1 (may.paid t agrees) in
    record {
      made = [];
      page = page_of FullLog;
      decided = record {
        stays = stays_refused start old new asking.moment looked follows rose settled.0.refused;
        some = omega arith;
        few = omega arith;
        alone = λ told. refl;
        asks = asked_for new job answers may.kept (follows.caller ∙ may.caller) may.asked;
        cause = (
          record {
            limit = sym settled.1 ∙ settled.2;
            changes = ap is_changing (sym drafts.0.does) ∙ act_changes some.0;
            passes = ap (check t) (sym drafts.0.does) ∙ passes_there old.opening attempt.reads some.0 attempt.writes t 0 makes agrees (omega arith);
            paid = (some.0, subst (λ tax. IsActOf asking.request asking.draw tax some.0) may.asked.tax drafts.0, paid_there new.opening new.seen new.seen job.call.caller new.caller job.call.number answers some.0 refl (follows.caller ∙ may.caller) paid);
          },
          (refl, settled.1),
        );
        shows = refl;
      };
      lines = tt;
      bytes_are = bytes_are;
    }
