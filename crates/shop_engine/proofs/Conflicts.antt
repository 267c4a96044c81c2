-- Several tries, one after another.
use Rattle.std.proofs.Common.{◌≡◌, ℕ, zero, suc, ◌+◌, ◌-◌, ◌<◌, ◌≤◌, refl, List, [], ◌∷◌, ◌++◌, length, length-append, All, AllPairs, Some, None, IsSome, slice_get, get_or, sym, ◌∙◌, ap, subst, arith, ⊎_elim}
use Rattle.std.proofs.lemmas.Bool.{cases_lt}
use Rattle.std.proofs.lemmas.List.Elements.{All-nil, All-push, All-weaker}
use Rattle.std.proofs.lemmas.List.Quantifiers.{all_pairs_push}
use Rattle.shop_log.specs.Histories.{ChangedAt}
use Rattle.shop_log.proofs.cited.Shortest.{changed_by}
use Rattle.shop_log.proofs.cited.Versions.{changed_longer}
use Rattle.shop_model.specs.declared.tables.Tables.{Tables}
use Rattle.shop_model.specs.declared.tax.TaxRule.TheVariants.{ByCountry}
use Rattle.shop_edges.specs.declared.gateway.Answer.{Answer}
use Rattle.shop_edges.specs.Gateways.{Answered}
use Rattle.shop_edges.proofs.cited.Answering.{answered_nothing, answered_more}
use Rattle.shop_history.specs.declared.acts.Entry.{Entry}
use Rattle.shop_history.specs.Logs.{history, version_of}
use Rattle.shop_attempt.specs.declared.attempts.Conflict.{Conflict}
use Rattle.shop_attempt.specs.Conflicts.{IsConflict}
use Rattle.shop_attempt.specs.Seats.{Seat, Follows}
use Rattle.shop_engine.specs.declared.tries.Job.{Job}
use Rattle.shop_engine.specs.declared.tries.Tried.{Tried}
use Rattle.shop_engine.specs.declared.tries.Tried.TheVariants.{Again}
use Rattle.shop_engine.specs.Decided.{IsMet}
use Rattle.shop_engine.specs.Seats.{Stays}
use Rattle.shop_engine.specs.Tries.{IsAgain, IsTried, HasAsked, TriedAs, Trying}
use Rattle.shop_engine.proofs.Footprints.{footprint_later}
use Rattle.shop_engine.proofs.Payments.{asked_nothing, has_asked}
use Rattle.shop_engine.proofs.Seats.{stays_same, stays_trans, still_told}

-- entries of a log in a longer one
same_place : (log rest : List Entry) (i : ℕ) → i < length log → slice_get (log ++ rest) i ≡ slice_get log i
same_place [] rest i within = absurd (omega (arith, within))
same_place (first ∷ log) rest zero within = refl
same_place (first ∷ log) rest (suc i) within = same_place log rest i (omega (arith, within))

-- a conflict stays one

pub conflict_later : (old new : Seat) (conflict : Conflict) → Follows old new → IsConflict old.opening old.seen old.caller conflict → IsConflict new.opening new.seen new.caller conflict
conflict_later old new conflict follows was =
    let changed : ChangedAt history new.opening old.seen conflict.key conflict.found = subst (λ t. ChangedAt history t old.seen conflict.key conflict.found) (sym follows.opening) was.overtaken.changed in
    record {
      overtaken = record { later = was.overtaken.later; changed = changed_longer history new.opening old.seen new.seen conflict.key conflict.found follows.grows changed };
      other = λ entry at same.
          let here : slice_get (old.seen ++ follows.grows.rest) (conflict.found - 1) ≡ Some entry = ap (λ (log : List Entry). slice_get log (conflict.found - 1)) (sym follows.grows.is) ∙ at in
          was.other entry (sym (same_place old.seen follows.grows.rest (conflict.found - 1) (omega (arith, changed.some, changed.within))) ∙ here) (same ∙ follows.caller);
    }

met_later : (start old new : Seat) (job : Job) → Follows old new → (conflict : Conflict) → IsMet start old job.request.now job.ask.draw conflict → IsMet start new job.request.now job.ask.draw conflict
met_later start old new job follows conflict was = record {
  conflicts = conflict_later old new conflict follows was.conflicts;
  footprint = footprint_later old new job.request.now job.ask.draw conflict.key follows was.footprint;
  above = was.above;
}

-- one conflict more

-- what was found before the try began is read by it, or something later
reads_later : (old new : Seat) (job : Job) (first conflict : Conflict) → IsConflict old.opening old.seen old.caller first → IsAgain old new job conflict
    → conflict.key ≡ first.key → first.found ≤ conflict.read
reads_later old new job first conflict was again same = ⊎_elim
    (λ (after : length old.seen < conflict.read). omega (arith, after, was.overtaken.changed.within))
    (λ (early : conflict.read ≤ length old.seen).
    let at : version_of old.opening old.seen first.key ≡ conflict.read
    = ap (λ (t : Tables). version_of t old.seen first.key) (sym again.stays.follows.opening) ∙ ap (version_of new.opening old.seen) (sym same) ∙ again.since early in
    omega (arith, at, changed_by history old.opening old.seen first.key first.found was.overtaken.changed))
    (cases_lt (length old.seen) conflict.read)

-- what the loop over the tries keeps: each met a conflict, and none was made where the caller is the only one; and
-- each asked the gateway once at most
pub record MetSoFar (start now : Trying) (job : Job) (conflicts : List Conflict) (tried : ℕ) : Type 0 where
  pub answers : List Answer
  pub few : length answers ≤ tried
  pub asked : HasAsked job answers now.kept
  pub told : Answered start.told now.told answers
  pub stays : Stays start.seat now.seat [] tried job.ask.moment
  pub count : length conflicts ≡ tried
  pub met : All (IsMet start.seat now.seat job.request.now job.ask.draw) conflicts
  pub rise : AllPairs (λ first later. first.found < later.found) conflicts
  pub again : AllPairs (λ first later. later.key ≡ first.key → first.found ≤ later.read) conflicts
  pub alone : IsSome start.seat.latest → tried ≡ 0

pub none_met : (start now : Trying) (job : Job) (conflicts : List Conflict) → job.ask.tax ≡ ByCountry → now ≡ start → start.kept ≡ None → conflicts ≡ [] → MetSoFar start now job conflicts 0
none_met start now job conflicts tax same kept none = rw (same, none) (record {
  answers = [];
  few = omega arith;
  asked = subst (HasAsked job []) (sym kept) (asked_nothing job tax);
  told = answered_nothing start.told;
  stays = stays_same start.seat job.ask.moment;
  count = refl;
  met = All-nil (IsMet start.seat start.seat job.request.now job.ask.draw);
  rise = λ i j d less within. absurd (omega (arith, less, within));
  again = λ i j d less within. absurd (omega (arith, less, within));
  alone = λ told. refl;
})

-- what the gateway was asked with one try more
module _ (start old new : Trying) (job : Job) (conflicts : List Conflict) (count : ℕ) (so_far : MetSoFar start old job conflicts count) (bytes : List ℕ) (tried : Tried) (is : IsTried old new job bytes tried) where
  pub all_asked : HasAsked job (so_far.answers ++ is.answers) new.kept
  all_asked = has_asked job so_far.answers is.answers old new so_far.asked is.asks

  pub all_told : Answered start.told new.told (so_far.answers ++ is.answers)
  all_told = answered_more start.told old.told new.told so_far.answers is.answers so_far.told is.asks.told

  pub few_more : length (so_far.answers ++ is.answers) ≤ count + 1
  few_more = omega (arith, length-append so_far.answers is.answers, so_far.few, is.few)

  pub tried_as : TriedAs old.seat new.seat job (so_far.answers ++ is.answers) bytes tried
  tried_as = is.is so_far.answers so_far.asked

pub met_more : (start old new : Trying) (job : Job) (conflicts longer : List Conflict) (tried : ℕ) (bytes : List ℕ) (conflict : Conflict) → longer ≡ conflicts ++ conflict ∷ []
    → MetSoFar start old job conflicts tried → IsTried old new job bytes (Again conflict) → MetSoFar start new job longer (tried + 1)
met_more start old new job conflicts longer tried bytes conflict is so_far was =
    let again : IsAgain old.seat new.seat job conflict = tried_as start old new job conflicts tried so_far bytes (Again conflict) was in
    rw is (record {
      answers = so_far.answers ++ was.answers;
      few = few_more start old new job conflicts tried so_far bytes (Again conflict) was;
      asked = all_asked start old new job conflicts tried so_far bytes (Again conflict) was;
      told = all_told start old new job conflicts tried so_far bytes (Again conflict) was;
      stays = stays_trans start.seat old.seat new.seat [] [] tried 1 job.ask.moment so_far.stays again.stays;
      count = length-append conflicts (conflict ∷ []) ∙ ap (λ n. n + 1) so_far.count;
      met = All-push (IsMet start.seat new.seat job.request.now job.ask.draw) conflicts conflict
          (All-weaker (IsMet start.seat old.seat job.request.now job.ask.draw) (IsMet start.seat new.seat job.request.now job.ask.draw)
          (met_later start.seat old.seat new.seat job again.stays.follows) conflicts so_far.met)
          (record {
            conflicts = again.met.conflicts;
            footprint = again.met.footprint;
            above = omega (arith, again.met.above, ap length so_far.stays.follows.grows.is, length-append start.seat.seen so_far.stays.follows.grows.rest);
          });
      rise = all_pairs_push (λ (first later : Conflict). first.found < later.found) conflicts conflict so_far.rise
          (λ k d within. omega (arith, (so_far.met k d within).conflicts.overtaken.changed.within, again.met.above));
      again = all_pairs_push (λ (first later : Conflict). later.key ≡ first.key → first.found ≤ later.read) conflicts conflict so_far.again
          (λ k d within. reads_later old.seat new.seat job (get_or conflicts k d) conflict (so_far.met k d within).conflicts again);
      alone = λ told. absurd (again.others (still_told start.seat.latest old.seat.latest job.ask.moment so_far.stays.stamp told));
    })
