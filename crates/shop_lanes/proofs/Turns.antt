-- What is done at lanes, one lane after another.
use Rattle.std.proofs.Common.{◌≡◌, ◌≢◌, ⊎_elim, ℕ, zero, suc, ◌+◌, ◌≤◌, ◌<◌, List, length, set, refl, sym, ap, ◌∙◌, subst, arith, inl, inr, length-set}
use Rattle.std.proofs.lemmas.Bool.{cases_eq}
use Rattle.std.proofs.lemmas.List.{get_or-set_other, get_or-set_same, get_or_past, set-get_or}
use Rattle.futures.specs.Task.{Covers, Keeps, Lasting}
use Rattle.futures.specs.declared.task.context.Context.{Context}
use Rattle.shop_places.specs.declared.spot.Spot.{Spot}
use Rattle.shop_places.specs.declared.spot.Spot.TheVariants.{Free, Busy, Gone}
use Rattle.shop_lanes.specs.declared.berth.Berth as berth
use Rattle.shop_lanes.specs.declared.berth.Completed.{Completed}
use Rattle.shop_lanes.specs.declared.pool.Pool.{Pool}
use Rattle.shop_lanes.specs.Pools.{IsClosed, IsOpen, Meanings}
use Rattle.shop_lanes.specs.Spots.{IsBusy, lane_at}
use Rattle.shop_lanes.specs.Turns.{Accepts, AcceptsAt, Began, BeginsAt, Completes, EndsTurn, HadTurn, HasEnded, KeepsLanes, MayBegin, OnlyReports, TurnAt, Turns, TurnsOn}
use Rattle.shop_lanes.specs.Waits.{HasMore}
use Rattle.shop_lanes.proofs.Pools.{free_began, only_began, open_closed}
use Rattle.shop_lanes.proofs.Spots.{each_set}

-- a lane that stays is set to what it has
pub still : {B V : Type 0} (old new : List (Spot B V)) (at : ℕ) → new ≡ old → new ≡ set old at (lane_at at new)
still old new at same = same ∙ sym (set-get_or old at Gone) ∙ ap (λ l. set old at (lane_at at l)) (sym same)

-- and so is one that is set
pub set_as : {B V : Type 0} (old new : List (Spot B V)) (at : ℕ) (lane : Spot B V) → at < length old → new ≡ set old at lane → lane_at at new ≡ lane
set_as old new at lane inside only = ap (lane_at at) only ∙ get_or-set_same old at lane Gone inside

pub keeps_covers : (cx cx' : Context) (needs : ℕ → Type 0) → Keeps cx cx' → Covers cx needs → Covers cx' needs
keeps_covers cx cx' needs keeps covers = (keeps Lasting.armed covers.0, λ event need. keeps (Lasting.hears event) (covers.1 event need))

below_of : (k n : ℕ) → k < n + 1 → k ≢ n → k < n
below_of zero zero few apart = absurd (apart refl)
below_of zero (suc n) few apart = omega arith
below_of (suc k) zero few apart = absurd (omega (arith, few))
below_of (suc k) (suc n) few apart = omega (arith, below_of k n (omega (arith, few)) (λ e. apart (ap suc e)))

module _ {L B V I O P : Type 0} (by : Meanings L B V I O P) where
  begins_once : (old mid new : Spot B V) → MayBegin by old mid → MayBegin by mid new → MayBegin by old new
  begins_once old mid new (inl same) next = subst (λ (s : Spot B V). MayBegin by s new) same next
  begins_once old mid new (inr began) (inl same) = inr (subst (λ (s : Spot B V). Began by old s) (sym same) began)
  begins_once (Free b) (Free b') new (inr began) (inr next) = absurd began
  begins_once (Free b) (Busy link serving) new (inr began) (inr next) = absurd next
  begins_once (Free b) Gone new (inr began) (inr next) = absurd began
  begins_once (Busy l s) mid new (inr began) (inr next) = absurd began
  begins_once Gone mid new (inr began) (inr next) = absurd began

  -- no link was accepted
  pub accepts_kept : (at : ℕ) (old new : Pool L B V P) → IsOpen old → KeepsLanes old new → by.1.waits old.listener ≤ by.1.waits new.listener → AcceptsAt by at old new
  accepts_kept at old new is_open keeps later = record {
    only = still old.lanes.items new.lanes.items at (ap (λ p. p.lanes.items) keeps.0);
    begun = inl (ap (λ p. lane_at at p.lanes.items) keeps.0);
    closed = λ closed. open_closed old is_open closed;
    reports = keeps.1;
    later = later;
  }

  module _ (at : ℕ) (link : I × O) (old mid new : Pool L B V P) (keeps : KeepsLanes old mid) (same : mid.ended ≡ old.ended) (inside : at < length old.lanes.items) (begins : BeginsAt by at link mid new) where
    lane_began : lane_at at new.lanes.items ≡ Busy (old.accepted + 1) begins.serving
    lane_began = set_as old.lanes.items new.lanes.items at (Busy (old.accepted + 1) begins.serving) inside (only_began by at link old mid new keeps same inside begins)

    pub busy_began : IsBusy (lane_at at new.lanes.items)
    busy_began = subst IsBusy (sym lane_began) tt

    -- one was
    pub accepts_began : IsOpen old → by.1.waits old.listener ≤ by.1.waits mid.listener → AcceptsAt by at old new
    accepts_began is_open later = record {
      only = only_began by at link old mid new keeps same inside begins ∙ ap (set old.lanes.items at) (sym lane_began);
      begun = rw (free_began by at link old mid new keeps same inside begins, lane_began) (inr (begins.can_poll, (link.0, link.1, begins.serves)));
      closed = λ closed. open_closed old is_open closed;
      reports = ap (λ p. p.reports.items) begins.others ∙ keeps.1;
      later = omega (arith, later, ap (λ p. by.1.waits p.listener) begins.others);
    }

  pub accepts_none : (old : Pool L B V P) → Accepts by old old
  accepts_none old = record { size = refl; begun = λ at. inl refl; closed = λ closed. refl; reports = refl; later = omega arith }

  pub accepts_more : (at : ℕ) (old mid new : Pool L B V P) → at < length mid.lanes.items → Accepts by old mid → AcceptsAt by at mid new → Accepts by old new
  accepts_more at old mid new inside accepts one =
      let lane = lane_at at new.lanes.items in
      record {
        size = ap length one.only ∙ length-set mid.lanes.items at lane ∙ accepts.size;
        begun = λ k. begins_once (lane_at k old.lanes.items) (lane_at k mid.lanes.items) (lane_at k new.lanes.items) (accepts.begun k)
            (subst (λ (l : List (Spot B V)). MayBegin by (lane_at k mid.lanes.items) (lane_at k l)) (sym one.only)
            (each_set (λ n s. MayBegin by (lane_at n mid.lanes.items) s) mid.lanes.items at lane inside one.begun (λ n apart. inl refl) k));
        closed = λ closed. one.closed (subst IsClosed (sym (accepts.closed closed)) closed) ∙ accepts.closed closed;
        reports = one.reports ∙ accepts.reports;
        later = omega (arith, one.later, accepts.later);
      }

  -- the first lanes are busy, and so is the next
  pub busy_more : (at : ℕ) (mid new : Pool L B V P) → at < length mid.lanes.items → AcceptsAt by at mid new → IsBusy (lane_at at new.lanes.items)
      → ((k : ℕ) → k < at → IsBusy (lane_at k mid.lanes.items)) → (k : ℕ) → k < at + 1 → IsBusy (lane_at k new.lanes.items)
  busy_more at mid new inside one here busy k few =
      ⊎_elim (λ (same : k ≡ at). subst (λ (n : ℕ). IsBusy (lane_at n new.lanes.items)) (sym same) here)
      (λ (apart : k ≢ at).
      subst IsBusy (sym (ap (lane_at k) one.only ∙ get_or-set_other mid.lanes.items at k (lane_at at new.lanes.items) Gone apart)) (busy k (below_of k at few apart)))
      (cases_eq k at)

module _ {B V I O P : Type 0} (by : berth.Ghosts B I O P V) where
  pub turned_on : (cx : Context) (served : Type 0) (old new : Spot B V) → TurnsOn by cx old new → HadTurn by cx served old new
  turned_on cx served (Free b) new turned = turned
  turned_on cx served (Busy link serving) new turned = subst (HadTurn by cx served (Busy link serving)) (sym turned.1) (turned.4, turned.5)
  turned_on cx served Gone new turned = turned

  -- a lane that ended in its turn may be finished, and what is left then it served before
  pub has_ended : (old new : Spot B V) → EndsTurn by old new → HasEnded by new
  has_ended (Free b) new ends = absurd ends
  has_ended (Busy link serving) new ends = subst (HasEnded by) (sym ends.1) ends.2
  has_ended Gone new ends = absurd ends

  pub completes : (old new : Spot B V) (ended : ℕ × Completed B I O P) → EndsTurn by old new → Completes by new ended → Completes by old ended
  completes (Free b) new ended ends done = absurd ends
  completes (Busy link serving) new ended (serving', is, over, more) (serving'', same, gives) =
      let one : serving'' ≡ serving' = cc in
      (serving, cc, more ended.1 (subst (λ (v : V). by.gives v ended.1) one gives))
  completes Gone new ended ends done = absurd ends

  turned_later : (cx cx' : Context) → Keeps cx cx' → (served served' : Type 0) → (served → served') → (old new : Spot B V) → HadTurn by cx served old new → HadTurn by cx' served' old new
  turned_later cx cx' keeps served served' more (Free b) new turned = turned
  turned_later cx cx' keeps served served' more (Busy link serving) (Free b) turned = more turned
  turned_later cx cx' keeps served served' more (Busy link serving) (Busy link' serving') turned = (turned.0, keeps_covers cx cx' (by.needs serving') keeps turned.1)
  turned_later cx cx' keeps served served' more (Busy link serving) Gone turned = absurd turned
  turned_later cx cx' keeps served served' more Gone new turned = turned

module _ {L B V P : Type 0} where
  pub reports_none : (old : Pool L B V P) → OnlyReports old old
  reports_none old = record { more = omega arith; listener = inr refl; accepted = refl; links = refl; ended = refl }

  reports_more : (old mid new : Pool L B V P) → OnlyReports old mid → OnlyReports mid new → OnlyReports old new
  reports_more old mid new one other = record {
    more = omega (arith, one.more, other.more);
    listener = ⊎_elim (λ (more : HasMore mid new). inl (omega (arith, more, one.more)))
        (λ (same : new.listener ≡ mid.listener). ⊎_elim (λ (more : HasMore old mid). inl (omega (arith, more, other.more))) (λ (was : mid.listener ≡ old.listener). inr (same ∙ was)) one.listener) other.listener;
    accepted = other.accepted ∙ one.accepted;
    links = other.links ∙ one.links;
    ended = other.ended ∙ one.ended;
  }

module _ {L B V I O P : Type 0} (by : Meanings L B V I O P) where
  pub turns_none : (old : Pool L B V P) (cx : Context) → Turns by 0 old old cx
  turns_none old cx = record { size = refl; turned = λ at none. absurd (omega (arith, none)); others = λ at low. refl; reports = reports_none old }

  -- one lane more had its turn
  pub turns_more : (at : ℕ) (old mid new : Pool L B V P) (cxm cx : Context) → at < length mid.lanes.items → Turns by at old mid cxm → Keeps cxm cx → TurnAt by at mid new cx → Turns by (at + 1) old new cx
  turns_more at old mid new cxm cx inside turns keeps one =
      let lane = lane_at at new.lanes.items in
      let apart_is : (k : ℕ) → k ≢ at → lane_at k new.lanes.items ≡ lane_at k mid.lanes.items = λ k apart. ap (lane_at k) one.only ∙ get_or-set_other mid.lanes.items at k lane Gone apart in
      record {
        size = ap length one.only ∙ length-set mid.lanes.items at lane ∙ turns.size;
        turned = λ k few.
            ⊎_elim
            (λ (same : k ≡ at).
            subst (λ (n : ℕ). HadTurn by.0 cx (HasMore old new) (lane_at n old.lanes.items) (lane_at n new.lanes.items)) (sym same)
            (turned_later by.0 cx cx (λ fact held. held) (HasMore mid new) (HasMore old new) (λ more. omega (arith, more, turns.reports.more)) (lane_at at old.lanes.items) lane
            (subst (λ (s : Spot B V). HadTurn by.0 cx (HasMore mid new) s lane) (turns.others at (omega arith)) one.turned)))
            (λ (apart : k ≢ at).
            subst (HadTurn by.0 cx (HasMore old new) (lane_at k old.lanes.items)) (sym (apart_is k apart))
            (turned_later by.0 cxm cx keeps (HasMore old mid) (HasMore old new) (λ more. omega (arith, more, one.reports.more)) (lane_at k old.lanes.items) (lane_at k mid.lanes.items)
            (turns.turned k (below_of k at few apart))))
            (cases_eq k at);
        others = λ k high. apart_is k (λ same. omega (arith, same, high)) ∙ turns.others k (omega (arith, high));
        reports = reports_more old mid new turns.reports one.reports;
      }

  -- all had theirs
  pub turns_all : (at : ℕ) (old new : Pool L B V P) (cx : Context) → length old.lanes.items ≤ at → Turns by at old new cx → Turns by (length old.lanes.items) old new cx
  turns_all at old new cx most turns = record {
    size = turns.size;
    turned = λ k few. turns.turned k (omega (arith, few, most));
    others = λ k behind. get_or_past new.lanes.items k Gone (omega (arith, behind, turns.size)) ∙ sym (get_or_past old.lanes.items k Gone behind);
    reports = turns.reports;
  }

  -- where no links are to be accepted, none are
  pub stays_closed : (count : ℕ) (old mid new : Pool L B V P) (cx : Context) → Accepts by old mid → Turns by count mid new cx → IsClosed old → IsClosed new × (new.accepted ≡ old.accepted)
  stays_closed count old mid new cx accepts turns closed =
      let same : mid ≡ old = accepts.closed closed in
      let accepted : new.accepted ≡ old.accepted = turns.reports.accepted ∙ ap (λ p. p.accepted) same in
      let links : new.links ≡ old.links = turns.reports.links ∙ ap (λ p. p.links) same in
      let ended : new.ended ≡ old.ended = turns.reports.ended ∙ ap (λ p. p.ended) same in
      (rw (accepted, links, ended) closed, accepted)
