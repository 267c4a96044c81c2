-- Why a poll of lanes is put off, and what it waits for.
use Rattle.std.proofs.Common.{◌≡◌, ⊎_elim, ℕ, ◌≤◌, ◌<◌, length, refl, sym, ◌∙◌, subst, arith, inl, inr}
use Rattle.std.proofs.lemmas.Bool.{cases_lt}
use Rattle.std.proofs.lemmas.List.{get_or_past}
use Rattle.futures.specs.Task.{Covers, Hears, IsArmed, Keeps}
use Rattle.futures.specs.declared.task.context.Context.{Context}
use Rattle.shop_edges.specs.Causes.{Rose}
use Rattle.shop_places.specs.Spots.{IsFree}
use Rattle.shop_places.specs.declared.spot.Spot.{Spot}
use Rattle.shop_places.specs.declared.spot.Spot.TheVariants.{Free, Busy, Gone}
use Rattle.shop_lanes.specs.declared.berth.Berth as berth
use Rattle.shop_lanes.specs.declared.pool.Pool.{Pool}
use Rattle.shop_lanes.specs.Pools.{CanGoOn, IsGoing, IsOpen, Meanings}
use Rattle.shop_lanes.specs.Spots.{NoneBusy, lane_at}
use Rattle.shop_lanes.specs.Turns.{Accepts, AwaitsLink, HadTurn, MayBegin, Turns}
use Rattle.shop_lanes.specs.Waits.{HasMore, IsPutOff, IsWaiting, NeedsOf, ServesIn}
use Rattle.shop_lanes.proofs.Spots.{busy_is, is_free}
use Rattle.shop_lanes.proofs.Turns.{keeps_covers}

module _ {B V I O P : Type 0} (by : berth.Ghosts B I O P V) (cx : Context) (served : Type 0) where
  -- a lane that is busy after its turn was so before it, and what it serves was put off
  was_busy : (old : Spot B V) (link' : ℕ) (serving' : V) → HadTurn by cx served old (Busy link' serving')
      → (link : ℕ) × (serving : V) × (old ≡ Busy link serving) × by.puts_off serving serving' × Covers cx (by.needs serving')
  was_busy (Free b) link' serving' turned = absurd cc
  was_busy (Busy link serving) link' serving' turned = (link, serving, refl, turned.0, turned.1)
  was_busy Gone link' serving' turned = absurd cc

  -- and one that is free was so before it, unless a link was served
  was_free : (old new : Spot B V) → HadTurn by cx served old new → (served → ⊥) → IsFree new → IsFree old
  was_free (Free b) new turned none free = tt
  was_free (Busy link serving) (Free b) turned none free = none turned
  was_free (Busy link serving) (Busy link' serving') turned none free = free
  was_free (Busy link serving) Gone turned none free = turned
  was_free Gone new turned none free = subst IsFree turned free

module _ {L B V I O P : Type 0} (by : Meanings L B V I O P) where
  -- what a lane serves, it served before, or began with
  serves_in : (old mid : Spot B V) (link : ℕ) (serving : V) → MayBegin by old mid → mid ≡ Busy link serving → ServesIn by old serving
  serves_in old mid link serving begun is = busy_in old (subst (MayBegin by old) is begun)
    where
      busy_in : (old : Spot B V) → MayBegin by old (Busy link serving) → ServesIn by old serving
      busy_in (Free b) (inl same) = absurd cc
      busy_in (Free b) (inr began) = began
      busy_in (Busy l s) (inl same) = cc
      busy_in (Busy l s) (inr began) = absurd began
      busy_in Gone (inl same) = absurd cc
      busy_in Gone (inr began) = absurd began

  module _ (old mid new : Pool L B V P) (cxm cx : Context) (turns : Turns by (length mid.lanes.items) mid new cx) (none : HasMore mid new → ⊥) (keeps : Keeps cxm cx)
      (awaits : AwaitsLink by old mid cxm) (going : IsGoing new) (live : CanGoOn by.0.can_poll new) where
    turned : (at : ℕ) → HadTurn by.0 cx (HasMore mid new) (lane_at at mid.lanes.items) (lane_at at new.lanes.items)
    turned at =
        ⊎_elim (λ (low : at < length mid.lanes.items). turns.turned at low)
        (λ (behind : length mid.lanes.items ≤ at).
        let gone : lane_at at mid.lanes.items ≡ Gone = get_or_past mid.lanes.items at Gone behind in
        subst (λ (s : Spot B V). HadTurn by.0 cx (HasMore mid new) s (lane_at at new.lanes.items)) (sym gone) (turns.others at behind ∙ gone))
        (cases_lt at (length mid.lanes.items))

    same_listener : new.listener ≡ mid.listener
    same_listener = ⊎_elim (λ (more : HasMore mid new). absurd (none more)) (λ same. same) turns.reports.listener

    waiting_before : IsWaiting new → IsWaiting mid
    waiting_before waiting = (
      (omega (arith, waiting.0.0, turns.reports.accepted, turns.reports.links), sym turns.reports.ended ∙ waiting.0.1),
      (waiting.1.0, was_free by.0 cx (HasMore mid new) (lane_at waiting.1.0 mid.lanes.items) (lane_at waiting.1.0 new.lanes.items) (turned waiting.1.0) none waiting.1.1),
    )

    lane_before : (at link' : ℕ) (serving' : V) → lane_at at new.lanes.items ≡ Busy link' serving'
        → (link : ℕ) × (serving : V) × (lane_at at mid.lanes.items ≡ Busy link serving) × by.0.puts_off serving serving' × Covers cx (by.0.needs serving')
    lane_before at link' serving' is =
        was_busy by.0 cx (HasMore mid new) (lane_at at mid.lanes.items) link' serving' (subst (HadTurn by.0 cx (HasMore mid new) (lane_at at mid.lanes.items)) is (turned at))

    is_waiting : NoneBusy new.lanes.items → IsOpen new → IsWaiting new
    is_waiting idle is_open = (is_open, (0, is_free by.0.can_poll (lane_at 0 new.lanes.items) (live.here 0 Gone live.some) (idle 0)))

    listener_covers : IsWaiting new → Covers cx (by.1.needs new.listener)
    listener_covers waiting = subst (λ (l : L). Covers cx (by.1.needs l)) (sym same_listener) (keeps_covers cxm cx (by.1.needs mid.listener) keeps (awaits (waiting_before waiting)).1)

    armed : IsGoing new → IsArmed cx
    armed (inl (at, busy)) =
        let is = busy_is (lane_at at new.lanes.items) busy in
        (lane_before at is.0 is.1 is.2).4.0
    armed (inr (idle, is_open)) = (listener_covers (is_waiting idle is_open)).0

    heard : (event : ℕ) → NeedsOf by new event → Hears cx event
    heard event (inl (at, link, serving, is, need)) = (lane_before at link serving is).4.1 event need
    heard event (inr (waiting, need)) = (listener_covers waiting).1 event need

    pub registers : Covers cx (NeedsOf by new)
    registers = (armed going, heard)

    put_off : IsGoing new → Accepts by old mid → IsPutOff by old new cx
    put_off (inl (at, busy)) accepts =
        let is = busy_is (lane_at at new.lanes.items) busy in
        let was = lane_before at is.0 is.1 is.2 in
        inr (inl (at, is.0, was.1, is.1, serves_in (lane_at at old.lanes.items) (lane_at at mid.lanes.items) was.0 was.1 (accepts.begun at) was.2, is.2, was.3))
    put_off (inr (idle, is_open)) accepts =
        inl (subst (λ (l : L). Rose (by.1.waits old.listener) (by.1.waits l)) (sym same_listener) (awaits (waiting_before (is_waiting idle is_open))).0)

    pub is_put_off : Accepts by old mid → IsPutOff by old new cx
    is_put_off accepts = put_off going accepts
