-- What is done at places, one step after another.
use Rattle.std.proofs.Common.{◌≡◌, ◌≢◌, ℕ, zero, suc, ◌+◌, ◌≤◌, ◌<◌, List, [], ◌∷◌, ◌++◌, map, length, get_or, set, Some, Err, refl, sym, ap, ◌∙◌, subst, arith, length-append, length-set, set-set}
use Rattle.std.specs.Prelude.{slice_get, All, Result, Ok}
use Rattle.std.specs.Result.{IsErrAnd}
use Rattle.std.proofs.lemmas.List.Elements.{All-map, All-same, All-set}
use Rattle.shop_places.specs.Counts.{counted}
use Rattle.shop_places.specs.Listening.{Gave, GaveNone, Listening}
use Rattle.shop_places.specs.Outcomes.{AreDone, AreStarted, AreStopped, IsNoMore, IsOneMore, IsStopped, MayLose}
use Rattle.shop_places.specs.Places.{Continues, Idles, IsJobAt, Settles, SinceBy, SpotBy, StartsAt}
use Rattle.shop_places.specs.Since.{Start}
use Rattle.shop_places.specs.Spots.{Going, IsFree, IsFreeAt, IsIdle, IsThere, NoneGone, put_free}
use Rattle.shop_places.specs.Tickets.{IsTicket}
use Rattle.shop_places.specs.declared.job.Serving.{Serving}
use Rattle.shop_places.specs.declared.serving.Stop.{Stop}
use Rattle.shop_places.specs.declared.serving.Stop.TheVariants.{NoLink, NotStarted, Memory}
use Rattle.shop_places.specs.declared.spot.Spot.TheVariants.{Free, Busy, Gone}
use Rattle.shop_places.proofs.cited.Going.{ends, ends_idle, set_each}
use Rattle.shop_places.proofs.Progress.{since_back, since_gave, since_gave_none, since_gone, since_start, since_started}

-- what stands at a place is set there
same_set : {A : Type 0} (xs : List A) (at : ℕ) (x : A) → ((d : A) → x ≡ get_or xs at d) → at < length xs → set xs at x ≡ xs
same_set [] at x is within = absurd (omega (arith, within))
same_set (y ∷ xs) zero x is within = ap (λ z. z ∷ xs) (is y)
same_set (y ∷ xs) (suc k) x is within = ap (λ l. y ∷ l) (same_set xs k x is (omega (arith, within)))

last_is : {A : Type 0} (xs : List A) (x : A) (n : ℕ) → length xs ≡ n → slice_get (xs ++ x ∷ []) n ≡ Some x
last_is [] x zero is = refl
last_is [] x (suc n) is = absurd (omega (arith, is))
last_is (y ∷ xs) x zero is = absurd (omega (arith, is))
last_is (y ∷ xs) x (suc n) is = last_is xs x n (omega (arith, is))

-- where no link was accepted, none was lost
pub none_lost : (stop : Stop) → stop ≢ NotStarted → MayLose stop 0
none_lost NoLink other = refl
none_lost NotStarted other = absurd (other refl)
none_lost Memory other = omega arith

abbrev Places : (R S I O P : Type 0) → Type 0
Places R S I O P = List (SpotBy R S I O P)

-- an error that is passed up
pub passed_up : {T E : Type 0} (P : Result T E → Type 0) (r : Result T E) (e : E) → IsErrAnd r (λ y. y ≡ e) → P (Err e) → P r
passed_up P (Ok x) e is here = absurd is
passed_up P (Err y) e is here = subst (λ z. P (Err z)) (sym is) here

-- where nothing was done
pub none_done : {S I O P : Type 0} (Serves : S → I → O → S → I → O → P → Type 0) (links : ℕ) (firsts : List S) (seen : Listening I O) → IsStopped Serves links firsts Memory seen seen
none_done {S} {I} {O} Serves links firsts seen =
    let IsAny : S → I → O → Unit {0} → Type 0 = λ s i o t. Unit {0} in
    let since = since_start Serves IsAny (record { stations = firsts; seen = seen }) in (
      0,
      0,
      firsts,
      omega arith,
      omega arith,
      record {
        pairs = [];
        visits = since.visits;
        are = ends Serves IsAny firsts firsts [] since.visits 0 since.going;
        many = refl;
        links = since.links;
        accepted = since.accepted;
        dialled = refl;
      },
    )

module _ {R S I O P : Type 0} (Serves : S → I → O → S → I → O → P → Type 0) where
  pub continues_none : (old : Places R S I O P) (seen : Listening I O) → Continues Serves old old seen seen
  continues_none old seen = record { size = refl; there = λ there. there; later = omega arith; since = λ start pairs started since. since }

  pub continues_more : (old mid new : Places R S I O P) (before between after : Listening I O) → Continues Serves old mid before between → Continues Serves mid new between after → Continues Serves old new before after
  continues_more old mid new before between after one other = record {
    size = other.size ∙ one.size;
    there = λ there. other.there (one.there there);
    later = omega (arith, one.later, other.later);
    since = λ start pairs started since. other.since start pairs started (one.since start pairs started since);
  }

  unmoved : (old new : Places R S I O P) (before after : Listening I O) → new ≡ old → after ≡ before → Continues Serves old new before after
  unmoved old new before after same kept =
      subst (λ (spots : Places R S I O P). Continues Serves old spots before after) (sym same) (subst (λ (seen : Listening I O). Continues Serves old old before seen) (sym kept) (continues_none old before))

  pub settles : (at : ℕ) (old new : Places R S I O P) (before after : Listening I O) (was now : SpotBy R S I O P) → at < length old → ((d : SpotBy R S I O P) → was ≡ get_or old at d)
      → new ≡ set (set old at Gone) at now → Idles Serves was now before after → Settles Serves at old new before after
  settles at old new before after (Free station) now within is made idles =
      let only : new ≡ set old at now = made ∙ set-set old at Gone now in
      record {
        spot = now;
        only = only;
        idle = subst IsIdle (sym idles.0) tt;
        continues = unmoved old new before after (only ∙ ap (set old at) idles.0 ∙ same_set old at (Free station) is within) idles.1;
      }
  settles at old new before after Gone now within is made idles =
      let only : new ≡ set old at now = made ∙ set-set old at Gone now in
      record {
        spot = now;
        only = only;
        idle = subst IsIdle (sym idles.0) tt;
        continues = unmoved old new before after (only ∙ ap (set old at) idles.0 ∙ same_set old at Gone is within) idles.1;
      }
  settles at old new before after (Busy link ticket) now within is made (station, named, (out, given, from, took)) =
      let only : new ≡ set old at now = made ∙ set-set old at Gone now in
      let free : SpotBy R S I O P = Free out.station in
      let whole : new ≡ set old at free = only ∙ ap (set old at) named ∙ ap (λ s. set old at (Free s)) from in
      record {
        spot = now;
        only = only;
        idle = subst IsIdle (sym named) tt;
        continues = record {
          size = ap length whole ∙ length-set old at free;
          there = λ there. All-same IsThere new (set old at free) whole (All-set IsThere old at free tt there);
          later = took.later;
          since = λ start pairs started since.
              subst (λ (spots : Places R S I O P). SinceBy Serves start pairs started spots after) (sym whole)
              (since_back Serves (IsTicket {R = R} Serves) start pairs started old before after since at link ticket out.station out.source out.sink out.report within (λ d. sym (is d)) (λ s i o of. of out given) took);
        };
      }

  -- the first places are idle, and so is the next
  pub idle_more : (at : ℕ) (old new : Places R S I O P) (before after : Listening I O) → Settles Serves at old new before after → at < length old
      → ((place : ℕ) (other : SpotBy R S I O P) → place < at → IsIdle (get_or old place other)) → (place : ℕ) (other : SpotBy R S I O P) → place < at + 1 → IsIdle (get_or new place other)
  idle_more at old new before after settled inside below place other within =
      subst (λ (l : Places R S I O P). IsIdle (get_or l place other)) (sym settled.only)
      (set_each (λ k spot. k < at + 1 → IsIdle spot) old at settled.spot inside (λ _. settled.idle) (λ k d w apart few. below k d (omega (arith, apart_of k at few apart))) place other inside_new within)
    where
      apart_of : (k n : ℕ) → k < n + 1 → k ≢ n → k < n
      apart_of zero zero few apart = absurd (apart refl)
      apart_of zero (suc n) few apart = omega arith
      apart_of (suc k) zero few apart = absurd (omega (arith, few))
      apart_of (suc k) (suc n) few apart = omega (arith, apart_of k n (omega (arith, few)) (λ e. apart (ap suc e)))

      inside_new : place < length old
      inside_new = omega (arith, within, inside)

  -- a link was accepted, and a place with a station is there
  module _ (at link : ℕ) (old mid taken new : Places R S I O P) (before linked after : Listening I O) (pair : I × O) (gave : Gave pair before linked) (continues : Continues Serves old mid linked after)
      (free : IsFreeAt mid at) (took : taken ≡ set mid at Gone) where
    -- it is served there
    pub one_more : (job : Serving R S I O) → IsJobAt mid at pair.0 pair.1 job → StartsAt Serves at link job taken new → IsOneMore Serves link old new before after
    one_more job is started =
        let busy : ℕ → SpotBy R S I O P = λ n. Busy n started.ticket in
        let only : new ≡ set mid at (busy link) = started.only ∙ ap (λ (l : Places R S I O P). set l at (busy link)) took ∙ set-set mid at Gone (busy link) in
        record {
          there = λ there. All-same IsThere new (set mid at (busy link)) only (All-set IsThere mid at (busy link) tt (continues.there there));
          later = omega (arith, gave.later, continues.later);
          since = λ start pairs count since many next.
              let given : slice_get (pairs ++ pair ∷ []) count ≡ Some (job.source, job.sink) =
              last_is pairs pair count many ∙ ap (λ (p : I × O). Some p) (λ k. (sym is.1 k, sym is.2 k)) in (
                pair,
                subst (λ (spots : Places R S I O P). SinceBy Serves start (pairs ++ pair ∷ []) (count + 1) spots after) (sym (only ∙ ap (λ n. set mid at (busy n)) next))
                    (since_started Serves (IsTicket {R = R} Serves) start (pairs ++ pair ∷ []) count mid after at job.station free.0 is.0
                    (continues.since start (pairs ++ pair ∷ []) count (since_gave Serves (IsTicket {R = R} Serves) start pairs count old before linked since pair gave))
                    job.source job.sink started.ticket given started.is),
              );
        }

    -- no job is started for it
    pub no_more_lost : (stop : Stop) → MayLose stop 1 → new ≡ taken → IsNoMore Serves stop old new before after
    no_more_lost stop lost same = record {
      later = omega (arith, gave.later, continues.later);
      since = λ start pairs count since. (
        pair ∷ [],
        lost,
        subst (λ (spots : Places R S I O P). SinceBy Serves start (pairs ++ pair ∷ []) count spots after) (sym (same ∙ took))
            (since_gone Serves (IsTicket {R = R} Serves) start (pairs ++ pair ∷ []) count mid after at free.1.0 free.0 free.1.1
            (continues.since start (pairs ++ pair ∷ []) count (since_gave Serves (IsTicket {R = R} Serves) start pairs count old before linked since pair gave))),
      );
    }

  -- no link was accepted
  pub no_more : (stop : Stop) (old : Places R S I O P) (before after : Listening I O) → MayLose stop 0 → GaveNone before after → IsNoMore Serves stop old old before after
  no_more stop old before after lost gave = record {
    later = gave.later;
    since = λ start pairs count since. ([], lost, since_gave_none Serves (IsTicket {R = R} Serves) start pairs count old before after since gave);
  }

  pub started_none : (old : Places R S I O P) (seen : Listening I O) → AreStarted Serves 0 old old seen seen
  started_none old seen = record { there = λ there. there; later = omega arith; since = λ start since. ([], refl, since) }

  pub started_more : (count link : ℕ) (old mid new : Places R S I O P) (before between after : Listening I O) → AreStarted Serves count old mid before between → IsOneMore Serves link mid new between after → link ≡ count + 1
      → AreStarted Serves (count + 1) old new before after
  started_more count link old mid new before between after were one next = record {
    there = λ there. one.there (were.there there);
    later = omega (arith, were.later, one.later);
    since = λ start since.
        let so_far = were.since start since in
        let more = one.since start so_far.0 count so_far.2 so_far.1 next in (
          so_far.0 ++ more.0 ∷ [],
          omega (arith, so_far.1, length-append so_far.0 (more.0 ∷ [])),
          more.1,
        );
  }

  pub stopped_at : (count links : ℕ) (stop : Stop) (old mid new : Places R S I O P) (before between after : Listening I O) → AreStarted Serves count old mid before between → IsNoMore Serves stop mid new between after → count ≤ links
      → AreStopped Serves links stop old new before after
  stopped_at count links stop old mid new before between after were none few = record {
    since = λ start since.
        let so_far = were.since start since in
        let more = none.since start so_far.0 count so_far.2 in (
          so_far.0 ++ more.0,
          count,
          length more.0,
          few,
          more.1,
          omega (arith, so_far.1, length-append so_far.0 more.0),
          more.2,
        );
  }

  free_of : (spot : SpotBy R S I O P) → IsIdle spot → IsThere spot → IsFree spot
  free_of (Free station) idle there = tt
  free_of (Busy link ticket) idle there = absurd idle
  free_of Gone idle there = absurd there

  -- places were made for stations, links were accepted, and what was started was joined
  module _ (links : ℕ) (firsts : List S) (old mid new : Places R S I O P) (before between after : Listening I O) (made : old ≡ map put_free firsts)
      (continues : Continues Serves mid new between after) (idle : All IsIdle new) where
    abbrev start : Start S I O
    start = record { stations = firsts; seen = before }

    begun : SinceBy Serves start [] 0 old before
    begun = subst (λ (spots : Places R S I O P). SinceBy Serves start [] 0 spots before) (sym made) (since_start Serves (IsTicket {R = R} Serves) start)

    -- nothing was lost
    module _ (were : AreStarted Serves links old mid before between) where
      pub all_free : All IsFree new
      all_free =
          let firsts_there : NoneGone old = All-same IsThere old (map put_free firsts) made (All-map IsThere put_free firsts (λ k d within. tt)) in
          let there : NoneGone new = continues.there (were.there firsts_there) in
          λ k d within. free_of (get_or new k d) (idle k d within) (there k d within)

      pub same_size : length new ≡ length firsts
      same_size =
          let so_far = were.since start begun in
          (continues.since start so_far.0 links so_far.2).going.size

      pub all_done : (lasts : List S) → new ≡ map put_free lasts → AreDone Serves links 0 firsts lasts before after
      all_done lasts are =
          let so_far = were.since start begun in
          let now = continues.since start so_far.0 links so_far.2 in
          record {
            pairs = so_far.0;
            visits = now.visits;
            are = ends Serves (IsTicket {R = R} Serves) firsts lasts so_far.0 now.visits links
                (subst (λ (spots : Places R S I O P). Going Serves (IsTicket {R = R} Serves) firsts spots so_far.0 now.visits links) are now.going);
            many = omega (arith, so_far.1);
            links = now.links;
            accepted = now.accepted ∙ ap (λ n. counted n before.accepted) (so_far.1 ∙ omega arith);
            dialled = now.dialled;
          }

    pub all_stopped : (stop : Stop) → AreStopped Serves links stop old mid before between → IsStopped Serves links firsts stop before after
    all_stopped stop were =
        let (pairs, started, lost, few, may, many, since) = were.since start begun in
        let now = continues.since start pairs started since in
        let last = ends_idle Serves (IsTicket {R = R} Serves) firsts new pairs now.visits started now.going idle in (
          started,
          lost,
          last.0,
          few,
          may,
          record {
            pairs = pairs;
            visits = now.visits;
            are = last.1;
            many = many;
            links = now.links;
            accepted = now.accepted ∙ ap (λ n. counted n before.accepted) many;
            dialled = now.dialled;
          },
        )
