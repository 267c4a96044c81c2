-- What keeps places going, whatever the tickets: another link accepted, a start, and a join; and how they begin and end.
use Rattle.std.proofs.Common.{◌≡◌, ◌≢◌, ◌⊎◌, ⊎_elim, ℕ, zero, suc, ◌+◌, ◌-◌, ◌≤◌, ◌<◌, Bool, cond, List, [], ◌∷◌, ◌++◌, map, length, get_or, set, Some, refl, sym, ap, ◌∙◌, subst, arith, inl, inr, length-set, append-nil}
use lib.ListN.{length-map}
use Rattle.std.specs.Prelude.{◌==◌, slice_get, All}
use Rattle.std.proofs.lemmas.Bool.{cases_eq, eq-eqb, ne_eqb}
use Rattle.std.proofs.lemmas.List.Elements.{All-head, All-nil, All-push, All-tail, filter-append}
use Rattle.std.proofs.lemmas.List.Sums.{sum_by-append, sum_by-set, sum_by-cons}
use Rattle.shop_places.specs.declared.spot.Spot.{Spot}
use Rattle.shop_places.specs.declared.spot.Spot.TheVariants.{Free, Busy, Gone}
use Rattle.shop_places.specs.Visits.{AreServed, Visit, Chain, IsOf, IsService, visits_at, visits_of}
use Rattle.shop_places.specs.Spots.{Going, IsIdle, Stands, busy_as, busy_with, put_free}

-- an element is set, and each other one stays
pub set_each : {A : Type 0} (P : ℕ → A → Type 0) (xs : List A) (at : ℕ) (x : A) → at < length xs → P at x
    → ((k : ℕ) (d : A) → k < length xs → k ≢ at → P k (get_or xs k d)) → (k : ℕ) (d : A) → k < length xs → P k (get_or (set xs at x) k d)
set_each P [] at x within here others k d inside = absurd (omega (arith, within))
set_each P (y ∷ xs) zero x within here others zero d inside = here
set_each P (y ∷ xs) zero x within here others (suc k) d inside = others (suc k) d inside (λ e. omega (arith, e))
set_each P (y ∷ xs) (suc at) x within here others zero d inside = others zero d inside (λ e. omega (arith, e))
set_each P (y ∷ xs) (suc at) x within here others (suc k) d inside =
    set_each (λ n. P (suc n)) xs at x (omega (arith, within)) here (λ n e v apart. others (suc n) e (omega (arith, v)) (λ q. apart (omega (arith, q)))) k d (omega (arith, inside))

-- what is added behind a list leaves what is there
get_more : {A : Type 0} (xs more : List A) (k : ℕ) (x : A) → slice_get xs k ≡ Some x → slice_get (xs ++ more) k ≡ Some x
get_more [] more k x is = absurd cc
get_more (y ∷ xs) more zero x is = is
get_more (y ∷ xs) more (suc k) x is = get_more xs more k x is

-- one for each element of a list
chosen : {A B : Type 0} (P : ℕ → A → B → Type 0) (xs : List A) → ((k : ℕ) (d : A) → k < length xs → (b : B) × P k (get_or xs k d) b)
    → (bs : List B) × (length bs ≡ length xs) × ((k : ℕ) (d : A) (e : B) → k < length xs → P k (get_or xs k d) (get_or bs k e))
chosen P [] each = ([], refl, λ k d e within. absurd (omega (arith, within)))
chosen {A} {B} P (x ∷ xs) each =
    let here : (b : B) × P 0 x b = each 0 x (omega arith) in
    let rest = chosen (λ (k : ℕ). P (suc k)) xs (λ k d within. each (suc k) d (omega (arith, within))) in
    (here.0 ∷ rest.0, ap suc rest.1, by here.0 here.1 rest.0 rest.2)
  where
    by : (b : B) → P 0 x b → (bs : List B) → ((k : ℕ) (d : A) (e : B) → k < length xs → P (suc k) (get_or xs k d) (get_or bs k e))
        → (k : ℕ) (d : A) (e : B) → k < suc (length xs) → P k (get_or (x ∷ xs) k d) (get_or (b ∷ bs) k e)
    by b here bs rest zero d e within = here
    by b here bs rest (suc k) d e within = rest k d e (omega (arith, within))

abbrev one_at : ℕ → ℕ → ℕ
one_at m k = cond (m == k) 1 0

is_one : (m k : ℕ) → m ≡ k → one_at m k ≡ 1
is_one m k same = ap (λ (b : Bool). cond {A = ℕ} b 1 0) (eq-eqb m k same)

is_none : (m k : ℕ) → m ≢ k → one_at m k ≡ 0
is_none m k apart = ap (λ (b : Bool). cond {A = ℕ} b 1 0) (ne_eqb m k apart)

module _ {S T I O P : Type 0} (Serves : S → I → O → S → I → O → P → Type 0) (IsTicket : S → I → O → T → Type 0) where
  chain_more : (first : S) (vs : List (Visit S I O P)) (last : S) (v : Visit S I O P) → Chain Serves first vs last → v.before ≡ last → IsService Serves v → Chain Serves first (vs ++ v ∷ []) v.after
  chain_more first [] last v chain begins serves = (begins ∙ chain, serves, refl)
  chain_more first (x ∷ vs) last v chain begins serves = (chain.0, chain.1, chain_more x.after vs last v chain.2 begins serves)

  -- the visits of a place, and of any other, when one more was made there
  at_here : (place : ℕ) (vs : List (Visit S I O P)) (v : Visit S I O P) → v.place ≡ place → visits_at place (vs ++ v ∷ []) ≡ visits_at place vs ++ v ∷ []
  at_here place vs v is =
      filter-append (λ (w : Visit S I O P). w.place == place) vs (v ∷ [])
      ∙ ap (λ (b : Bool). visits_at place vs ++ cond b (v ∷ []) []) (eq-eqb v.place place is)

  at_other : (place : ℕ) (vs : List (Visit S I O P)) (v : Visit S I O P) → v.place ≢ place → visits_at place (vs ++ v ∷ []) ≡ visits_at place vs
  at_other place vs v apart =
      filter-append (λ (w : Visit S I O P). w.place == place) vs (v ∷ [])
      ∙ ap (λ (b : Bool). visits_at place vs ++ cond b (v ∷ []) []) (ne_eqb v.place place apart)
      ∙ append-nil (visits_at place vs)

  stands_more : (pairs more : List (I × O)) (vs : List (Visit S I O P)) (first : S) (spot : Spot S T) → Stands Serves IsTicket pairs vs first spot → Stands Serves IsTicket (pairs ++ more) vs first spot
  stands_more pairs more vs first (Free s) stands = stands
  stands_more pairs more vs first (Busy link ticket) stands = (stands.0, stands.1, stands.2, stands.3, stands.4, get_more pairs more (link - 1) (stands.1, stands.2) stands.5, stands.6)
  stands_more pairs more vs first Gone stands = stands

  -- other streams were accepted
  pub accepts : (firsts : List S) (spots : List (Spot S T)) (pairs more : List (I × O)) (vs : List (Visit S I O P)) (started : ℕ)
      → Going Serves IsTicket firsts spots pairs vs started → Going Serves IsTicket firsts spots (pairs ++ more) vs started
  accepts firsts spots pairs more vs started going = record {
    size = going.size;
    each = λ place first other within. stands_more pairs more (visits_at place vs) (get_or firsts place first) (get_or spots place other) (going.each place first other within);
    once = going.once;
    none = going.none;
    are = λ k d within. ((going.are k d within).0, get_more pairs more ((get_or vs k d).link - 1) ((get_or vs k d).source, (get_or vs k d).sink) (going.are k d within).1);
    within = going.within;
  }

  -- the place at which something is set
  module _ (firsts : List S) (spots : List (Spot S T)) (pairs : List (I × O)) (vs : List (Visit S I O P)) (started at : ℕ) (old : Spot S T)
      (inside : at < length spots) (is : (d : Spot S T) → get_or spots at d ≡ old) (going : Going Serves IsTicket firsts spots pairs vs started) where
    counts : (new : Spot S T) (link : ℕ) → busy_with link (set spots at new) + busy_as link old ≡ busy_with link spots + busy_as link new
    counts new link = ap (λ n. busy_with link (set spots at new) + n) (ap (busy_as link) (sym (is old))) ∙ sum_by-set (busy_as link) spots at new old inside

    size_set : (new : Spot S T) → length (set spots at new) ≡ length firsts
    size_set new = length-set spots at new ∙ going.size

    -- a job was started there, for the next link
    pub starts : (station : S) (source : I) (sink : O) (ticket : T) → old ≡ Free station → slice_get pairs started ≡ Some (source, sink) → IsTicket station source sink ticket
        → Going Serves IsTicket firsts (set spots at (Busy (started + 1) ticket)) pairs vs (started + 1)
    starts station source sink ticket free given of =
        let new : Spot S T = Busy (started + 1) ticket in
        let zero_old : (link : ℕ) → busy_as link old ≡ 0 = λ link. ap (busy_as link) free in
        let next : started + 1 - 1 ≡ started = omega arith in
        record {
          size = size_set new;
          each = λ place first other within.
              set_each (λ k spot. Stands Serves IsTicket pairs (visits_at k vs) (get_or firsts k first) spot) spots at new inside (
                station,
                source,
                sink,
                subst (λ (s : Spot S T). Stands Serves IsTicket pairs (visits_at at vs) (get_or firsts at first) s) (is other ∙ free) (going.each at first other inside),
                omega arith,
                ap (slice_get pairs) next ∙ given,
                of,
              )
              (λ k d w apart. going.each k first d w) place other (omega (arith, within, length-set spots at new));
          once = λ link least most.
              ⊎_elim
              (λ (same : started + 1 ≡ link). omega (arith, counts new link, zero_old link, is_one (started + 1) link same, going.none link (omega (arith, same))))
              (λ (apart : started + 1 ≢ link). omega (
                arith,
                counts new link,
                zero_old link,
                is_none (started + 1) link apart,
                going.once link least (⊎_elim (λ (low : link ≤ started). low) (λ (high : started < link). absurd (apart (omega (arith, high, most)))) (by_order link started)),
              ))
              (cases_eq (started + 1) link);
          none = λ link above. omega (arith, counts new link, zero_old link, is_none (started + 1) link (λ same. omega (arith, same, above)), going.none link (omega (arith, above)));
          are = going.are;
          within = going.within;
        }
      where
        by_order : (m n : ℕ) → (m ≤ n) ⊎ (n < m)
        by_order zero n = inl (omega arith)
        by_order (suc m) zero = inr (omega arith)
        by_order (suc m) (suc n) = ⊎_elim (λ (low : m ≤ n). inl (omega (arith, low))) (λ (high : n < m). inr (omega (arith, high))) (by_order m n)

    -- the ticket that was there became another one, that promises no more
    pub goes_on : (link : ℕ) (ticket ticket' : T) → old ≡ Busy link ticket → ((s : S) (i : I) (o : O) → IsTicket s i o ticket → IsTicket s i o ticket')
        → Going Serves IsTicket firsts (set spots at (Busy link ticket')) pairs vs started
    goes_on link ticket ticket' busy same =
        let new : Spot S T = Busy link ticket' in
        let alike : (k : ℕ) → busy_as k old ≡ busy_as k new = λ k. ap (busy_as k) busy in
        record {
          size = size_set new;
          each = λ place first other within.
              set_each (λ k spot. Stands Serves IsTicket pairs (visits_at k vs) (get_or firsts k first) spot) spots at new inside
              (let there : Stands Serves IsTicket pairs (visits_at at vs) (get_or firsts at first) (Busy link ticket) =
              subst (λ (s : Spot S T). Stands Serves IsTicket pairs (visits_at at vs) (get_or firsts at first) s) (is other ∙ busy) (going.each at first other inside) in
              (there.0, there.1, there.2, there.3, there.4, there.5, same there.0 there.1 there.2 there.6))
              (λ k d w apart. going.each k first d w) place other (omega (arith, within, length-set spots at new));
          once = λ k least most. omega (arith, counts new k, alike k, going.once k least most);
          none = λ k above. omega (arith, counts new k, alike k, going.none k above);
          are = going.are;
          within = going.within;
        }

    -- the job that was there was joined, and this is the visit
    pub joins : (link : ℕ) (ticket : T) (after : S) (source' : I) (sink' : O) (report : P) → old ≡ Busy link ticket
        → ((s : S) (i : I) (o : O) → IsTicket s i o ticket → Serves s i o after source' sink' report)
        → (v : Visit S I O P) × (v.link ≡ link) × (v.source_left ≡ source') × (v.sink_left ≡ sink') × (v.report ≡ report) × (v.after ≡ after)
        × Going Serves IsTicket firsts (set spots at (Free after)) pairs (vs ++ v ∷ []) started
    joins link ticket after source' sink' report busy serves =
        let new : Spot S T = Free after in
        let here : Stands Serves IsTicket pairs (visits_at at vs) (get_or firsts at after) (Busy link ticket) =
        subst (λ (s : Spot S T). Stands Serves IsTicket pairs (visits_at at vs) (get_or firsts at after) s) (is old ∙ busy) (going.each at after old inside) in
        let v : Visit S I O P = record { link = link; place = at; before = here.0; source = here.1; sink = here.2; after = after; source_left = source'; sink_left = sink'; report = report } in
        let served : IsService Serves v = serves here.0 here.1 here.2 here.6 in
        let one : (k : ℕ) → visits_of k (vs ++ v ∷ []) ≡ visits_of k vs + (0 + one_at link k) = λ k. sum_by-append (λ (w : Visit S I O P). cond (w.link == k) 1 0) vs (v ∷ []) in
        let old_is : (k : ℕ) → busy_as k old ≡ one_at link k = λ k. ap (busy_as k) busy in (
          v,
          refl,
          refl,
          refl,
          refl,
          refl,
          record {
            size = size_set new;
            each = λ place first other within.
                set_each (λ k spot. Stands Serves IsTicket pairs (visits_at k (vs ++ v ∷ [])) (get_or firsts k first) spot) spots at new inside
                (let there : Stands Serves IsTicket pairs (visits_at at vs) (get_or firsts at first) (Busy link ticket) =
                subst (λ (s : Spot S T). Stands Serves IsTicket pairs (visits_at at vs) (get_or firsts at first) s) (is old ∙ busy) (going.each at first old inside) in
                subst (λ (l : List (Visit S I O P)). Chain Serves (get_or firsts at first) l after) (sym (at_here at vs v refl))
                (chain_more (get_or firsts at first) (visits_at at vs) here.0 v
                (subst (λ (f : S). Chain Serves f (visits_at at vs) here.0) (same_first at first after) here.3) refl served))
                (λ k d w apart. subst (λ (l : List (Visit S I O P)). Stands Serves IsTicket pairs l (get_or firsts k first) (get_or spots k d)) (sym (at_other k vs v (λ e. apart (sym e)))) (going.each k first d w))
                place other (omega (arith, within, length-set spots at new));
            once = λ k least most. omega (arith, counts new k, old_is k, one k, going.once k least most);
            none = λ k above. omega (arith, counts new k, old_is k, one k, going.none k above);
            are = All-push (IsOf pairs) vs v going.are (here.4, here.5);
            within = All-push (λ (w : Visit S I O P). w.place < length firsts) vs v going.within (omega (arith, inside, going.size));
          },
        )
      where
        same_in : (xs : List S) (k : ℕ) (d e : S) → k < length xs → get_or xs k e ≡ get_or xs k d
        same_in [] k d e within = absurd (omega (arith, within))
        same_in (x ∷ xs) zero d e within = refl
        same_in (x ∷ xs) (suc k) d e within = same_in xs k d e (omega (arith, within))

        same_first : (k : ℕ) (d e : S) → get_or firsts at e ≡ get_or firsts at d
        same_first k d e = same_in firsts at d e (omega (arith, inside, going.size))

    -- a job was to be started there, and was not
    pub goes : (station : S) → old ≡ Free station → Going Serves IsTicket firsts (set spots at Gone) pairs vs started
    goes station free =
        let new : Spot S T = Gone in
        let zero_old : (link : ℕ) → busy_as link old ≡ 0 = λ link. ap (busy_as link) free in
        record {
          size = size_set new;
          each = λ place first other within.
              set_each (λ k spot. Stands Serves IsTicket pairs (visits_at k vs) (get_or firsts k first) spot) spots at new inside
              (station, subst (λ (s : Spot S T). Stands Serves IsTicket pairs (visits_at at vs) (get_or firsts at first) s) (is other ∙ free) (going.each at first other inside))
              (λ k d w apart. going.each k first d w) place other (omega (arith, within, length-set spots at new));
          once = λ link least most. omega (arith, counts new link, zero_old link, going.once link least most);
          none = λ link above. omega (arith, counts new link, zero_old link, going.none link above);
          are = going.are;
          within = going.within;
        }

  -- at first each place has its station
  free_first : (firsts : List S) (place : ℕ) (d : S) (other : Spot S T) → place < length firsts → get_or (map put_free firsts) place other ≡ Free (get_or firsts place d)
  free_first [] place d other within = absurd (omega (arith, within))
  free_first (x ∷ xs) zero d other within = refl
  free_first (x ∷ xs) (suc k) d other within = free_first xs k d other (omega (arith, within))

  none_busy : (firsts : List S) (link : ℕ) → busy_with {T = T} link (map put_free firsts) ≡ 0
  none_busy [] link = refl
  none_busy (x ∷ xs) link = omega (arith, sum_by-cons (busy_as {S = S} {T = T} link) (put_free x) (map put_free xs), none_busy xs link)

  pub begins : (firsts : List S) → Going Serves IsTicket firsts (map put_free firsts) [] [] 0
  begins firsts = record {
    size = length-map firsts (put_free {T = T});
    each = λ place first other within. subst (λ (s : Spot S T). Stands Serves IsTicket [] [] (get_or firsts place first) s) (sym (free_first firsts place first other (omega (arith, within, length-map firsts (put_free {T = T}))))) refl;
    once = λ link least most. absurd (omega (arith, least, most));
    none = λ link above. omega (arith, none_busy firsts link);
    are = All-nil (IsOf []);
    within = All-nil (λ (v : Visit S I O P). v.place < length firsts);
  }

  -- at the end each place has a station again: each link was served once, and each place's visits lead from its first
  -- station to its last
  pub ends : (firsts lasts : List S) (pairs : List (I × O)) (vs : List (Visit S I O P)) (links : ℕ) → Going Serves IsTicket firsts (map put_free lasts) pairs vs links → AreServed Serves firsts lasts pairs vs links
  ends firsts lasts pairs vs links going = record {
    size = omega (arith, going.size, length-map lasts (put_free {T = T}));
    chains = λ place first last within.
        subst (λ (s : Spot S T). Stands Serves IsTicket pairs (visits_at place vs) (get_or firsts place first) s) (free_first lasts place last (Free last) within)
        (going.each place first (Free last) (omega (arith, within, length-map lasts (put_free {T = T}))));
    once = λ link least most. omega (arith, going.once link least most, none_busy lasts link);
    none = λ link above. omega (arith, going.none link above);
    are = going.are;
    within = going.within;
  }

  -- no job has a place, and some may have lost their stations: what they last were is as above
  busy_idle : (link : ℕ) (spot : Spot S T) → IsIdle spot → busy_as link spot ≡ 0
  busy_idle link (Free s) idle = refl
  busy_idle link (Busy number ticket) idle = absurd idle
  busy_idle link Gone idle = refl

  none_with : (link : ℕ) (spots : List (Spot S T)) → All IsIdle spots → busy_with link spots ≡ 0
  none_with link [] idle = refl
  none_with link (x ∷ xs) idle =
      omega (arith, sum_by-cons (busy_as {S = S} {T = T} link) x xs, busy_idle link x (All-head IsIdle x xs idle), none_with link xs (All-tail IsIdle x xs idle))

  last_of : (pairs : List (I × O)) (vs : List (Visit S I O P)) (first : S) (spot : Spot S T) → IsIdle spot → Stands Serves IsTicket pairs vs first spot → (last : S) × Chain Serves first vs last
  last_of pairs vs first (Free s) idle stands = (s, stands)
  last_of pairs vs first (Busy link ticket) idle stands = absurd idle
  last_of pairs vs first Gone idle stands = stands

  pub ends_idle : (firsts : List S) (spots : List (Spot S T)) (pairs : List (I × O)) (vs : List (Visit S I O P)) (links : ℕ) → Going Serves IsTicket firsts spots pairs vs links → All IsIdle spots
      → (lasts : List S) × AreServed Serves firsts lasts pairs vs links
  ends_idle firsts spots pairs vs links going idle =
      let each : (k : ℕ) (d : S) → k < length firsts → (last : S) × Chain Serves (get_or firsts k d) (visits_at k vs) last =
      λ k d within.
      let inside : k < length spots = omega (arith, within, going.size) in
      last_of pairs (visits_at k vs) (get_or firsts k d) (get_or spots k Gone) (idle k Gone inside) (going.each k d Gone inside) in
      let lasts = chosen (λ (k : ℕ) (first last : S). Chain Serves first (visits_at k vs) last) firsts each in (
        lasts.0,
        record {
          size = lasts.1;
          chains = λ place first last within. lasts.2 place first last (omega (arith, within, lasts.1));
          once = λ link least most. omega (arith, going.once link least most, none_with link spots idle);
          none = λ link above. omega (arith, going.none link above);
          are = going.are;
          within = going.within;
        },
      )
