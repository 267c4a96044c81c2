-- What happened since lanes began, step by step.
use Rattle.std.proofs.Common.{◌≡◌, ℕ, zero, suc, ◌+◌, ◌<◌, List, [], ◌∷◌, ◌++◌, map, length, get_or, set, Option, Some, None, refl, sym, ap, ap₂, ◌∙◌, subst, arith, append-nil, append_assoc, length-set}
use Rattle.std.specs.Prelude.{option_map, slice_get}
use Rattle.std.proofs.lemmas.List.{get_or_default, map-append}
use Rattle.std.proofs.lemmas.List.Sums.{sum_by-set}
use Rattle.shop_edges.specs.Causes.{count_up}
use Rattle.shop_edges.specs.Links.{Links, Returned, got_back}
use Rattle.shop_places.specs.Listening.{Gave, GaveNone, Listening, TookBack, gave_more}
use Rattle.shop_places.specs.Since.{Since, Start}
use Rattle.shop_places.specs.Spots.{Going, Stands, busy_as, busy_with, put_free}
use Rattle.shop_places.specs.Visits.{Visit, returned, visits_at, went}
use Rattle.shop_places.specs.declared.spot.Spot.{Spot}
use Rattle.shop_places.specs.declared.spot.Spot.TheVariants.{Free, Busy, Gone}
use Rattle.shop_places.proofs.cited.Counts.{counted_more}
use Rattle.shop_places.proofs.cited.Going.{accepts, begins, joins, set_each, starts}
use Rattle.shop_lanes.specs.Spots.{lane_at}

last_is : {A : Type 0} (xs : List A) (x : A) (n : ℕ) → length xs ≡ n → slice_get (xs ++ x ∷ []) n ≡ Some x
last_is [] x zero is = refl
last_is [] x (suc n) is = absurd (omega (arith, is))
last_is (y ∷ xs) x zero is = absurd (omega (arith, is))
last_is (y ∷ xs) x (suc n) is = last_is xs x n (omega (arith, is))

-- links went, and then one more
module _ {S I O P : Type 0} (pairs : List (I × O)) (visits : List (Visit S I O P)) where
  gave_one : (pair : I × O) (links : Option (Links I O)) → option_map (gave_more (pair ∷ [])) (option_map (went pairs visits) links) ≡ option_map (went (pairs ++ pair ∷ []) visits) links
  gave_one pair None = refl
  gave_one pair (Some l) = ap (λ (given : List (I × O)). Some (record { given = given; back = l.back ++ map returned visits })) (append_assoc l.given pairs (pair ∷ []))

  got_one : (v : Visit S I O P) (links : Option (Links I O)) → option_map (got_back (returned v)) (option_map (went pairs visits) links) ≡ option_map (went pairs (visits ++ v ∷ [])) links
  got_one v None = refl
  got_one v (Some l) =
      ap (λ (back : List (Returned I O)). Some (record { given = l.given ++ pairs; back = back }))
      (append_assoc l.back (map returned visits) (returned v ∷ []) ∙ ap (λ (more : List (Returned I O)). l.back ++ more) (sym (map-append returned visits (v ∷ []))))

gave_none : {I O : Type 0} (links : Option (Links I O)) → option_map (gave_more []) links ≡ links
gave_none None = refl
gave_none {I} {O} (Some l) = ap (λ (given : List (I × O)). Some (record { given = given; back = l.back })) (append-nil l.given)

went_none : (S I O P : Type 0) (links : Option (Links I O)) → links ≡ option_map (went {S = S} {P = P} [] []) links
went_none S I O P None = refl
went_none S I O P (Some l) = ap₂ (λ (given : List (I × O)) (back : List (Returned I O)). Some (record { given = given; back = back })) (sym (append-nil l.given)) (sym (append-nil l.back))

module _ {S T I O P : Type 0} (Serves : S → I → O → S → I → O → P → Type 0) (IsTicket : S → I → O → T → Type 0) where
  -- a ticket that promises no less takes the place of another
  goes_on : (firsts : List S) (spots : List (Spot S T)) (pairs : List (I × O)) (visits : List (Visit S I O P)) (started at link : ℕ) (ticket ticket' : T)
      → at < length spots → lane_at at spots ≡ Busy link ticket → ((s : S) (i : I) (o : O) → IsTicket s i o ticket → IsTicket s i o ticket')
      → Going Serves IsTicket firsts spots pairs visits started → Going Serves IsTicket firsts (set spots at (Busy link ticket')) pairs visits started
  goes_on firsts spots pairs visits started at link ticket ticket' inside busy keeps going =
      let new : Spot S T = Busy link ticket' in
      let counts : (k : ℕ) → busy_with k (set spots at new) + busy_as k (lane_at at spots) ≡ busy_with k spots + busy_as k new = λ k. sum_by-set (busy_as k) spots at new Gone inside in
      let alike : (k : ℕ) → busy_as k (lane_at at spots) ≡ busy_as k new = λ k. ap (busy_as k) busy in
      record {
        size = length-set spots at new ∙ going.size;
        each = λ place first other within.
            set_each (λ k spot. Stands Serves IsTicket pairs (visits_at k visits) (get_or firsts k first) spot) spots at new inside
            (let stood : Stands Serves IsTicket pairs (visits_at at visits) (get_or firsts at first) (Busy link ticket) =
            subst (λ (spot : Spot S T). Stands Serves IsTicket pairs (visits_at at visits) (get_or firsts at first) spot) busy (going.each at first Gone inside) in
            (stood.0, stood.1, stood.2, stood.3, stood.4, stood.5, keeps stood.0 stood.1 stood.2 stood.6))
            (λ k d w apart. going.each k first d w) place other (omega (arith, within, length-set spots at new));
        once = λ k least most. omega (arith, counts k, alike k, going.once k least most);
        none = λ k above. omega (arith, counts k, alike k, going.none k above);
        are = going.are;
        within = going.within;
      }

  -- the same of what is equal
  pub since_of : (start : Start S I O) (pairs : List (I × O)) (started started' : ℕ) (spots spots' : List (Spot S T)) (seen seen' : Listening I O)
      → started' ≡ started → spots' ≡ spots → seen' ≡ seen → (since : Since Serves IsTicket start pairs started spots seen)
      → (same : Since Serves IsTicket start pairs started' spots' seen') × (same.visits ≡ since.visits)
  since_of start pairs started started' spots spots' seen seen' count list listener since =
      subst (λ (n : ℕ). (same : Since Serves IsTicket start pairs n spots' seen') × (same.visits ≡ since.visits)) (sym count)
      (subst (λ (l : List (Spot S T)). (same : Since Serves IsTicket start pairs started l seen') × (same.visits ≡ since.visits)) (sym list)
      (subst (λ (k : Listening I O). (same : Since Serves IsTicket start pairs started spots k) × (same.visits ≡ since.visits)) (sym listener) (since, refl)))

  module _ (start : Start S I O) where
    pub since_start : (since : Since Serves IsTicket start [] 0 (map put_free start.stations) start.seen) × (since.visits ≡ [])
    since_start = (
      record {
        visits = [];
        going = begins Serves IsTicket start.stations;
        links = went_none S I O P start.seen.links;
        accepted = refl;
        dialled = refl;
      },
      refl,
    )

    module _ (pairs : List (I × O)) (started : ℕ) (spots : List (Spot S T)) (before after : Listening I O) (since : Since Serves IsTicket start pairs started spots before) where
      -- no link was accepted
      pub since_none : GaveNone before after → (next : Since Serves IsTicket start pairs started spots after) × (next.visits ≡ since.visits)
      since_none gave = (
        record {
          visits = since.visits;
          going = since.going;
          links = gave.links ∙ gave_none before.links ∙ since.links;
          accepted = gave.accepted ∙ since.accepted;
          dialled = gave.dialled ∙ since.dialled;
        },
        refl,
      )

      module _ (at : ℕ) (inside : at < length spots) where
        at_any : (spot : Spot S T) → lane_at at spots ≡ spot → (d : Spot S T) → get_or spots at d ≡ spot
        at_any spot is d = get_or_default spots at d Gone inside ∙ is

        -- a link was accepted, and is served there
        pub since_began : (pair : I × O) (station : S) (ticket : T) → length pairs ≡ started → lane_at at spots ≡ Free station → IsTicket station pair.0 pair.1 ticket → Gave pair before after
            → (next : Since Serves IsTicket start (pairs ++ pair ∷ []) (started + 1) (set spots at (Busy (started + 1) ticket)) after) × (next.visits ≡ since.visits)
        since_began pair station ticket many free is gave = (
          record {
            visits = since.visits;
            going = starts Serves IsTicket start.stations spots (pairs ++ pair ∷ []) since.visits started at (Free station) inside (at_any (Free station) free)
                (accepts Serves IsTicket start.stations spots pairs (pair ∷ []) since.visits started since.going) station pair.0 pair.1 ticket refl (last_is pairs pair started many) is;
            links = gave.links ∙ ap (option_map (gave_more (pair ∷ []))) since.links ∙ gave_one pairs since.visits pair start.seen.links;
            accepted = gave.accepted ∙ ap count_up since.accepted ∙ sym (counted_more pairs pair start.seen.accepted);
            dialled = gave.dialled ∙ since.dialled;
          },
          refl,
        )

        -- what serves a link there goes on
        pub since_on : (link : ℕ) (ticket ticket' : T) → lane_at at spots ≡ Busy link ticket → ((s : S) (i : I) (o : O) → IsTicket s i o ticket → IsTicket s i o ticket')
            → (next : Since Serves IsTicket start pairs started (set spots at (Busy link ticket')) before) × (next.visits ≡ since.visits)
        since_on link ticket ticket' busy keeps = (
          record {
            visits = since.visits;
            going = goes_on start.stations spots pairs since.visits started at link ticket ticket' inside busy keeps since.going;
            links = since.links;
            accepted = since.accepted;
            dialled = since.dialled;
          },
          refl,
        )

        -- a link was served there, and came back
        pub since_served : (link : ℕ) (ticket : T) (station : S) (source : I) (sink : O) (report : P) → lane_at at spots ≡ Busy link ticket
            → ((s : S) (i : I) (o : O) → IsTicket s i o ticket → Serves s i o station source sink report) → TookBack (record { link = link; source = source; sink = sink }) before after
            → (v : Visit S I O P) × (v.after ≡ station) × (v.report ≡ report)
            × ((served : Since Serves IsTicket start pairs started (set spots at (Free station)) after) × (served.visits ≡ since.visits ++ v ∷ []))
        since_served link ticket station source sink report busy serves took =
            let joined = joins Serves IsTicket start.stations spots pairs since.visits started at (Busy link ticket) inside (at_any (Busy link ticket) busy) since.going
            link ticket station source sink report refl serves in
            let v : Visit S I O P = joined.0 in
            let told : record { link = link; source = source; sink = sink } ≡ returned v =
            λ k. record { link = sym joined.1 k; source = sym joined.2 k; sink = sym joined.3 k } in (
              v,
              joined.5,
              joined.4,
              (
                record {
                  visits = since.visits ++ v ∷ [];
                  going = joined.6;
                  links = took.links ∙ ap (λ (r : Returned I O). option_map (got_back r) before.links) told
                      ∙ ap (option_map (got_back (returned v))) since.links ∙ got_one pairs since.visits v start.seen.links;
                  accepted = took.accepted ∙ since.accepted;
                  dialled = took.dialled ∙ since.dialled;
                },
                refl,
              ),
            )
