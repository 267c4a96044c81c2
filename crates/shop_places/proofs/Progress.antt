-- What happened since places began, step by step, whatever the tickets.
use Rattle.std.proofs.Common.{◌≡◌, ℕ, ◌+◌, ◌<◌, List, [], ◌∷◌, ◌++◌, map, length, get_or, set, Option, Some, None, refl, sym, ap, ap₂, ◌∙◌, append-nil, append_assoc}
use Rattle.std.proofs.lemmas.List.{map-append}
use Rattle.std.specs.Prelude.{option_map, slice_get}
use Rattle.shop_edges.specs.Causes.{count_up}
use Rattle.shop_edges.specs.Links.{Links, Returned, got_back}
use Rattle.shop_places.specs.Counts.{counted}
use Rattle.shop_places.specs.Listening.{Gave, GaveNone, Listening, TookBack, gave_more}
use Rattle.shop_places.specs.Since.{Since, Start}
use Rattle.shop_places.specs.Spots.{put_free}
use Rattle.shop_places.specs.Visits.{Visit, returned, went}
use Rattle.shop_places.specs.declared.spot.Spot.{Spot}
use Rattle.shop_places.specs.declared.spot.Spot.TheVariants.{Free, Busy, Gone}
use Rattle.shop_places.proofs.cited.Counts.{counted_more}
use Rattle.shop_places.proofs.cited.Going.{accepts, begins, goes, joins, starts}

-- what went, and then something more
went_none : (S I O P : Type 0) (links : Option (Links I O)) → links ≡ option_map (went {S = S} {P = P} [] []) links
went_none S I O P None = refl
went_none S I O P (Some l) = ap₂ (λ (g : List (I × O)) (b : List (Returned I O)). Some (record { given = g; back = b })) (sym (append-nil l.given)) (sym (append-nil l.back))

went_gave : (S I O P : Type 0) (pairs more : List (I × O)) (visits : List (Visit S I O P)) (links : Option (Links I O))
    → option_map (gave_more more) (option_map (went pairs visits) links) ≡ option_map (went (pairs ++ more) visits) links
went_gave S I O P pairs more visits None = refl
went_gave S I O P pairs more visits (Some l) =
    ap (λ (g : List (I × O)). Some (record { given = g; back = l.back ++ map returned visits })) (append_assoc l.given pairs more)

went_back : (S I O P : Type 0) (pairs : List (I × O)) (visits : List (Visit S I O P)) (v : Visit S I O P) (links : Option (Links I O))
    → option_map (got_back (returned v)) (option_map (went pairs visits) links) ≡ option_map (went pairs (visits ++ v ∷ [])) links
went_back S I O P pairs visits v None = refl
went_back S I O P pairs visits v (Some l) =
    ap (λ (b : List (Returned I O)). Some (record { given = l.given ++ pairs; back = b }))
    (append_assoc l.back (map returned visits) (returned v ∷ []) ∙ ap (λ (r : List (Returned I O)). l.back ++ r) (sym (map-append returned visits (v ∷ []))))

module _ {S T I O P : Type 0} (Serves : S → I → O → S → I → O → P → Type 0) (IsTicket : S → I → O → T → Type 0) (start : Start S I O) where
  -- at the start
  pub since_start : Since Serves IsTicket start [] 0 (map put_free start.stations) start.seen
  since_start = record {
    visits = [];
    going = begins Serves IsTicket start.stations;
    links = went_none S I O P start.seen.links;
    accepted = refl;
    dialled = refl;
  }

  module _ (pairs : List (I × O)) (started : ℕ) (spots : List (Spot S T)) (before after : Listening I O) (since : Since Serves IsTicket start pairs started spots before) where
    -- a link was accepted
    pub since_gave : (pair : I × O) → Gave pair before after → Since Serves IsTicket start (pairs ++ pair ∷ []) started spots after
    since_gave pair gave = record {
      visits = since.visits;
      going = accepts Serves IsTicket start.stations spots pairs (pair ∷ []) since.visits started since.going;
      links = gave.links ∙ ap (option_map (gave_more (pair ∷ []))) since.links ∙ went_gave S I O P pairs (pair ∷ []) since.visits start.seen.links;
      accepted = gave.accepted ∙ ap count_up since.accepted ∙ sym (counted_more pairs pair start.seen.accepted);
      dialled = gave.dialled ∙ since.dialled;
    }

    -- none was
    pub since_gave_none : GaveNone before after → Since Serves IsTicket start (pairs ++ []) started spots after
    since_gave_none gave = record {
      visits = since.visits;
      going = accepts Serves IsTicket start.stations spots pairs [] since.visits started since.going;
      links = gave.links ∙ ap (option_map (gave_more [])) since.links ∙ went_gave S I O P pairs [] since.visits start.seen.links;
      accepted = gave.accepted ∙ since.accepted ∙ ap (λ (ps : List (I × O)). counted (length ps) start.seen.accepted) (sym (append-nil pairs));
      dialled = gave.dialled ∙ since.dialled;
    }

    -- a job was joined, and its link given back
    pub since_back : (at link : ℕ) (ticket : T) (station : S) (source : I) (sink : O) (report : P) → at < length spots → ((d : Spot S T) → get_or spots at d ≡ Busy link ticket)
        → ((s : S) (i : I) (o : O) → IsTicket s i o ticket → Serves s i o station source sink report) → TookBack (record { link = link; source = source; sink = sink }) before after
        → Since Serves IsTicket start pairs started (set spots at (Free station)) after
    since_back at link ticket station source sink report inside is serves took =
        let joined = joins Serves IsTicket start.stations spots pairs since.visits started at (Busy link ticket) inside is since.going
        link ticket station source sink report refl serves in
        let v : Visit S I O P = joined.0 in
        let told : record { link = link; source = source; sink = sink } ≡ returned v =
        λ k. record { link = sym joined.1 k; source = sym joined.2 k; sink = sym joined.3 k } in
        record {
          visits = since.visits ++ v ∷ [];
          going = joined.6;
          links = took.links ∙ ap (λ (r : Returned I O). option_map (got_back r) before.links) told
              ∙ ap (option_map (got_back (returned v))) since.links ∙ went_back S I O P pairs since.visits v start.seen.links;
          accepted = took.accepted ∙ since.accepted;
          dialled = took.dialled ∙ since.dialled;
        }

  module _ (pairs : List (I × O)) (started : ℕ) (spots : List (Spot S T)) (seen : Listening I O) (at : ℕ) (station : S)
      (inside : at < length spots) (free : (d : Spot S T) → get_or spots at d ≡ Free station) (since : Since Serves IsTicket start pairs started spots seen) where
    -- a job was started, for the next link
    pub since_started : (source : I) (sink : O) (ticket : T) → slice_get pairs started ≡ Some (source, sink) → IsTicket station source sink ticket
        → Since Serves IsTicket start pairs (started + 1) (set spots at (Busy (started + 1) ticket)) seen
    since_started source sink ticket given of = record {
      visits = since.visits;
      going = starts Serves IsTicket start.stations spots pairs since.visits started at (Free station) inside free since.going station source sink ticket refl given of;
      links = since.links;
      accepted = since.accepted;
      dialled = since.dialled;
    }

    -- a job was to be started, and was not
    pub since_gone : Since Serves IsTicket start pairs started (set spots at Gone) seen
    since_gone = record {
      visits = since.visits;
      going = goes Serves IsTicket start.stations spots pairs since.visits started at (Free station) inside free since.going station refl;
      links = since.links;
      accepted = since.accepted;
      dialled = since.dialled;
    }
