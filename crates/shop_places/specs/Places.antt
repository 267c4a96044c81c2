-- What is done at places: jobs are started there, and joined.
use Rattle.std.specs.Prelude.{◌≡◌, ℕ, ◌≤◌, List, length, get_or, set}
use Rattle.shop_edges.specs.Starts.{MayGive}
use Rattle.shop_edges.specs.declared.ticket.Begun.{Begun}
use Rattle.shop_places.specs.Listening.{Listening, TookBack}
use Rattle.shop_places.specs.Since.{Since, Start}
use Rattle.shop_places.specs.Spots.{IsIdle, NoneGone}
use Rattle.shop_places.specs.Tickets.{IsTicket, Keeps}
use Rattle.shop_places.specs.declared.job.Serving.{Serving}
use Rattle.shop_places.specs.declared.job.Served.{Served}
use Rattle.shop_places.specs.declared.spot.Spot.{Spot}
use Rattle.shop_places.specs.declared.spot.Spot.TheVariants.{Free, Busy, Gone}

-- what a place has whose tickets are those of such jobs
abbrev pub SpotBy : (R S I O P : Type 0) → Type 0
SpotBy R S I O P = Spot S (Begun (Serving R S I O) (Served S I O P))

-- the job of the station that a place had, with these streams
abbrev pub IsJobAt : {R S I O T : Type 0} → List (Spot S T) → ℕ → I → O → Serving R S I O → Type 0
IsJobAt {S = S} {T = T} spots at source sink job = ((other : Spot S T) → get_or spots at other ≡ Free job.station) × (job.source ≡ source) × (job.sink ≡ sink)

module _ {R S I O P : Type 0} (Serves : S → I → O → S → I → O → P → Type 0) where
  -- these links were accepted since the start, and so many of them were started
  abbrev pub SinceBy : Start S I O → List (I × O) → ℕ → List (SpotBy R S I O P) → Listening I O → Type 0
  SinceBy = Since Serves (IsTicket {R = R} Serves)

  -- jobs may have been joined, and their links given back; nothing else was done
  pub record Continues (old new : List (SpotBy R S I O P)) (before after : Listening I O) : Type 0 where
    pub size : length new ≡ length old
    pub there : NoneGone old → NoneGone new
    pub later : before.faults ≤ after.faults
    pub since : (start : Start S I O) (pairs : List (I × O)) (started : ℕ) → SinceBy start pairs started old before → SinceBy start pairs started new after

  -- no job has this place any more, and the others stay
  pub record Settles (at : ℕ) (old new : List (SpotBy R S I O P)) (before after : Listening I O) : Type 0 where
    pub spot : SpotBy R S I O P
    pub only : new ≡ set old at spot
    pub idle : IsIdle spot
    pub continues : Continues old new before after

  -- a ticket was joined, and its link was given back under this number
  abbrev pub Finishes : ℕ → Begun (Serving R S I O) (Served S I O P) → S → Listening I O → Listening I O → Type 0
  Finishes link ticket station before after = (out : Served S I O P) × MayGive (Keeps Serves) ticket out × (station ≡ out.station)
      × TookBack (record { link = link; source = out.source; sink = out.sink }) before after

  -- by what the place had
  abbrev pub Idles : SpotBy R S I O P → SpotBy R S I O P → Listening I O → Listening I O → Type 0
  Idles (Free station) new before after = (new ≡ Free station) × (after ≡ before)
  Idles (Busy link ticket) new before after = (station : S) × (new ≡ Free station) × Finishes link ticket station before after
  Idles Gone new before after = (new ≡ Gone) × (after ≡ before)

  -- the job of this place was started
  pub record StartsAt (at link : ℕ) (job : Serving R S I O) (old new : List (SpotBy R S I O P)) : Type 0 where
    pub ticket : Begun (Serving R S I O) (Served S I O P)
    pub only : new ≡ set old at (Busy link ticket)
    pub is : IsTicket Serves job.station job.source job.sink ticket
