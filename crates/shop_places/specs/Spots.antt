-- Places, by whatever ticket a busy one has, and what stands while links are served there.
use Rattle.std.specs.Prelude.{◌≡◌, ⊤, ℕ, ◌+◌, ◌-◌, ◌≤◌, ◌<◌, ◌==◌, cond, List, length, get_or, sum_by, slice_get, Some, All}
use Rattle.shop_places.specs.declared.spot.Spot.{Spot}
use Rattle.shop_places.specs.declared.spot.Spot.TheVariants.{Free, Busy, Gone}
use Rattle.shop_places.specs.Visits.{Visit, Chain, IsOf, visits_at, visits_of}

-- a place with this station
abbrev pub put_free : {S T : Type 0} → S → Spot S T
put_free station = Free station

-- a place has a station
abbrev pub IsFree : {S T : Type 0} → Spot S T → Type 0
IsFree (Free station) = ⊤
IsFree (Busy link ticket) = ⊥
IsFree Gone = ⊥

-- no job has the place
abbrev pub IsIdle : {S T : Type 0} → Spot S T → Type 0
IsIdle (Free station) = ⊤
IsIdle (Busy link ticket) = ⊥
IsIdle Gone = ⊤

-- the place did not lose its station
abbrev pub IsThere : {S T : Type 0} → Spot S T → Type 0
IsThere (Free station) = ⊤
IsThere (Busy link ticket) = ⊤
IsThere Gone = ⊥

abbrev pub NoneGone : {S T : Type 0} → List (Spot S T) → Type 0
NoneGone spots = All IsThere spots

-- there is a place of this index, and it has a station
abbrev pub IsFreeAt : {S T : Type 0} → List (Spot S T) → ℕ → Type 0
IsFreeAt {S} {T} spots at = (at < length spots) × ((station : S) × ((other : Spot S T) → get_or spots at other ≡ Free station))

-- how many of these places are busy with a link: one at most
abbrev pub busy_as : {S T : Type 0} → ℕ → Spot S T → ℕ
busy_as link (Free station) = 0
busy_as link (Busy number ticket) = cond (number == link) 1 0
busy_as link Gone = 0

abbrev pub busy_with : {S T : Type 0} → ℕ → List (Spot S T) → ℕ
busy_with link spots = sum_by (busy_as link) spots

module _ {S T I O P : Type 0} (Serves : S → I → O → S → I → O → P → Type 0) (IsTicket : S → I → O → T → Type 0) where
  -- a place stands where its visits led to its station, or to the one that it lost; the ticket of a busy one is that of
  -- a job with this station and the streams that were accepted under the link's number
  abbrev pub Stands : List (I × O) → List (Visit S I O P) → S → Spot S T → Type 0
  Stands pairs visits first (Free station) = Chain Serves first visits station
  Stands pairs visits first (Busy link ticket) = (station : S) × (source : I) × (sink : O)
      × Chain Serves first visits station × (1 ≤ link) × (slice_get pairs (link - 1) ≡ Some (source, sink)) × IsTicket station source sink ticket
  Stands pairs visits first Gone = (station : S) × Chain Serves first visits station

  -- after so many starts, with these streams accepted and these visits made
  pub record Going (firsts : List S) (spots : List (Spot S T)) (pairs : List (I × O)) (visits : List (Visit S I O P)) (started : ℕ) : Type 0 where
    pub size : length spots ≡ length firsts
    pub each : (place : ℕ) (first : S) (other : Spot S T) → place < length spots
        → Stands pairs (visits_at place visits) (get_or firsts place first) (get_or spots place other)
    pub once : (link : ℕ) → 1 ≤ link → link ≤ started → visits_of link visits + busy_with link spots ≡ 1
    pub none : (link : ℕ) → started < link → visits_of link visits + busy_with link spots ≡ 0
    pub are : All (IsOf pairs) visits
    pub within : All (λ v. v.place < length firsts) visits
