-- Links that stations served, one after another at each place.
use Rattle.std.specs.Prelude.{◌≡◌, ℕ, ◌-◌, ◌≤◌, ◌<◌, ◌==◌, List, [], ◌∷◌, ◌++◌, length, get_or, filter, count_by, map, slice_get, Some, All}
use Rattle.shop_edges.specs.Links.{Links, Returned}

-- a link that was served: its number, counted from 1, the place, counted from 0, the station and the streams as the
-- service found them and as it left them, and the report
pub record Visit (S I O P : Type 0) : Type 0 where
  pub link : ℕ
  pub place : ℕ
  pub before : S
  pub source : I
  pub sink : O
  pub after : S
  pub source_left : I
  pub sink_left : O
  pub report : P

-- the visits of a place
abbrev pub visits_at : {S I O P : Type 0} → ℕ → List (Visit S I O P) → List (Visit S I O P)
visits_at place visits = filter (λ v. v.place == place) visits

-- how many visits were of a link
abbrev pub visits_of : {S I O P : Type 0} → ℕ → List (Visit S I O P) → ℕ
visits_of link visits = count_by (λ v. v.link == link) visits

module _ {S I O P : Type 0} (Serves : S → I → O → S → I → O → P → Type 0) where
  -- the station served the link
  abbrev pub IsService : Visit S I O P → Type 0
  IsService v = Serves v.before v.source v.sink v.after v.source_left v.sink_left v.report

  -- from one station to the next: each visit begins with the station that the one before it left
  abbrev pub Chain : S → List (Visit S I O P) → S → Type 0
  Chain first [] last = last ≡ first
  Chain first (v ∷ vs) last = (v.before ≡ first) × IsService v × Chain v.after vs last

-- the streams of a visit are those that were accepted under its number
abbrev pub IsOf : {S I O P : Type 0} → List (I × O) → Visit S I O P → Type 0
IsOf pairs v = (1 ≤ v.link) × (slice_get pairs (v.link - 1) ≡ Some (v.source, v.sink))

-- so many links were served: each once and no other, and each is of the streams that were accepted under its number; the
-- visits of a place lead from its first station to its last
pub record AreServed {S I O P : Type 0} (Serves : S → I → O → S → I → O → P → Type 0) (firsts lasts : List S) (pairs : List (I × O)) (visits : List (Visit S I O P)) (links : ℕ) : Type 0 where
  pub size : length lasts ≡ length firsts
  pub chains : (place : ℕ) (first last : S) → place < length lasts → Chain Serves (get_or firsts place first) (visits_at place visits) (get_or lasts place last)
  pub once : (link : ℕ) → 1 ≤ link → link ≤ links → visits_of link visits ≡ 1
  pub none : (link : ℕ) → links < link → visits_of link visits ≡ 0
  pub are : All (IsOf pairs) visits
  pub within : All (λ v. v.place < length firsts) visits

-- what comes back of a visit
abbrev pub returned : {S I O P : Type 0} → Visit S I O P → Returned I O
returned v = record { link = v.link; source = v.source_left; sink = v.sink_left }

-- links were given, and links came back
abbrev pub went : {S I O P : Type 0} → List (I × O) → List (Visit S I O P) → Links I O → Links I O
went pairs visits l = record { given = l.given ++ pairs; back = l.back ++ map returned visits }
