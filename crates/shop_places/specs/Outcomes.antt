-- What comes of links that are to be served.
use Rattle.std.specs.Prelude.{◌≡◌, ⊤, ℕ, ◌+◌, ◌≤◌, List, [], ◌∷◌, ◌++◌, length, option_map, Result, Ok, Err, Vec}
use Rattle.shop_places.specs.Counts.{counted}
use Rattle.shop_places.specs.Listening.{Listening}
use Rattle.shop_places.specs.Places.{SinceBy, SpotBy}
use Rattle.shop_places.specs.Since.{Start}
use Rattle.shop_places.specs.Spots.{NoneGone}
use Rattle.shop_places.specs.Visits.{AreServed, Visit, went}
use Rattle.shop_places.specs.declared.serving.Stop.{Stop}
use Rattle.shop_places.specs.declared.serving.Stop.TheVariants.{NoLink, NotStarted, Memory}

-- how many of the links that were accepted may have been lost before a job was started for them
abbrev pub MayLose : Stop → ℕ → Type 0
MayLose NoLink lost = lost ≡ 0
MayLose NotStarted lost = lost ≡ 1
MayLose Memory lost = lost ≤ 1

module _ {R S I O P : Type 0} (Serves : S → I → O → S → I → O → P → Type 0) where
  -- one link more is served, or was
  pub record IsOneMore (link : ℕ) (old new : List (SpotBy R S I O P)) (before after : Listening I O) : Type 0 where
    pub there : NoneGone old → NoneGone new
    pub later : before.faults ≤ after.faults
    pub since : (start : Start S I O) (pairs : List (I × O)) (started : ℕ) → SinceBy {R = R} {P = P} Serves start pairs started old before → length pairs ≡ started → link ≡ started + 1
        → (pair : I × O) × SinceBy {R = R} {P = P} Serves start (pairs ++ pair ∷ []) (started + 1) new after

  -- no job was started for the link, if one was accepted
  pub record IsNoMore (stop : Stop) (old new : List (SpotBy R S I O P)) (before after : Listening I O) : Type 0 where
    pub later : before.faults ≤ after.faults
    pub since : (start : Start S I O) (pairs : List (I × O)) (started : ℕ) → SinceBy {R = R} {P = P} Serves start pairs started old before
        → (more : List (I × O)) × MayLose stop (length more) × SinceBy {R = R} {P = P} Serves start (pairs ++ more) started new after

  abbrev pub ServesOne : ℕ → List (SpotBy R S I O P) → List (SpotBy R S I O P) → Listening I O → Listening I O → Result ⊤ Stop → Type 0
  ServesOne link old new before after (Ok done) = IsOneMore link old new before after
  ServesOne link old new before after (Err stop) = IsNoMore stop old new before after

  -- so many links were accepted, and are served or were
  pub record AreStarted (links : ℕ) (old new : List (SpotBy R S I O P)) (before after : Listening I O) : Type 0 where
    pub there : NoneGone old → NoneGone new
    pub later : before.faults ≤ after.faults
    pub since : (start : Start S I O) → SinceBy {R = R} {P = P} Serves start [] 0 old before
        → (pairs : List (I × O)) × (length pairs ≡ links) × SinceBy {R = R} {P = P} Serves start pairs links new after

  -- only so many of the links were
  pub record AreStopped (links : ℕ) (stop : Stop) (old new : List (SpotBy R S I O P)) (before after : Listening I O) : Type 0 where
    pub since : (start : Start S I O) → SinceBy {R = R} {P = P} Serves start [] 0 old before
        → (pairs : List (I × O)) × (started : ℕ) × (lost : ℕ) × (started ≤ links) × MayLose stop lost × (length pairs ≡ started + lost)
        × SinceBy {R = R} {P = P} Serves start pairs started new after

  abbrev pub ServesLinks : ℕ → List (SpotBy R S I O P) → List (SpotBy R S I O P) → Listening I O → Listening I O → Result ⊤ Stop → Type 0
  ServesLinks links old new before after (Ok done) = AreStarted links old new before after
  ServesLinks links old new before after (Err stop) = AreStopped links stop old new before after

module _ {S I O P : Type 0} (Serves : S → I → O → S → I → O → P → Type 0) where
  -- so many links were served, which led the stations from the first to the last, and these came back in the order of
  -- the visits; so many others were accepted and lost
  pub record AreDone (served lost : ℕ) (firsts lasts : List S) (before after : Listening I O) : Type 0 where
    pub pairs : List (I × O)
    pub visits : List (Visit S I O P)
    pub are : AreServed Serves firsts lasts pairs visits served
    pub many : length pairs ≡ served + lost
    pub links : after.links ≡ option_map (went pairs visits) before.links
    pub accepted : after.accepted ≡ counted (served + lost) before.accepted
    pub dialled : after.dialled ≡ before.dialled

  -- no more links were accepted: so many were served, and the stations are dropped
  abbrev pub IsStopped : ℕ → List S → Stop → Listening I O → Listening I O → Type 0
  IsStopped links firsts stop before after = (served : ℕ) × (lost : ℕ) × (lasts : List S) × (served ≤ links) × MayLose stop lost × AreDone served lost firsts lasts before after

  -- all links were served, and these are the stations; or fewer were
  abbrev pub Outcome : {A : Type 0} → ℕ → List S → Listening I O → Listening I O → Result (Vec S A) Stop → Type 0
  Outcome links firsts before after (Ok lasts) = AreDone links 0 firsts lasts.items before after
  Outcome links firsts before after (Err stop) = IsStopped links firsts stop before after
