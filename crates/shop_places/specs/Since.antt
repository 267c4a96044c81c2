-- What happened since places began with their stations.
use Rattle.std.specs.Prelude.{◌≡◌, ℕ, List, length, option_map}
use Rattle.shop_places.specs.Counts.{counted}
use Rattle.shop_places.specs.Listening.{Listening}
use Rattle.shop_places.specs.Spots.{Going}
use Rattle.shop_places.specs.Visits.{Visit, went}
use Rattle.shop_places.specs.declared.spot.Spot.{Spot}

-- the stations, and what was seen of the listener then
pub record Start (S I O : Type 0) : Type 0 where
  pub stations : List S
  pub seen : Listening I O

module _ {S T I O P : Type 0} (Serves : S → I → O → S → I → O → P → Type 0) (IsTicket : S → I → O → T → Type 0) where
  -- these links were accepted since, and so many of them were started; those that are not at a place were served and
  -- came back
  pub record Since (start : Start S I O) (pairs : List (I × O)) (started : ℕ) (spots : List (Spot S T)) (seen : Listening I O) : Type 0 where
    pub visits : List (Visit S I O P)
    pub going : Going Serves IsTicket start.stations spots pairs visits started
    pub links : seen.links ≡ option_map (went pairs visits) start.seen.links
    pub accepted : seen.accepted ≡ counted (length pairs) start.seen.accepted
    pub dialled : seen.dialled ≡ start.seen.dialled
