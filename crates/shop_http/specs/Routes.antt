-- What a router of the shop's paths has, and what it finds.
use Rattle.std.specs.Prelude.{◌≡◌, ℕ, false, List, [], map, option_map}
use Rattle.matchit.specs.Route.{Scan, outside}
use Rattle.matchit.specs.Router.{RouteOf, route_from}
use Rattle.matchit.specs.Rows.{RowsOf}
use Rattle.matchit.specs.Seek.{first}
use Rattle.shop_model.specs.declared.requests.Interaction.{Interaction}
use Rattle.shop_model.specs.asked.Interactions.{interaction_of}

-- a path without parameters, as the router reads it
abbrev pub plain_scan : List ℕ → Scan
plain_scan path =
    record { pattern = path; text = path; names = []; name_start = 0; catch_all = false; mode = outside }

-- the router's row of a path with its interaction
abbrev pub row_of : List ℕ × Interaction → List ℕ × RouteOf Interaction
row_of (path, interaction) = (path, route_from (plain_scan path) interaction)

abbrev pub rows_of : List (List ℕ × Interaction) → RowsOf (RouteOf Interaction)
rows_of paths = map row_of paths

-- the router finds the interaction of each path, and no other
abbrev pub FindsAll : RowsOf (RouteOf Interaction) → Type 0
FindsAll rows = (path : List ℕ) → option_map (λ route. route.value) (first rows path) ≡ interaction_of path
