-- What Search Results reads, and what it finds by that.
use Rattle.std.specs.Prelude.{◌≡◌, ℕ, List, [], ◌∷◌, ◌++◌, map}
use Rattle.shop_model.specs.asked.SearchAsked.{SearchAsked}
use Rattle.shop_model.specs.lists.Catalogues.{Search, found, search_for}
use Rattle.shop_history.specs.declared.keys.Key.{Key}
use Rattle.shop_history.specs.declared.keys.Key.TheVariants.{Added}
use Rattle.shop_attempt.specs.declared.attempts.ReadOf.{ReadOf}
use Rattle.shop_search.specs.Titles.{TitledItem, firsts}
use Rattle.shop_browse.specs.declared.attempted.Ask.{Ask}
use Rattle.shop_browse.specs.Lines.{items_in}
use Rattle.shop_browse.specs.declared.names.Names.{Names}
use Rattle.shop_browse.specs.Names.{title_in, FollowsNamed}

-- the key of the added items that are found
abbrev pub added_key : SearchAsked → Key
added_key asked = Added (search_for asked.kind asked.text)

-- they were read, and then their labels
abbrev pub FollowsFound : SearchAsked → Ask → ℕ → List ReadOf → Type 0
FollowsFound asked ask = FollowsNamed ask.index.now items_in (added_key asked)

-- an item by the title that is known of it
abbrev pub titled_in : Names → ℕ → TitledItem
titled_in names id = record { title = title_in names id; id = id }

-- the first items that are found: those of the opening, and these that were added, by their titles
abbrev pub IsFound : Names → Search → List ℕ → List ℕ → Type 0
IsFound names sought [] ids = ids ≡ found names.index.now sought.kind sought.text
IsFound names sought (id ∷ more) ids =
    ids ≡ map (λ i. i.id)
    (firsts (map (titled_in names) (found names.index.now sought.kind sought.text) ++ map (titled_in names) (id ∷ more)))
