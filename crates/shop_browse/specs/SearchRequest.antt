-- What Search Request reads, and its page.
use Rattle.std.specs.Prelude.{ℕ, List, ◌∷◌, ◌++◌, map, codes}
use Rattle.shop_model.specs.declared.page.Block.TheVariants.{Heading}
use Rattle.shop_model.specs.declared.page.Page.{Page}
use Rattle.shop_model.specs.declared.requests.IdsAsked.{IdsAsked}
use Rattle.shop_model.specs.pages.SearchRequest.{search_form}
use Rattle.shop_model.specs.pages.Targets.{nav}
use Rattle.shop_attempt.specs.declared.attempts.ReadOf.{ReadOf}
use Rattle.shop_browse.specs.declared.attempted.Ask.{Ask}
use Rattle.shop_browse.specs.Counting.{HasCount, drawn_key}
use Rattle.shop_browse.specs.declared.names.Names.{Names}
use Rattle.shop_browse.specs.Names.{FollowsNamed}
use Rattle.shop_browse.specs.Related.{promoted_in, related_in}

-- the number of items was read, then the drawn item, then labels of items related to it
abbrev pub FollowsSearch : Ask → ℕ → List ReadOf → Type 0
FollowsSearch ask = HasCount (λ items. FollowsNamed ask.index.now related_in (drawn_key ask.draw items))

-- the form of a search, with a promotion of these items
unfoldable pub search_in : Names → IdsAsked → List ℕ → Page
search_in names ids items = record {
  status = 200;
  title = codes "Search Request";
  blocks = Heading (codes "Search") ∷ map (promoted_in names ids) items ++ search_form ids ∷ nav ids;
}
