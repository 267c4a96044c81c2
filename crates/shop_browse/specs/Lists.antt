-- The pages of lists, by their lines, and the lines that tables show.
use Rattle.std.specs.Prelude.{◌≡◌, ℕ, List, [], ◌∷◌, ◌++◌, map, codes, All, Option, Some, None}
use Rattle.shop_model.specs.asked.Kinds.{kind_name}
use Rattle.shop_model.specs.asked.SearchAsked.{SearchAsked}
use Rattle.shop_model.specs.declared.page.Block.{Block}
use Rattle.shop_model.specs.declared.page.Block.TheVariants.{Heading, Para}
use Rattle.shop_model.specs.declared.page.Page.{Page}
use Rattle.shop_model.specs.declared.requests.BestSellers.{BestSellers as BestAsked}
use Rattle.shop_model.specs.declared.requests.IdsAsked.{IdsAsked}
use Rattle.shop_model.specs.declared.requests.NewProducts.{NewProducts as NewAsked}
use Rattle.shop_model.specs.declared.requests.Request.{Request}
use Rattle.shop_model.specs.declared.requests.Request.TheVariants.{NewProducts, BestSellers, SearchResults}
use Rattle.shop_model.specs.declared.tables.Tables.{Tables}
use Rattle.shop_model.specs.lists.Catalogues.{catalogue, found}
use Rattle.shop_model.specs.lists.Rankings.{newest, best}
use Rattle.shop_model.specs.pages.Targets.{nav}
use Rattle.shop_model.specs.rows.Subjects.{subject_name}
use Rattle.shop_history.specs.declared.keys.Key.TheVariants.{Label}
use Rattle.shop_history.specs.declared.keys.Row.TheVariants as row
use Rattle.shop_history.specs.Keys.{row_of}
use Rattle.shop_cache.specs.declared.keys.ListKey.{ListKey}
use Rattle.shop_cache.specs.declared.keys.ListKey.TheVariants.{New, Best, Found}
use Rattle.shop_cache.specs.declared.lines.ListLine.{ListLine}
use Rattle.shop_cache.specs.Keys.{key_asked}
use Rattle.shop_cache.specs.Lines.{line_in}

-- pages

-- the lines of a list, and a word where it is empty
abbrev pub lines_in : IdsAsked → List ListLine → List Block
lines_in ids [] = Para (codes "Nothing found.") ∷ []
lines_in ids (line ∷ lines) = map (line_in ids) (line ∷ lines)

-- the page of a list, with this title and behind these first blocks
abbrev pub page_in : IdsAsked → List ℕ → List Block → List ListLine → Page
page_in ids title head lines =
    record { status = 200; title = title; blocks = head ++ lines_in ids lines ++ nav ids }

abbrev pub new_page : NewAsked → List ListLine → Page
new_page asked = page_in asked.ids (codes "New Products") (Heading (codes "New " ++ subject_name asked.subject) ∷ [])

abbrev pub best_page : BestAsked → List ListLine → Page
best_page asked = page_in asked.ids (codes "Best Sellers") (Heading (codes "Best " ++ subject_name asked.subject) ∷ [])

-- the heading, and what was searched for
abbrev pub head_of : SearchAsked → List Block
head_of asked = Heading (codes "Search Results") ∷ Para (kind_name asked.kind ++ codes ": " ++ asked.text) ∷ []

abbrev pub found_page : SearchAsked → List ListLine → Page
found_page asked = page_in asked.ids (codes "Search Results") (head_of asked)

-- the page of the list that is asked for
abbrev pub page_by : Request → List ListLine → Option Page
page_by (NewProducts asked) lines = Some (new_page asked lines)
page_by (BestSellers asked) lines = Some (best_page asked lines)
page_by (SearchResults asked) lines = Some (found_page asked lines)
page_by _ lines = None

-- lines

-- the items on a list
abbrev pub items_on : Tables → ListKey → List ℕ
items_on t (New subject) = newest t subject
items_on t (Best subject) = best t subject
items_on t (Found kind text) = found (catalogue t) kind text

-- they are of these items, each named as the tables show it
pub record AreLines (t : Tables) (items : List ℕ) (lines : List ListLine) : Type 0 where
  pub items_are : map (λ l. l.item) lines ≡ items
  pub labels : All (λ l. row_of t (Label l.item) ≡ row.Label l.label) lines

-- they are those of the list that is asked for, and a list is
pub record AreListed (t : Tables) (request : Request) (lines : List ListLine) : Type 0 where
  pub key : ListKey
  pub asked : key_asked request ≡ Some key
  pub are : AreLines t (items_on t key) lines
