-- The lists of items on pages; all this project's own wording.
use Rattle.std.specs.Prelude.{ℕ, List, [], ◌∷◌, ◌++◌, map, unwrap_or, option_map, codes}
use Rattle.shop_model.specs.declared.page.Block.{Block}
use Rattle.shop_model.specs.declared.page.Block.TheVariants.{Para}
use Rattle.shop_model.specs.declared.page.Page.{Page}
use Rattle.shop_model.specs.declared.requests.IdsAsked.{IdsAsked}
use Rattle.shop_model.specs.declared.tables.Tables.{Tables}
use Rattle.shop_model.specs.rows.Lookups.{row_numbered, author_of}
use Rattle.shop_model.specs.pages.Targets.{item_link, nav}

-- a title and its author's names
unfoldable pub line_label : List ℕ → List ℕ → List ℕ → List ℕ
line_label title first last = title ++ codes " by " ++ first ++ codes " " ++ last

-- the label of the item with an id
abbrev pub label_numbered : Tables → ℕ → List ℕ
label_numbered t id =
    unwrap_or (option_map (λ i. line_label i.title (author_of t i).first (author_of t i).last) (row_numbered t.items id)) []

-- a line of a list: a link to the item's page
abbrev pub list_line : Tables → IdsAsked → ℕ → Block
list_line t ids id = item_link (codes "/product_detail") id ids (label_numbered t id)

-- the lines of a list, and a word where it is empty
abbrev pub list_blocks : Tables → IdsAsked → List ℕ → List Block
list_blocks t ids [] = Para (codes "Nothing found.") ∷ []
list_blocks t ids (id ∷ others) = map (list_line t ids) (id ∷ others)

-- a page with a list
abbrev pub list_page : Tables → IdsAsked → List ℕ → List Block → List ℕ → Page
list_page t ids title head items =
    record { status = 200; title = title; blocks = head ++ list_blocks t ids items ++ nav ids }
