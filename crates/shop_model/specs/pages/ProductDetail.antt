-- The page of one item, this project's own wording of the TPC-W specification's Product Detail.
use Rattle.std.specs.Prelude.{ℕ, List, [], ◌∷◌, ◌++◌, Option, option_map, codes, decimal}
use Rattle.shop_text.specs.Texts.{cents_text, day_text}
use Rattle.shop_model.specs.declared.author.Author.{Author}
use Rattle.shop_model.specs.declared.page.Block.{Block}
use Rattle.shop_model.specs.declared.page.Block.TheVariants.{Heading, Para, Picture}
use Rattle.shop_model.specs.declared.page.Page.{Page}
use Rattle.shop_model.specs.declared.requests.IdsAsked.{IdsAsked}
use Rattle.shop_model.specs.declared.tables.Tables.{Tables}
use Rattle.shop_model.specs.rows.Lookups.{row_numbered, author_of}
use Rattle.shop_model.specs.rows.Rows.{ItemRow}
use Rattle.shop_model.specs.rows.Subjects.{subject_name, backing_name}
use Rattle.shop_model.specs.pages.Targets.{item_link, nav}

unfoldable pub author_line : Author → List ℕ
author_line author = codes "By " ++ author.first ++ codes " " ++ author.last

unfoldable pub subject_line : ItemRow → List ℕ
subject_line item =
    codes "Subject " ++ subject_name item.subject
    ++ codes ", published " ++ day_text item.published
    ++ codes " by " ++ item.publisher

unfoldable pub pages_line : ItemRow → List ℕ
pages_line item = backing_name item.backing ++ codes ", " ++ decimal item.pages ++ codes " pages"

unfoldable pub price_line : ItemRow → List ℕ
price_line item =
    codes "List " ++ cents_text item.srp
    ++ codes ", our price " ++ cents_text item.cost
    ++ codes ", in stock " ++ decimal item.stock

-- the picture, the pages, the prices and the way into the cart
unfoldable pub details : ItemRow → IdsAsked → List Block
details item ids =
    Picture item.image item.title
    ∷ Para (pages_line item)
    ∷ Para (price_line item)
    ∷ item_link (codes "/shopping_cart") item.id ids (codes "Add to cart")
    ∷ []

-- the page of an item and its author
unfoldable pub product_page : ItemRow → Author → IdsAsked → Page
product_page item author ids = record {
  status = 200;
  title = codes "Product Detail";
  blocks =
      Heading item.title
      ∷ Para (author_line author)
      ∷ Para (subject_line item)
      ∷ Para item.about
      ∷ details item ids
      ++ nav ids;
}

-- the page of the item with a number, if there is one
abbrev pub product_detail : Tables → ℕ → IdsAsked → Option Page
product_detail tables number ids =
    option_map (λ item. product_page item (author_of tables item) ids) (row_numbered tables.items number)
