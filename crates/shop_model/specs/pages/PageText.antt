-- The text of a page, this project's own HTML.
use Rattle.std.specs.Prelude.{ℕ, List, ◌++◌, codes}
use Rattle.std.specs.List.{flat_map}
use Rattle.shop_text.specs.Texts.{escape}
use Rattle.shop_model.specs.declared.page.Block.{Block}
use Rattle.shop_model.specs.declared.page.Block.TheVariants.{Heading, Para, Link, Picture, Table, Form}
use Rattle.shop_model.specs.declared.page.Field.{Field}
use Rattle.shop_model.specs.declared.page.Page.{Page}

-- a cell of a table
abbrev pub cell_text : List ℕ → List ℕ
cell_text text = codes "<td>" ++ escape text ++ codes "</td>"

-- a row of cells
abbrev pub row_text : List (List ℕ) → List ℕ
row_text cells = codes "<tr>" ++ flat_map cell_text cells ++ codes "</tr>"

-- an input of a form
unfoldable pub field_text : Field → List ℕ
field_text field =
    codes "<input name=\"" ++ escape field.name ++ codes "\" value=\"" ++ escape field.value ++ codes "\">"

-- a block, with its texts escaped
unfoldable pub block_text : Block → List ℕ
block_text (Heading text) = codes "<h1>" ++ escape text ++ codes "</h1>"
block_text (Para text) = codes "<p>" ++ escape text ++ codes "</p>"
block_text (Link target label) =
    codes "<a href=\"" ++ escape target ++ codes "\">" ++ escape label ++ codes "</a>"
block_text (Picture target label) =
    codes "<img src=\"" ++ escape target ++ codes "\" alt=\"" ++ escape label ++ codes "\">"
block_text (Table rows) = codes "<table>" ++ flat_map row_text rows ++ codes "</table>"
block_text (Form target fields) =
    codes "<form action=\"" ++ escape target ++ codes "\">" ++ flat_map field_text fields ++ codes "</form>"

-- a block and a line feed
abbrev pub block_line : Block → List ℕ
block_line block = block_text block ++ codes "\n"

-- the title in the head, and a line for each block in the body
unfoldable pub page_text : Page → List ℕ
page_text page =
    codes "<html><head><title>" ++ escape page.title ++ codes "</title></head><body>\n"
    ++ flat_map block_line page.blocks ++ codes "</body></html>\n"
