-- The links in the text of a page are those of its blocks.
use Rattle.std.proofs.Common.{◌≡◌, ℕ, ◌==◌, true, false, List, [], ◌∷◌, ◌++◌, map, codes, refl, sym, ap, ◌∙◌, append_assoc, append-nil}
use Rattle.std.specs.List.{flat_map}
use Rattle.std.proofs.lemmas.Bool.{ne_eqb, eq-eqb, true≢false}
use Rattle.shop_text.specs.Escape.{escape}
use Rattle.shop_model.specs.declared.page.Block.{Block}
use Rattle.shop_model.specs.declared.page.Block.TheVariants.{Heading, Para, Link, Picture, Table, Form}
use Rattle.shop_model.specs.declared.page.Field.{Field}
use Rattle.shop_model.specs.declared.page.Page.{Page}
use Rattle.shop_model.specs.pages.PageText.{page_text, block_text, block_line, row_text, cell_text, field_text}
use Rattle.shop_browsers.specs.Scanned.{links_in}
use Rattle.shop_model.specs.pages.Targets.{link_target, targets_of}
use Rattle.shop_browsers.proofs.Escaped.{none_of, none_tail, none_less, before_quote}

-- a byte that is no `<` opens no link
links_behind : (byte : ℕ) (bytes : List ℕ) → (60 == byte) ≡ false → links_in (byte ∷ bytes) ≡ links_in bytes
unfolding links_in
links_behind byte bytes other = rw other refl

-- a piece has these links, whatever follows it
abbrev pub Has : List ℕ → List (List ℕ) → Type 0
Has piece links = (rest : List ℕ) → links_in (piece ++ rest) ≡ links ++ links_in rest

turned : (a b : ℕ) → (a == b) ≡ false → (b == a) ≡ false
turned a b apart = ne_eqb b a (λ e. true≢false (sym (same e) ∙ apart))
  where
    same : b ≡ a → (a == b) ≡ true
    same e = eq-eqb a b (sym e)

pub has_none : (bytes : List ℕ) → none_of (λ b. b == 60) bytes ≡ true → Has bytes []
has_none [] none rest = refl
has_none (byte ∷ bytes) none rest =
    let parts = none_tail (byte == 60) (none_of (λ b. b == 60) bytes) none in
    links_behind byte (bytes ++ rest) (turned byte 60 parts.0) ∙ has_none bytes parts.1 rest

has_text : (text : List ℕ) → Has (escape text) []
has_text text = has_none (escape text) (none_less text)

pub has_both : (a b : List ℕ) (xs ys : List (List ℕ)) → Has a xs → Has b ys → Has (a ++ b) (xs ++ ys)
has_both a b xs ys first second rest =
    ap links_in (append_assoc a b rest) ∙ first (b ++ rest) ∙ ap (λ zs. xs ++ zs) (second rest) ∙ sym (append_assoc xs ys (links_in rest))

-- a text between two tags
has_tagged : (front text end : List ℕ) → Has front [] → Has end [] → Has (front ++ escape text ++ end) []
has_tagged front text end first last = has_both (front ++ escape text) end [] [] (has_both front (escape text) [] [] first (has_text text)) last

has_pair : (front first middle second end : List ℕ) → Has front [] → Has middle [] → Has end []
    → Has (front ++ escape first ++ middle ++ escape second ++ end) []
has_pair front first middle second end is_front is_middle is_end =
    has_both (front ++ escape first ++ middle ++ escape second) end [] []
    (has_both (front ++ escape first ++ middle) (escape second) [] [] (has_tagged front first middle is_front is_middle) (has_text second)) is_end

has_each : {A : Type 0} (f : A → List ℕ) → ((x : A) → Has (f x) []) → (xs : List A) → Has (flat_map f xs) []
has_each f each [] = λ rest. refl
has_each f each (x ∷ xs) = has_both (f x) (flat_map f xs) [] [] (each x) (has_each f each xs)

has_cell : (cell : List ℕ) → Has (cell_text cell) []
unfolding links_in
has_cell cell = has_tagged (codes "<td>") cell (codes "</td>") (λ rest. refl) (λ rest. refl)

has_row : (cells : List (List ℕ)) → Has (row_text cells) []
unfolding links_in
has_row cells =
    has_both (codes "<tr>" ++ flat_map cell_text cells) (codes "</tr>") [] []
    (has_both (codes "<tr>") (flat_map cell_text cells) [] [] (λ rest. refl) (has_each cell_text has_cell cells)) (λ rest. refl)

has_field : (field : Field) → Has (field_text field) []
unfolding links_in field_text
has_field field =
    has_pair (codes "<input name=\"") field.name (codes "\" value=\"") field.value (codes "\">") (λ rest. refl) (λ rest. refl) (λ rest. refl)

-- the opening of a link, its target and the quote behind it
has_target : (target : List ℕ) → Has (codes "<a href=\"" ++ escape target ++ codes "\">") (escape target ∷ [])
unfolding links_in
has_target target rest =
    ap links_in (append_assoc (codes "<a href=\"" ++ escape target) (codes "\">") rest ∙ append_assoc (codes "<a href=\"") (escape target) (codes "\">" ++ rest))
    ∙ ap (λ first. first ∷ links_in (escape target ++ (codes "\">" ++ rest))) (before_quote target (62 ∷ rest))
    ∙ ap (λ others. escape target ∷ others) (has_text target (codes "\">" ++ rest))

-- the target of a block as it stands
abbrev shown_in : Block → List (List ℕ)
shown_in block = map escape (link_target block)

has_block : (block : Block) → Has (block_text block) (shown_in block)
unfolding links_in block_text
has_block (Heading text) = has_tagged (codes "<h1>") text (codes "</h1>") (λ rest. refl) (λ rest. refl)
has_block (Para text) = has_tagged (codes "<p>") text (codes "</p>") (λ rest. refl) (λ rest. refl)
has_block (Link target label) =
    has_both (codes "<a href=\"" ++ escape target ++ codes "\">" ++ escape label) (codes "</a>") (escape target ∷ []) []
    (has_both (codes "<a href=\"" ++ escape target ++ codes "\">") (escape label) (escape target ∷ []) [] (has_target target) (has_text label)) (λ rest. refl)
has_block (Picture target label) =
    has_pair (codes "<img src=\"") target (codes "\" alt=\"") label (codes "\">") (λ rest. refl) (λ rest. refl) (λ rest. refl)
has_block (Table rows) =
    has_both (codes "<table>" ++ flat_map row_text rows) (codes "</table>") [] []
    (has_both (codes "<table>") (flat_map row_text rows) [] [] (λ rest. refl) (has_each row_text has_row rows)) (λ rest. refl)
has_block (Form target fields) =
    has_both (codes "<form action=\"" ++ escape target ++ codes "\">" ++ flat_map field_text fields) (codes "</form>") [] []
    (has_both (codes "<form action=\"" ++ escape target ++ codes "\">") (flat_map field_text fields) [] []
    (has_tagged (codes "<form action=\"") target (codes "\">") (λ rest. refl) (λ rest. refl)) (has_each field_text has_field fields)) (λ rest. refl)

has_line : (block : Block) → Has (block_line block) (shown_in block)
unfolding links_in
has_line block rest =
    has_both (block_text block) (codes "\n") (shown_in block) [] (has_block block) (λ rest. refl) rest
    ∙ ap (λ links. links ++ links_in rest) (append-nil (shown_in block))

has_lines : (blocks : List Block) → Has (flat_map block_line blocks) (flat_map shown_in blocks)
has_lines [] = λ rest. refl
has_lines (block ∷ blocks) =
    has_both (block_line block) (flat_map block_line blocks) (shown_in block) (flat_map shown_in blocks) (has_line block) (has_lines blocks)

map_append : (xs ys : List (List ℕ)) → map escape (xs ++ ys) ≡ map escape xs ++ map escape ys
map_append [] ys = refl
map_append (x ∷ xs) ys = ap (λ zs. escape x ∷ zs) (map_append xs ys)

shown_all : (blocks : List Block) → flat_map shown_in blocks ≡ map escape (flat_map link_target blocks)
shown_all [] = refl
shown_all (block ∷ blocks) =
    ap (λ links. shown_in block ++ links) (shown_all blocks) ∙ sym (map_append (link_target block) (flat_map link_target blocks))

-- what stands before the blocks of a page
abbrev pub page_front : List ℕ → List ℕ
page_front title = codes "<html><head><title>" ++ escape title ++ codes "</title></head><body>\n"

pub has_front : (title : List ℕ) → Has (page_front title) []
unfolding links_in
has_front title = has_tagged (codes "<html><head><title>") title (codes "</title></head><body>\n") (λ rest. refl) (λ rest. refl)

pub page_links : (page : Page) → links_in (page_text page) ≡ map escape (targets_of page)
unfolding links_in page_text
page_links page =
    let head = page_front page.title in
    let lines = flat_map block_line page.blocks in
    let links = flat_map shown_in page.blocks in
    ap links_in (sym (append-nil (page_text page)))
    ∙ has_both (head ++ lines) (codes "</body></html>\n") links []
    (has_both head lines [] links (has_front page.title) (has_lines page.blocks))
    (λ rest. refl) []
    ∙ append-nil (links ++ []) ∙ append-nil links ∙ shown_all page.blocks
