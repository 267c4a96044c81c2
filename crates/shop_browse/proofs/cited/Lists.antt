-- The page of a list that is asked for, by its lines, is that of the tables that show them.
use Rattle.std.proofs.Common.{◌≡◌, ℕ, List, [], ◌∷◌, ◌++◌, map, All, codes, Option, Some, None, option_map, unwrap_or, refl, sym, ◌∙◌, ap, subst}
use Rattle.std.proofs.lemmas.List.Elements.{All-head, All-tail}
use Rattle.shop_model.specs.declared.page.Block.{Block}
use Rattle.shop_model.specs.declared.page.Block.TheVariants.{Heading}
use Rattle.shop_model.specs.declared.requests.IdsAsked.{IdsAsked}
use Rattle.shop_model.specs.declared.requests.Request.{Request}
use Rattle.shop_model.specs.declared.requests.Request.TheVariants.{NewProducts, BestSellers, SearchResults}
use Rattle.shop_model.specs.declared.tables.Tables.{Tables}
use Rattle.shop_model.specs.lists.Catalogues.{catalogue, found}
use Rattle.shop_model.specs.lists.Rankings.{newest, best}
use Rattle.shop_model.specs.pages.BestSellers.{best_sellers}
use Rattle.shop_model.specs.pages.Lists.{line_label, list_line, list_blocks, list_page}
use Rattle.shop_model.specs.pages.NewProducts.{new_products}
use Rattle.shop_model.specs.pages.SearchResults.{search_results}
use Rattle.shop_model.specs.pages.Show.{show}
use Rattle.shop_model.specs.pages.Targets.{item_link, nav}
use Rattle.shop_model.specs.rows.Lookups.{row_numbered, author_of}
use Rattle.shop_model.specs.rows.Rows.{ItemRow}
use Rattle.shop_model.specs.rows.Subjects.{subject_name}
use Rattle.shop_history.specs.declared.keys.Key.TheVariants as key
use Rattle.shop_history.specs.declared.keys.Row.TheVariants as row
use Rattle.shop_history.specs.Keys.{shown, label_of, row_of}
use Rattle.shop_history.specs.Labels.{LabelRow}
use Rattle.shop_cache.specs.declared.lines.ListLine.{ListLine}
use Rattle.shop_cache.specs.declared.keys.ListKey.TheVariants.{New, Best, Found}
use Rattle.shop_cache.specs.Lines.{line_in}
use Rattle.shop_browse.specs.Lists.{head_of, lines_in, page_in, page_by, items_on, AreLines, AreListed}

label_named : (t : Tables) (label : LabelRow) (o : Option ItemRow) → shown (λ item. row.Label (label_of t item)) o ≡ row.Label label
    → unwrap_or (option_map (λ i. line_label i.title (author_of t i).first (author_of t i).last) o) [] ≡ line_label label.title label.first label.last
label_named t label None is = absurd cc
label_named t label (Some x) is = let same : label_of t x ≡ label = cc in ap (λ (l : LabelRow). line_label l.title l.first l.last) same

line_shown : (t : Tables) (ids : IdsAsked) (line : ListLine) → row_of t (key.Label line.item) ≡ row.Label line.label → line_in ids line ≡ list_line t ids line.item
line_shown t ids line is = ap (item_link (codes "/product_detail") line.item ids) (sym (label_named t line.label (row_numbered t.items line.item) is))

each_shown : (t : Tables) (ids : IdsAsked) (lines : List ListLine) → All (λ l. row_of t (key.Label l.item) ≡ row.Label l.label) lines → map (line_in ids) lines ≡ map (list_line t ids) (map (λ l. l.item) lines)
each_shown t ids [] all = refl
each_shown t ids (line ∷ lines) all =
    let P : ListLine → Type 0 = λ l. row_of t (key.Label l.item) ≡ row.Label l.label in
    let first = line_shown t ids line (All-head P line lines all) in
    let others = each_shown t ids lines (All-tail P line lines all) in
    cc

lines_shown : (t : Tables) (ids : IdsAsked) (lines : List ListLine) → All (λ l. row_of t (key.Label l.item) ≡ row.Label l.label) lines → lines_in ids lines ≡ list_blocks t ids (map (λ l. l.item) lines)
lines_shown t ids [] all = refl
lines_shown t ids (line ∷ lines) all = each_shown t ids (line ∷ lines) all

page_shown : (t : Tables) (ids : IdsAsked) (title : List ℕ) (head : List Block) (items : List ℕ) (lines : List ListLine) → AreLines t items lines
    → list_page t ids title head items ≡ page_in ids title head lines
page_shown t ids title head items lines are =
    ap (λ (blocks : List Block). record { status = 200; title = title; blocks = head ++ blocks ++ nav ids })
    (ap (list_blocks t ids) (sym are.items_are) ∙ sym (lines_shown t ids lines are.labels))

-- the page of a list that is asked for
pub listed_shown : (t : Tables) (request : Request) (draw : ℕ) (lines : List ListLine) → AreListed t request lines → show t request draw ≡ page_by request lines
unfolding new_products best_sellers search_results
listed_shown t (NewProducts asked) draw lines listed =
    let same : listed.key ≡ New asked.subject = let is = listed.asked in cc in
    ap Some (page_shown t asked.ids (codes "New Products") (Heading (codes "New " ++ subject_name asked.subject) ∷ []) (newest t asked.subject) lines (subst (λ k. AreLines t (items_on t k) lines) same listed.are))
listed_shown t (BestSellers asked) draw lines listed =
    let same : listed.key ≡ Best asked.subject = let is = listed.asked in cc in
    ap Some (page_shown t asked.ids (codes "Best Sellers") (Heading (codes "Best " ++ subject_name asked.subject) ∷ []) (best t asked.subject) lines (subst (λ k. AreLines t (items_on t k) lines) same listed.are))
listed_shown t (SearchResults asked) draw lines listed =
    let same : listed.key ≡ Found asked.kind asked.text = let is = listed.asked in cc in
    ap Some (page_shown t asked.ids (codes "Search Results") (head_of asked) (found (catalogue t) asked.kind asked.text) lines (subst (λ k. AreLines t (items_on t k) lines) same listed.are))
listed_shown t _ draw lines listed = absurd (let is = listed.asked in cc)
