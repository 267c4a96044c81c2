-- The table of an order's lines, and the page of an order.
use Rattle.std.proofs.Common.{◌≡◌, ℕ, ◌+◌, ◌<◌, codes, decimal, List, [], ◌∷◌, ◌++◌, length, map, take, get_or, sym, ◌∙◌, ap}
use Rattle.std.specs.List.{flat_map}
use Rattle.std.proofs.lemmas.List.{append-nil, map_more}
use Rattle.shop_model.specs.declared.tables.Tables.{Tables}
use Rattle.shop_model.specs.declared.page.Block.TheVariants.{Heading, Para}
use Rattle.shop_model.specs.declared.requests.IdsAsked.{IdsAsked}
use Rattle.shop_model.specs.pages.OrderDisplay.{placed_text, ship_text, paid_text, order_page}
use Rattle.shop_model.specs.pages.PageText.{row_text, block_line, page_text}
use Rattle.shop_model.specs.pages.Priced.{line_cells, lines_table, totals_text}
use Rattle.shop_model.specs.pages.Targets.{nav}
use Rattle.shop_model.specs.rows.Lookups.{city_of, country_of, country_name}
use Rattle.shop_model.specs.rows.Rows.{CardUseRow, LineRow, OrderRow}
use Rattle.shop_model.specs.trade.Money.{charged}
use Rattle.shop_draft.specs.Pages.{page_front, page_end}
use Rattle.shop_draft.proofs.cited.PageTexts.{two, six, both, written}
use Rattle.shop_browse.specs.OrderDisplay.{ShipsTo}

-- one line more
pub rows_more : (t : Tables) (lines : List LineRow) (i : ℕ) (line : LineRow) (old rows new : List ℕ) → i < length lines → line ≡ get_or lines i line → new ≡ rows ++ row_text (line_cells t line)
    → rows ≡ old ++ flat_map row_text (map (line_cells t) (take i lines)) → new ≡ old ++ flat_map row_text (map (line_cells t) (take (i + 1) lines))
rows_more t lines i line old rows new within at added so_far =
    let first : List (List (List ℕ)) = map (line_cells t) (take i lines) in
    let cells : List (List ℕ) = line_cells t line in
    let more : map (line_cells t) (take (i + 1) lines) ≡ first ++ cells ∷ []
    = map_more (line_cells t) lines i line within ∙ ap (λ (l : LineRow). first ++ line_cells t l ∷ []) (sym at) in
    both row_text first (cells ∷ []) old rows new so_far
    (added ∙ ap (λ (l : List ℕ). rows ++ l) (sym (append-nil (row_text cells))))
    ∙ ap (λ (r : List (List (List ℕ))). old ++ flat_map row_text r) (sym more)

-- the page of an order, by what was written in turn
module _ (t : Tables) (ids : IdsAsked) (order : OrderRow) (city country : List ℕ) (lines : List LineRow) (card : CardUseRow) (ships : ShipsTo t order.ship_address city country) (lines_are : lines ≡ order.lines) (card_is : card ≡ order.card) where
  pub page_written : (begun headed placed listed charges shipped paid linked now : List ℕ) → begun ≡ page_front (codes "Order Display") → headed ≡ begun ++ block_line (Heading (codes "Order " ++ decimal order.id))
      → placed ≡ headed ++ block_line (Para (placed_text order)) → listed ≡ placed ++ block_line (lines_table t lines) → charges ≡ listed ++ block_line (Para (totals_text (charged order)))
      → shipped ≡ charges ++ block_line (Para (ship_text city country)) → paid ≡ shipped ++ block_line (Para (paid_text card)) → linked ≡ paid ++ flat_map block_line (nav ids) → now ≡ linked ++ page_end
      → now ≡ page_text (order_page t ids order)
  unfolding order_page
  page_written begun headed placed listed charges shipped paid linked now is_begun is_headed is_placed is_listed is_charges is_shipped is_paid is_linked is =
      let address : ℕ = order.ship_address in
      let where_to : ship_text city country ≡ ship_text (city_of t address) (country_name t (country_of t address))
      = sym (ap (λ c. ship_text c (country_name t (country_of t address))) ships.city_is ∙ ap (ship_text city) ships.country_is) in
      written (order_page t ids order) begun linked now is_begun
      (two begun headed linked (block_line (Heading (codes "Order " ++ decimal order.id))) _ is_headed
      (six headed placed listed charges shipped paid linked _ _ _ _ _ _ is_placed (is_listed ∙ ap (λ l. placed ++ block_line (lines_table t l)) lines_are) is_charges
      (is_shipped ∙ ap (λ s. charges ++ block_line (Para s)) where_to) (is_paid ∙ ap (λ c. shipped ++ block_line (Para (paid_text c))) card_is) is_linked))
      is
