-- The page of a list, by what was written in turn.
use Rattle.std.proofs.Common.{◌≡◌, ℕ, List, [], ◌∷◌, ◌++◌, length, codes, refl, sym, ◌∙◌, ap, append_assoc, arith}
use Rattle.std.specs.List.{flat_map}
use Rattle.std.proofs.lemmas.Grind.{flat_map-append}
use Rattle.shop_model.specs.declared.page.Block.{Block}
use Rattle.shop_model.specs.declared.page.Block.TheVariants.{Para}
use Rattle.shop_model.specs.declared.requests.IdsAsked.{IdsAsked}
use Rattle.shop_model.specs.pages.PageText.{block_line, page_text}
use Rattle.shop_model.specs.pages.Targets.{nav}
use Rattle.shop_cache.specs.declared.lines.ListLine.{ListLine}
use Rattle.shop_draft.specs.Pages.{page_front}
use Rattle.shop_draft.proofs.cited.PageTexts.{both, written}
use Rattle.shop_browse.specs.Lists.{lines_in, page_in}
use Rattle.shop_browse.specs.ListEnds.{list_end}

-- the word for no lines
pub no_lines : (ids : IdsAsked) (lines : List ListLine) → length lines ≡ 0 → lines_in ids lines ≡ Para (codes "Nothing found.") ∷ []
no_lines ids [] none = refl
no_lines ids (line ∷ lines) none = absurd (omega (arith, none))

-- the page of a list, by what was written in turn
pub list_written : (ids : IdsAsked) (title : List ℕ) (head : List Block) (list : List ListLine) (begun headed now : List ℕ) → begun ≡ page_front title
    → headed ≡ begun ++ flat_map block_line head → now ≡ headed ++ list_end ids list → now ≡ page_text (page_in ids title head list)
list_written ids title head list begun headed now is_begun is_headed is =
    let lines : List Block = lines_in ids list in
    let listed : headed ++ flat_map block_line (lines ++ nav ids) ≡ begun ++ flat_map block_line (head ++ (lines ++ nav ids))
    = both block_line head (lines ++ nav ids) begun headed _ is_headed refl in
    written (page_in ids title head list) begun (headed ++ flat_map block_line (lines ++ nav ids)) now is_begun
    (listed ∙ ap (λ (l : List Block). begun ++ flat_map block_line l) (sym (append_assoc head lines (nav ids))))
    (is ∙ rw (flat_map-append block_line lines (nav ids)) (simp append_assoc refl))
