use Rattle.std.proofs.Common.{◌≡◌, ◌∙◌, ◌++◌, ℕ, List, codes, refl, sym, ap₂, append_assoc}
use Rattle.std.specs.List.{flat_map}
use Rattle.shop_text.specs.Texts.{escape}
use Rattle.shop_model.specs.declared.page.Block.{Block}
use Rattle.shop_model.specs.declared.page.Page.{Page}
use Rattle.shop_model.specs.pages.PageText.{block_line, page_text}
use Rattle.shop_pages.proofs.PartLemmas.{failed}
use Rattle.shop_pages.proofs.reading.read_page.Goals as goal

-- what stands behind the title
titled : (bytes : List ℕ) (page : Page) → bytes ≡ page_text page
    → bytes ≡ (codes "<html><head><title>" ++ escape page.title ++ codes "</title></head><body>\n") ++ (flat_map block_line page.blocks ++ codes "</body></html>\n")
unfolding page_text
titled bytes page is =
    is ∙ append_assoc (codes "<html><head><title>" ++ escape page.title ++ codes "</title></head><body>\n") (flat_map block_line page.blocks) (codes "</body></html>\n")

-- the text has no status
made : (bytes title : List ℕ) (blocks : List Block) (page : Page) → bytes ≡ page_text page → title ≡ page.title → blocks ≡ page.blocks
    → bytes ≡ page_text (record { status = 200; title = title; blocks = blocks })
unfolding page_text
made bytes title blocks page is same_title same_blocks =
    is ∙ ap₂ (λ (t : List ℕ) (bs : List Block). page_text (record { status = 200; title = t; blocks = bs })) (sym same_title) (sym same_blocks)

pub returns-in_err-title : goal.returns-in_err-title
returns-in_err-title c = λ page is.
    failed c.from_residual.result _ _ c.from_residual.ensures.1 (c.in_err-title.ensures.read page.title _ (titled _ page is))

pub returns-in_err-blocks : goal.returns-in_err-blocks
returns-in_err-blocks c = λ page is.
    let title = c.in_ok-title.ensures.read page.title _ (titled _ page is) in
    failed c.from_residual-in_err-blocks.result _ _ c.from_residual-in_err-blocks.ensures.1
    (c.in_err-blocks.ensures page.blocks (codes "</body></html>\n") refl title.1)

pub returns : goal.returns
returns c = λ page is.
    let title = c.in_ok-title.ensures.read page.title _ (titled _ page is) in
    let blocks = c.in_ok-blocks.ensures page.blocks (codes "</body></html>\n") refl title.1 in
    (made _ _ _ page is title.0 blocks.0, blocks.0)
