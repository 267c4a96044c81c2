-- What a draft shows.
use Rattle.std.specs.Prelude.{◌≡◌, ℕ, List, ◌++◌, codes}
use Rattle.shop_text.specs.Texts.{escape}
use Rattle.shop_model.specs.declared.page.Page.{Page}
use Rattle.shop_model.specs.pages.PageText.{page_text}
use Rattle.shop_history.specs.declared.acts.Drawn.{Drawn}
use Rattle.shop_draft.specs.declared.draft.Draft.{Draft}
use Rattle.shop_draft.specs.Templates.{filled}

-- what stands before the blocks of a page
abbrev pub page_front : List ℕ → List ℕ
page_front title = codes "<html><head><title>" ++ escape title ++ codes "</title></head><body>\n"

-- what stands behind them
abbrev pub page_end : List ℕ
page_end = codes "</body></html>\n"

-- a draft is of a page, with what was drawn
pub record IsPage (draft : Draft) (drawn : Drawn) (page : Page) : Type 0 where
  pub status : draft.status ≡ page.status
  pub text : filled drawn draft.page ≡ page_text page

-- whatever is drawn, a draft is of the page that this makes of it
abbrev pub Shows : Draft → (Drawn → Page) → Type 0
Shows draft page = (drawn : Drawn) → IsPage draft drawn (page drawn)
