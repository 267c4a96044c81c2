-- What a page links to, and how that is read from its text.
use Rattle.std.specs.Prelude.{◌≡◌, ◌≢◌, ℕ, List}
use Rattle.shop_model.specs.declared.page.Page.{Page}
use Rattle.shop_model.specs.pages.PageText.{page_text}
use Rattle.shop_model.specs.pages.Targets.{targets_of}
use Rattle.shop_pages.specs.declared.reading.Links.{Links}
use Rattle.shop_pages.specs.declared.reading.Links.TheVariants.{Found, NotAPage, Memory}

-- the bytes are the text of a page with links to these targets
abbrev pub LinksTo : List ℕ → List (List ℕ) → Type 0
LinksTo bytes targets = (page : Page) × (bytes ≡ page_text page) × (targets ≡ targets_of page)

-- the bytes are no page's text
abbrev pub IsNoPage : List ℕ → Type 0
IsNoPage bytes = (page : Page) → bytes ≢ page_text page

-- the links of these bytes were read, but where memory ran out
abbrev pub ReadsLinks : List ℕ → Links → Type 0
ReadsLinks bytes (Found targets) = LinksTo bytes targets.items
ReadsLinks bytes NotAPage = IsNoPage bytes
ReadsLinks bytes Memory = Unit {0}

-- the links of this page were read, but where memory ran out
abbrev pub ReadsLinksOf : Page → Links → Type 0
ReadsLinksOf page (Found targets) = targets.items ≡ targets_of page
ReadsLinksOf page NotAPage = ⊥
ReadsLinksOf page Memory = Unit {0}
