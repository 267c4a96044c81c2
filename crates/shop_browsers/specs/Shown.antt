-- What a browser takes from a page; this project's own.
use Rattle.std.specs.Prelude.{◌≡◌, ◌⊎◌, ℕ, ◌==◌, false, nat_eq, List, [], ◌∷◌, length, drop, codes, Option, Some, None, if◌then◌else◌}
use Rattle.std.specs.List.{flat_map, starts_with, slice_split, after_first}
use Rattle.std.specs.Option.{option_or}
use Rattle.shop_text.specs.Numbers.{number_of}
use Rattle.shop_model.specs.declared.page.Page.{Page}
use Rattle.shop_model.specs.declared.requests.IdsAsked.{IdsAsked}
use Rattle.shop_model.specs.declared.requests.Interaction.{Interaction}
use Rattle.shop_model.specs.declared.requests.Interaction.TheVariants.{BuyConfirm}
use Rattle.shop_model.specs.pages.PageText.{page_text}
use Rattle.shop_model.specs.pages.Targets.{targets_of}
use Rattle.shop_pages.specs.declared.reply.Form.{Form}
use Rattle.shop_pages.specs.Reading.{IsNoPage}
use Rattle.shop_pages.specs.Replies.{reply}
use Rattle.shop_browsers.specs.Browsers.{BrowserState}
use Rattle.shop_browsers.specs.declared.browser.Taken.{Taken}
use Rattle.shop_browsers.specs.declared.browser.Taken.TheVariants.{Done, NotAPage, Memory}

-- bytes that show a page: its text, or a reply that carries it
abbrev pub Shows : List ℕ → Page → Type 0
Shows bytes page = (bytes ≡ page_text page) ⊎ ((form : Form) × (form.bodiless ≡ false) × (bytes ≡ reply page form))

-- the pairs of a target: what stands behind its first `?`, between the signs `&`
abbrev pub pairs_in : List ℕ → List (List ℕ)
pairs_in target = slice_split (λ byte. byte == 38) (after_first (λ byte. byte == 63) target)

-- the number in a pair that begins so
abbrev pub number_behind : List ℕ → List ℕ → Option ℕ
number_behind front pair = if starts_with nat_eq pair front then number_of (drop (length front) pair) else None

-- the number in the first pair that begins so and has one
abbrev pub first_number : List ℕ → List (List ℕ) → Option ℕ
first_number front [] = None
first_number front (pair ∷ pairs) = option_or (number_behind front pair) (first_number front pairs)

-- the first customer and the first cart that a page's links name
abbrev pub ids_in : Page → IdsAsked
ids_in page =
    let pairs = flat_map pairs_in (targets_of page) in
    record { c = first_number (codes "c=") pairs; cart = first_number (codes "cart=") pairs }

-- a cart that was bought is forgotten, whatever the answer was
abbrev pub cart_after : Option Interaction → Option ℕ → Option ℕ
cart_after (Some BuyConfirm) cart = None
cart_after asked cart = cart

-- the browser once it has these ids; what they don't name it keeps
abbrev pub with_ids : BrowserState → IdsAsked → BrowserState
with_ids b ids = record b {
  customer = option_or ids.c b.customer;
  cart = cart_after b.asked (option_or ids.cart b.cart);
}

-- the browser once it saw a page
abbrev pub after_page : BrowserState → Page → BrowserState
after_page b page = with_ids b (ids_in page)

-- what came of bytes, and what the browser is then
abbrev pub TakesPage : BrowserState → BrowserState → List ℕ → Taken → Type 0
TakesPage old new bytes Done = (page : Page) × (bytes ≡ page_text page) × (new ≡ after_page old page)
TakesPage old new bytes NotAPage = IsNoPage bytes × (new ≡ old)
TakesPage old new bytes Memory = new ≡ old
