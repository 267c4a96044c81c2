-- The pages of an item, by what was read of it, and by its author, whom the catalogue knows.
use Rattle.std.proofs.Common.{◌≡◌, ℕ, [], ◌∷◌, length, Option, Some, None, option_map, unwrap_or, refl, sym, ◌∙◌, ap}
use Rattle.shop_model.specs.declared.author.Author.{Author}
use Rattle.shop_model.specs.declared.page.Page.{Page}
use Rattle.shop_model.specs.declared.refusal.Refusal.TheVariants.{NoItem}
use Rattle.shop_model.specs.declared.tables.Tables.{Tables}
use Rattle.shop_model.specs.asked.Refusals.{page_of}
use Rattle.shop_model.specs.lists.Catalogues.{Catalogue, opened}
use Rattle.shop_model.specs.pages.AdminRequest.{admin_page}
use Rattle.shop_model.specs.pages.ProductDetail.{product_page}
use Rattle.shop_model.specs.pages.Show.{check_there, show, refused_or}
use Rattle.shop_model.specs.rows.Lookups.{row_numbered, author_of}
use Rattle.shop_model.specs.rows.Rows.{ItemRow}
use Rattle.shop_model.specs.rows.Sound.{Has}
use Rattle.shop_history.specs.declared.keys.Key.TheVariants as key
use Rattle.shop_history.specs.declared.keys.Row.TheVariants as row
use Rattle.shop_history.specs.Keys.{row_of}
use Rattle.shop_history.proofs.cited.Places.{all_numbered, some_row}
use Rattle.shop_history.proofs.cited.Shown.{item_found}
use Rattle.shop_cache.specs.Keys.{key_asked}
use Rattle.shop_draft.specs.declared.draft.Draft.{Draft}
use Rattle.shop_draft.specs.Pages.{Shows}
use Rattle.shop_attempt.specs.declared.attempts.ReadOf.{ReadOf}
use Rattle.shop_browse.specs.declared.attempted.Ask.{Ask}
use Rattle.shop_browse.specs.declared.item_pages.ItemPage.{ItemPage}
use Rattle.shop_browse.specs.declared.item_pages.ItemPage.TheVariants.{Detail, Admin}
use Rattle.shop_browse.specs.Driver.{Fits, IsPageFor}
use Rattle.shop_browse.specs.ItemPages.{item_of, request_of}
use Rattle.shop_browse.proofs.cited.Reads.{shows_page}
use Rattle.shop_browse.proofs.Items.{row_missing}

abbrev pub page_at : Tables → ItemPage → ItemRow → Page
page_at t (Detail asked) x = product_page x (author_of t x) asked.now.ids
page_at t (Admin asked) x = admin_page x asked.now.ids

by_row : (t : Tables) (draw : ℕ) (page : ItemPage) (o : Option ItemRow) → row_numbered t.items (item_of page) ≡ o
    → show t (request_of page) draw ≡ refused_or (check_there NoItem o) (option_map (page_at t page) o)
by_row t draw (Detail asked) o found = rw found refl
by_row t draw (Admin asked) o found = rw found refl

pub lists_none : (page : ItemPage) → key_asked (request_of page) ≡ None
lists_none (Detail asked) = refl
lists_none (Admin asked) = refl

-- the author of an item is that of the tables
pub author_is : (t : Tables) (c : Catalogue) (x : ItemRow) (author : Author) → opened t ≡ c → row_numbered c.authors x.author ≡ Some author → author_of t x ≡ author
author_is t c x author named there =
    ap (λ o. unwrap_or o (record { id = 0; first = []; last = [] })) (ap (λ (d : Catalogue). row_numbered d.authors x.author) named ∙ there)

module _ (page : ItemPage) (read : ReadOf) (key_is : read.key ≡ key.Item (item_of page)) (ask : Ask) where
  pub none_shown : (draft : Draft) → read.row ≡ row.Absent → Shows draft (λ drawn. page_of NoItem) → IsPageFor (request_of page) ask (read ∷ []) draft
  none_shown draft absent written t fits =
      let none = row_missing row.Item (λ (x : ItemRow) is. absurd cc) (row_numbered t.items (item_of page)) (ap (row_of t) (sym key_is) ∙ fits.shows.0 ∙ absent) in
      shows_page t (request_of page) ask.draw draft (page_of NoItem) (by_row t ask.draw page None none) written

  module _ (x : ItemRow) (is : read.row ≡ row.Item x) where
    found : (t : Tables) → Fits ask.index.now t (read ∷ []) → row_numbered t.items (item_of page) ≡ Some x
    found t fits = item_found (row_numbered t.items (item_of page)) x (ap (row_of t) (sym key_is) ∙ fits.shows.0 ∙ is)

    pub item_shown : (draft : Draft) (p : Page) → ((t : Tables) → opened t ≡ ask.index.now → page_at t page x ≡ p) → Shows draft (λ drawn. p) → IsPageFor (request_of page) ask (read ∷ []) draft
    item_shown draft p page_is written t fits =
        shows_page t (request_of page) ask.draw draft p (by_row t ask.draw page (Some x) (found t fits) ∙ ap Some (page_is t fits.named)) written

    pub author_there : row_numbered ask.index.now.authors x.author ≡ None → (t : Tables) → Fits ask.index.now t (read ∷ []) → ⊥
    author_there none t fits =
        let author = some_row t.authors x.author (all_numbered (λ (i : ItemRow). Has (length t.authors) i.author) t.items (item_of page) x (found t fits) fits.sound.names.authors.authors) in
        absurd (cc (ap (λ (d : Catalogue). row_numbered d.authors x.author) fits.named, none, author.1))
