-- Admin Add: where it is refused, and the item that it adds.
use Rattle.std.proofs.Common.{◌≡◌, ℕ, ◌+◌, ◌<◌, ◌≤◌, true, false, List, [], ◌∷◌, length, Option, Some, None, is_some, option_map, refl, sym, ◌∙◌, ap, subst}
use Rattle.std.proofs.lemmas.Bool.{cond-true, cond-false, lt-ltb, le-ltb}
use Rattle.shop_model.specs.declared.author.Author.{Author}
use Rattle.shop_model.specs.declared.refusal.Refusal.TheVariants.{NoAuthor, FullShop}
use Rattle.shop_model.specs.declared.requests.Request.TheVariants.{AdminAdd}
use Rattle.shop_model.specs.declared.tables.Tables.{Tables}
use Rattle.shop_model.specs.asked.AddAsked.{AddAsked}
use Rattle.shop_model.specs.asked.Refusals.{page_of}
use Rattle.shop_model.specs.lists.Catalogues.{Catalogue}
use Rattle.shop_model.specs.pages.AdminAdd.{added_page}
use Rattle.shop_model.specs.pages.Show.{check, refused_or}
use Rattle.shop_model.specs.rows.Limits.{items_limit}
use Rattle.shop_model.specs.rows.Lookups.{row_numbered}
use Rattle.shop_model.specs.trade.Adding.{check_author, check_room}
use Rattle.shop_model.specs.trade.Carts.{first_of}
use Rattle.shop_history.specs.declared.acts.Act.TheVariants.{Add}
use Rattle.shop_history.specs.declared.acts.Drawn.{Drawn}
use Rattle.shop_history.specs.declared.keys.Key.TheVariants as key
use Rattle.shop_history.specs.Acts.{play}
use Rattle.shop_history.specs.Drawing.{new_ids}
use Rattle.shop_draft.specs.declared.draft.Draft.{Draft}
use Rattle.shop_draft.specs.Pages.{IsPage, Shows}
use Rattle.shop_attempt.specs.declared.attempts.ReadOf.{ReadOf}
use Rattle.shop_attempt.specs.declared.attempts.Write.TheVariants.{PutItem}
use Rattle.shop_browse.specs.declared.attempted.Ask.{Ask}
use Rattle.shop_browse.specs.Counting.{number_in}
use Rattle.shop_browse.specs.Driver.{Fits, IsChange, IsPageFor}
use Rattle.shop_browse.proofs.cited.Counting.{size_read}
use Rattle.shop_browse.proofs.cited.Reads.{shows_page}
use Rattle.shop_order.specs.AdminAdd.{added_row}

-- what is seen of a value is found, or not, as the value is
pub none_found : {A B : Type 0} (see : A → B) (o : Option A) (found : Option B) → option_map see o ≡ found → is_some o ≡ false → found ≡ None
none_found see None found is none = sym is
none_found see (Some x) found is none = absurd cc

pub some_found : {A B : Type 0} (see : A → B) (o : Option A) (found : Option B) → option_map see o ≡ found → is_some o ≡ true → (x : B) × (found ≡ Some x)
some_found see None found is some = absurd cc
some_found see (Some x) found is some = (see x, sym is)

-- authors are those of the catalogue
author_named : (ask : Ask) (reads : List ReadOf) (t : Tables) (id : ℕ) → Fits ask.index.now t reads → row_numbered t.authors id ≡ row_numbered ask.index.now.authors id
author_named ask reads t id fits = ap (λ (c : Catalogue). row_numbered c.authors id) fits.named

-- who wrote it is not there
pub no_author : (asked : AddAsked) (ask : Ask) (reads : List ReadOf) (draft : Draft) → row_numbered ask.index.now.authors asked.author ≡ None → Shows draft (λ drawn. page_of NoAuthor) → IsPageFor (AdminAdd asked) ask reads draft
no_author asked ask reads draft none shows t fits =
    shows_page t (AdminAdd asked) ask.draw draft (page_of NoAuthor)
    (ap (λ o. refused_or (first_of (check_author o) (check_room (length t.items))) None) (author_named ask reads t asked.author fits ∙ none)) shows

-- the author is there, and the number of items was read
module _ (asked : AddAsked) (ask : Ask) (count : ReadOf) (key_is : count.key ≡ key.Count) (author : Author) (there : row_numbered ask.index.now.authors asked.author ≡ Some author) where
  size : (t : Tables) → Fits ask.index.now t (count ∷ []) → number_in count.row ≡ length t.items
  size t fits = size_read count key_is t fits.shows.0

  by_room : (t : Tables) → Fits ask.index.now t (count ∷ []) → check t (AdminAdd asked) ≡ check_room (number_in count.row)
  by_room t fits =
      ap (λ o. first_of (check_author o) (check_room (length t.items))) (author_named ask (count ∷ []) t asked.author fits ∙ there)
      ∙ ap check_room (sym (size t fits))

  pub full_shop : (draft : Draft) → items_limit ≤ number_in count.row → Shows draft (λ drawn. page_of FullShop) → IsPageFor (AdminAdd asked) ask (count ∷ []) draft
  full_shop draft full shows t fits =
      shows_page t (AdminAdd asked) ask.draw draft (page_of FullShop)
      (ap (λ o. refused_or o None) (by_room t fits ∙ cond-false _ _ _ (le-ltb (number_in count.row) items_limit full))) shows

  -- the item is added, with the next id
  pub adds : (draft : Draft) → number_in count.row < items_limit → Shows draft (λ drawn. added_page asked.ids (number_in count.row + 1) asked.title)
      → IsChange (AdminAdd asked) ask (count ∷ []) draft (Add asked) (PutItem (added_row asked) ∷ [])
  adds draft room shows = record {
    does = record { does = refl; drew = tt; taxed = tt };
    free = tt;
    makes = λ t stamp fits bound. record {
      passes = by_room t fits ∙ cond-true _ _ _ (lt-ltb (number_in count.row) items_limit room);
      tables_are = refl;
    };
    becomes = λ t stamp fits bound front.
        let drawn : Drawn = record { front = front; stamp = stamp; ids = new_ids t (play t stamp (Add asked)).tables } in
        subst (λ n. IsPage draft drawn (added_page asked.ids (n + 1) asked.title)) (size t fits) (shows drawn);
  }
