-- Home: the drawn item, the reads of its promotion, and the page for a customer or for anyone.
use Rattle.std.proofs.Common.{◌≡◌, ℕ, ◌+◌, ◌%◌, List, [], ◌++◌, length, map, All, Option, Some, None, option_map, unwrap_or, refl, sym, ◌∙◌, ap, subst}
use Rattle.std.specs.List.{flat_map}
use Rattle.std.proofs.lemmas.List.Elements.{All-nil}
use Rattle.shop_model.specs.declared.requests.IdsAsked.{IdsAsked}
use Rattle.shop_model.specs.declared.tables.Tables.{Tables}
use Rattle.shop_model.specs.rows.Lookups.{row_numbered}
use Rattle.shop_model.specs.rows.Rows.{CustomerRow, ItemRow}
use Rattle.shop_model.specs.rows.Sound.{Has, Sound}
use Rattle.shop_model.specs.pages.Promotion.{promoted, promo}
use Rattle.shop_model.specs.pages.Home.{home_page}
use Rattle.shop_model.specs.pages.SearchRequest.{search_request}
use Rattle.shop_history.specs.declared.keys.Key.TheVariants as key
use Rattle.shop_history.specs.declared.keys.Row.TheVariants as row
use Rattle.shop_history.specs.Keys.{row_of, shown}
use Rattle.shop_history.proofs.cited.Places.{all_numbered}
use Rattle.shop_draft.proofs.cited.PageTexts.{both}
use Rattle.shop_attempt.specs.declared.attempts.ReadOf.{ReadOf}
use Rattle.shop_browse.specs.declared.names.Names.{Names}
use Rattle.shop_browse.specs.Counting.{drawn_key, number_in}
use Rattle.shop_browse.specs.Home.{home_in}
use Rattle.shop_browse.specs.Names.{HaveTitles}
use Rattle.shop_browse.specs.Related.{promoted_in, related_in}
use Rattle.shop_browse.specs.SearchRequest.{search_in}
use Rattle.shop_browse.proofs.cited.Counting.{size_read}
use Rattle.shop_browse.proofs.cited.Names.{links_are}

-- four lists of blocks that were added in turn
pub four_parts : {A : Type 0} (f : A → List ℕ) (k l m n : List A) (old s1 s2 s3 now : List ℕ) → s1 ≡ old ++ flat_map f k → s2 ≡ s1 ++ flat_map f l → s3 ≡ s2 ++ flat_map f m
    → now ≡ s3 ++ flat_map f n → now ≡ old ++ flat_map f (k ++ l ++ m ++ n)
four_parts f k l m n old s1 s2 s3 now p1 p2 p3 p4 = both f (k ++ l ++ m) n old s3 now (both f (k ++ l) m old s2 s3 (both f k l old s1 s2 p1 p2) p3) p4

-- the items that are related to the one in a row
related_shown : (o : Option ItemRow) → related_in (shown row.Item o) ≡ unwrap_or (option_map (λ i. i.related) o) []
related_shown None = refl
related_shown (Some x) = refl

-- they are there
pub related_there : (item : ℕ) (t : Tables) → Sound t → All (Has (length t.items)) (related_in (row_of t (key.Item item)))
related_there item t sound = by (row_numbered t.items item) refl
  where
    by : (o : Option ItemRow) → row_numbered t.items item ≡ o → All (Has (length t.items)) (related_in (shown row.Item o))
    by None at = All-nil (Has (length t.items))
    by (Some x) at = all_numbered (λ (i : ItemRow). All (Has (length t.items)) i.related) t.items item x at sound.names.related

-- by the number of items that was read, and the row of the item that is drawn of so many
module _ (draw : ℕ) (count drawn : ReadOf) (count_is : count.key ≡ key.Count) (drawn_is : drawn.key ≡ drawn_key draw (number_in count.row)) where
  row_is : (t : Tables) → row_of t count.key ≡ count.row → row_of t drawn.key ≡ drawn.row → row_of t (key.Item (1 + draw % length t.items)) ≡ drawn.row
  row_is t counted shows =
      ap (λ n. row_of t (key.Item (1 + draw % n))) (sym (size_read count count_is t counted)) ∙ ap (row_of t) (sym drawn_is) ∙ shows

  -- the items that are related to it are among so many
  pub related_read : (t : Tables) → Sound t → row_of t count.key ≡ count.row → row_of t drawn.key ≡ drawn.row → All (Has (number_in count.row)) (related_in drawn.row)
  related_read t sound counted shows =
      subst (λ n. All (Has n) (related_in drawn.row)) (sym (size_read count count_is t counted))
      (subst (λ r. All (Has (length t.items)) (related_in r)) (row_is t counted shows) (related_there (1 + draw % length t.items) t sound))

  -- the promotion
  pub promo_shown : (names : Names) (t : Tables) (ids : IdsAsked) → row_of t count.key ≡ count.row → row_of t drawn.key ≡ drawn.row → HaveTitles t names (related_in drawn.row)
      → promo t ids draw ≡ map (promoted_in names ids) (related_in drawn.row)
  unfolding promo
  promo_shown names t ids counted shows titles =
      let item : ℕ = 1 + draw % length t.items in
      ap (map (promoted t ids)) (sym (related_shown (row_numbered t.items item)) ∙ ap related_in (row_is t counted shows))
      ∙ sym (links_are names t ids (related_in drawn.row) titles)

  pub home_shown : (names : Names) (t : Tables) (ids : IdsAsked) (customer : Option CustomerRow) → row_of t count.key ≡ count.row → row_of t drawn.key ≡ drawn.row → HaveTitles t names (related_in drawn.row)
      → home_page t ids draw customer ≡ home_in names draw ids customer (related_in drawn.row)
  unfolding home_page home_in
  home_shown names t ids customer counted shows titles =
      let links = promo_shown names t ids counted shows titles in
      cc

  pub search_shown : (names : Names) (t : Tables) (ids : IdsAsked) → row_of t count.key ≡ count.row → row_of t drawn.key ≡ drawn.row → HaveTitles t names (related_in drawn.row)
      → search_request t ids draw ≡ search_in names ids (related_in drawn.row)
  unfolding search_request search_in
  search_shown names t ids counted shows titles =
      let links = promo_shown names t ids counted shows titles in
      cc
