-- The change that Admin Confirm makes by what it has read, in whichever tables fit that.
use Rattle.std.proofs.Common.{◌≡◌, ℕ, ◌-◌, ◌≤◌, List, [], ◌∷◌, ◌++◌, length, map, get_or, All, Option, Some, None, MatchOption, slice_set, refl, sym, ◌∙◌, ap, subst, ⊎_elim, arith}
use Rattle.std.proofs.lemmas.Bool.{cond-false, ne_eqb, cases_eq}
use Rattle.std.proofs.lemmas.List.Elements.{All-map}
use Rattle.shop_model.specs.declared.requests.Request.TheVariants.{AdminConfirm}
use Rattle.shop_model.specs.declared.refusal.Refusal.TheVariants.{NoItem}
use Rattle.shop_model.specs.declared.tables.Tables.{Tables}
use Rattle.shop_model.specs.asked.AdminAsked.{AdminAsked}
use Rattle.shop_model.specs.lists.Catalogues.{Catalogue}
use Rattle.shop_model.specs.lists.Related.{buyers, bought, five_of, related}
use Rattle.shop_model.specs.pages.AdminConfirm.{mended_page}
use Rattle.shop_model.specs.pages.Show.{check_there}
use Rattle.shop_model.specs.rows.Limits.{stamp_limit, day_of}
use Rattle.shop_model.specs.rows.Lookups.{row_numbered}
use Rattle.shop_model.specs.rows.Rows.{ItemRow}
use Rattle.shop_model.specs.rows.Sound.{Has}
use Rattle.shop_model.specs.trade.Mending.{mended_item, with_mended}
use Rattle.shop_model.proofs.cited.RelatedFive.{related_there}
use Rattle.shop_history.specs.declared.acts.Act.TheVariants.{Admin}
use Rattle.shop_history.specs.declared.acts.Drawn.{Drawn}
use Rattle.shop_history.specs.declared.keys.Key.TheVariants as key
use Rattle.shop_history.specs.declared.keys.Row.TheVariants as row
use Rattle.shop_history.specs.Acts.{play, administered_page}
use Rattle.shop_history.specs.Drawing.{new_ids}
use Rattle.shop_history.specs.Keys.{row_of}
use Rattle.shop_history.proofs.cited.Places.{has_row, is_there, id_numbered}
use Rattle.shop_history.proofs.cited.Shown.{item_found}
use Rattle.shop_draft.specs.declared.draft.Draft.{Draft}
use Rattle.shop_draft.specs.Drawing.{day_after}
use Rattle.shop_draft.specs.Pages.{IsPage}
use Rattle.shop_attempt.specs.declared.attempts.ReadOf.{ReadOf}
use Rattle.shop_attempt.specs.declared.attempts.Write.TheVariants.{PutItem}
use Rattle.shop_attempt.specs.Faithful.{Makes}
use Rattle.shop_attempt.specs.Reads.{Shows}
use Rattle.shop_attempt.specs.Writes.{put_row}
use Rattle.shop_browse.specs.declared.attempted.Ask.{Ask}
use Rattle.shop_browse.specs.declared.driver.Next.{Next}
use Rattle.shop_browse.specs.declared.names.Names.{Names}
use Rattle.shop_browse.specs.Attempts.{Becomes}
use Rattle.shop_browse.specs.Counting.{HasCount, number_in}
use Rattle.shop_browse.specs.Driver.{keys_of, Fits, IsNext}
use Rattle.shop_browse.specs.Names.{HaveTitles, NoneUnread, label_keys}
use Rattle.shop_browse.proofs.cited.Counting.{size_read}
use Rattle.shop_browse.proofs.cited.Names.{titles_are}
use Rattle.shop_order.specs.AdminConfirm.{customers_in, totals_in, lists_in, five_by, FollowsMending, FollowsAdmin, AreAmong, AreRelated, mended_row, published_at, IsChangeTo}
use Rattle.shop_order.proofs.AdminConfirmLemmas.{HasBought, book_shown, bought_reads}
use Rattle.shop_order.proofs.ReadsLemmas.{shows_both}
use Rattle.shop_order.proofs.RelatedLemmas.{named_bought}

-- tables show what their customers bought
lists_shown : (t : Tables) (customers : List ℕ) (reads : List ReadOf) → keys_of reads ≡ map key.Bought customers → Shows t reads → lists_in reads ≡ map (bought t) customers
lists_shown t [] [] are shows = refl
lists_shown t [] (read ∷ reads) are shows = absurd cc
lists_shown t (customer ∷ customers) [] are shows = absurd cc
lists_shown t (customer ∷ customers) (read ∷ reads) are shows =
    let head : read.key ≡ key.Bought customer = cc are in
    let tail : keys_of reads ≡ map key.Bought customers = cc are in
    let first : totals_in read.row ≡ bought t customer = ap totals_in (sym shows.0 ∙ ap (row_of t) head) in
    let rest : lists_in reads ≡ map (bought t) customers = lists_shown t customers reads tail shows.1 in
    cc (first, rest)

-- what is said of the related items, by equal numbers and reads
pub related_as : (items n item i : ℕ) (bought reads : List ReadOf) (o : Option (List ℕ)) → items ≡ n → item ≡ i → bought ≡ reads → MatchOption o (AreAmong items item bought → ⊥) (AreRelated items item bought)
    → MatchOption o (AreAmong n i reads → ⊥) (AreRelated n i reads)
related_as items n item i bought reads o items_are item_is bought_are is =
    subst (λ n. MatchOption o (AreAmong n i reads → ⊥) (AreRelated n i reads)) items_are
    (subst (λ i. MatchOption o (AreAmong items i reads → ⊥) (AreRelated items i reads)) item_is (subst (λ l. MatchOption o (AreAmong items item l → ⊥) (AreRelated items item l)) bought_are is))

-- where there is none
pub none_left : {A : Type 0} (o : Option A) (P : Type 0) (Q : A → Type 0) → ((x : A) → o ≡ Some x → ⊥) → MatchOption o P Q → P
none_left None P Q none is = is
none_left (Some x) P Q none is = absurd (none x refl)

-- the item is there, and these are related to it
record IsMended (t : Tables) (asked : AdminAsked) (five : List ℕ) (book : ItemRow) : Type 0 where
  there : row_numbered t.items asked.item ≡ Some book
  id_is : book.id ≡ asked.item
  five_are : five ≡ related t asked.item

module _ (t : Tables) (asked : AdminAsked) (five : List ℕ) (book : ItemRow) (is : IsMended t asked five book) where
  -- the item as it is written is the one that the act makes
  abbrev mended : ℕ → ℕ → List ℕ → ItemRow
  mended id day list = record book {
    id = id;
    published = day;
    related = list;
    thumb = asked.thumb;
    image = asked.image;
    cost = asked.cost;
  }

  put_is : (stamp : ℕ) → put_row t.items book.id (λ id. mended id (day_of stamp) five) ≡ slice_set t.items (asked.item - 1) (mended_item t stamp asked book)
  put_is stamp =
      let above = (is_there t.items asked.item book is.there).above in
      cond-false _ _ _ (ne_eqb book.id 0 (λ e. omega (arith, e, is.id_is, above)))
      ∙ ap (λ n. slice_set t.items (n - 1) (mended book.id (day_of stamp) five)) is.id_is
      ∙ ap (λ list. slice_set t.items (asked.item - 1) (mended book.id (day_of stamp) list)) is.five_are

  makes_mended : (stamp : ℕ) → Makes t stamp (Admin asked) (PutItem (mended_row asked five book) ∷ [])
  makes_mended stamp = record {
    passes = ap (check_there NoItem) is.there;
    tables_are = ap (λ (items : List ItemRow). record t { items = items }) (put_is stamp) ∙ ap (with_mended t stamp asked) (sym is.there);
  }

  day_is : (stamp : ℕ) → stamp ≤ stamp_limit → day_after stamp 0 ≡ day_of stamp
  day_is stamp bound = omega (arith, bound)

  becomes_mended : (stamp : ℕ) (draft : Draft) → stamp ≤ stamp_limit
      → ((drawn : Drawn) → IsPage draft drawn (mended_page t asked.ids (published_at drawn.stamp (mended_row asked five book)))) → Becomes t stamp (Admin asked) draft
  becomes_mended stamp draft bound written front =
      let drawn : Drawn = record { front = front; stamp = stamp; ids = new_ids t (play t stamp (Admin asked)).tables } in
      subst (λ o. IsPage draft drawn (administered_page t stamp asked o)) (sym is.there)
      (subst (λ list. IsPage draft drawn (mended_page t asked.ids (mended book.id (day_of stamp) list))) is.five_are
      (subst (λ day. IsPage draft drawn (mended_page t asked.ids (mended book.id day five))) (day_is stamp bound) (written drawn)))

module _ (asked : AdminAsked) (ask : Ask) (round : ℕ) (reads : List ReadOf) (has : HasCount (FollowsMending ask.index.now asked.item) round reads)
    (sold : HasBought ask.index.now asked.item (number_in has.count.row) round has.rest) (book : ItemRow) (book_is : row.Item book ≡ sold.second.first.book.row) where
  abbrev items : ℕ
  items = number_in has.count.row

  module _ (t : Tables) (fits : Fits ask.index.now t reads) where
    all_shown : Shows t (has.count ∷ sold.second.first.book ∷ sold.second.first.buyers ∷ sold.second.bought ++ sold.second.labels)
    all_shown = subst (Shows t) (bought_reads asked ask round reads has sold) fits.shows

    sold_shown : Shows t sold.second.bought × Shows t sold.second.labels
    sold_shown = shows_both t sold.second.bought sold.second.labels all_shown.1.1.1

    size : items ≡ length t.items
    size = size_read has.count has.key_is t all_shown.0

    there : row_numbered t.items asked.item ≡ Some book
    there = item_found (row_numbered t.items asked.item) book (book_shown asked ask round reads has sold.second.first t fits ∙ sym book_is)

    lists_are : lists_in sold.second.bought ≡ map (bought t) (buyers t asked.item)
    lists_are =
        let customers : customers_in sold.second.first.buyers.row ≡ buyers t asked.item = ap customers_in (sym all_shown.1.1.0 ∙ ap (row_of t) sold.second.first.buyers_is) in
        lists_shown t (buyers t asked.item) sold.second.bought (sold.second.bought_are ∙ ap (map key.Bought) customers) sold_shown.0

    -- the item and what its buyers bought are among the items
    pub all_among : AreAmong (number_in has.count.row) asked.item sold.second.bought
    all_among = subst (λ n. AreAmong n asked.item sold.second.bought) (sym size) (record {
      there = has_row t.items asked.item book there;
      named =
          subst (All (λ pairs. All (λ p. Has (length t.items) p.0) pairs)) (sym lists_are)
          (All-map (λ (pairs : List (ℕ × ℕ)). All (λ p. Has (length t.items) p.0) pairs) (bought t) (buyers t asked.item)
          (λ k d lt. named_bought t fits.sound (get_or (buyers t asked.item) k d)));
    })

    is_mended : IsMended t asked (five_by asked.item items sold.second.bought) book
    is_mended = record {
      there = there;
      id_is = id_numbered (λ (i : ItemRow). i.id) t.items asked.item book fits.sound.ids.items there;
      five_are = ap (λ l. five_of l asked.item items) lists_are ∙ ap (five_of (map (bought t) (buyers t asked.item)) asked.item) size;
    }

    -- the titles of the related items are known
    titles_here : (round ≡ 2 → NoneUnread ask.index.now items (five_by asked.item items sold.second.bought)) → (names : Names) → names.index.now ≡ ask.index.now → names.labels.now ≡ sold.second.labels
        → HaveTitles t names (five_by asked.item items sold.second.bought)
    titles_here none names index_is labels_are =
        let five : List ℕ = five_by asked.item items sold.second.bought in
        let six : 6 ≤ items = subst (λ n. 6 ≤ n) (sym size) fits.sound.six in
        let all : keys_of sold.second.labels ≡ label_keys ask.index.now five
        = ⊎_elim
        (λ (is : round ≡ 2). ap keys_of (sold.none is) ∙ sym (none is (related_there (lists_in sold.second.bought) asked.item items all_among.there six)))
        (λ (later : round ≡ 2 → ⊥). sold.labels_are later)
        (cases_eq round 2) in
        titles_are names t (fits.named ∙ sym index_is) (subst (Shows t) (sym labels_are) sold_shown.1) five
        (ap keys_of labels_are ∙ all ∙ ap (λ (c : Catalogue). label_keys c five) (sym index_is))

  pub changed : (round ≡ 2 → NoneUnread ask.index.now (number_in has.count.row) (five_by asked.item (number_in has.count.row) sold.second.bought)) → (names : Names) → names.index.now ≡ ask.index.now → names.labels.now ≡ sold.second.labels
      → (five : List ℕ) → five ≡ five_by asked.item (number_in has.count.row) sold.second.bought → (draft : Draft) (next : Next) → IsChangeTo names asked (mended_row asked five book) draft next
      → (later : ℕ) → IsNext (FollowsAdmin asked ask) (AdminConfirm asked) ask later reads draft next
  changed none names index_is labels_are five five_is draft next change later =
      let here : (t : Tables) → Fits ask.index.now t reads → IsMended t asked five book = λ t fits. subst (λ l. IsMended t asked l book) (sym five_is) (is_mended t fits) in
      subst (IsNext (FollowsAdmin asked ask) (AdminConfirm asked) ask later reads draft) (sym change.is) (record {
        does = record { does = refl; drew = tt; taxed = tt };
        free = tt;
        makes = λ t stamp fits bound. makes_mended t asked five book (here t fits) stamp;
        becomes = λ t stamp fits bound.
            becomes_mended t asked five book (here t fits) stamp draft bound
            (change.written t (subst (HaveTitles t names) (sym five_is) (titles_here t fits none names index_is labels_are)));
      })
