-- What Home and Search Request ask for: the number of items, the drawn item, and labels of items related to it.
use Rattle.std.proofs.Common.{◌≡◌, ℕ, suc, ◌+◌, ◌%◌, List, [], ◌∷◌, ◌++◌, All, Some, None, refl, sym, ◌∙◌, ap, subst, arith}
use Rattle.std.proofs.lemmas.List.Elements.{All-nil, All-cons}
use Rattle.shop_model.specs.declared.page.Page.{Page}
use Rattle.shop_model.specs.declared.requests.Home as home_asked
use Rattle.shop_model.specs.declared.requests.Request.{Request}
use Rattle.shop_model.specs.declared.requests.Request.TheVariants.{Home, SearchRequest}
use Rattle.shop_model.specs.declared.requests.SearchRequest as search_asked
use Rattle.shop_model.specs.declared.tables.Tables.{Tables}
use Rattle.shop_model.specs.lists.Catalogues.{Catalogue}
use Rattle.shop_model.specs.pages.Home.{customer_asked, home_page}
use Rattle.shop_model.specs.pages.Show.{check_customer, refused_or}
use Rattle.shop_history.specs.declared.acts.Drawn.{Drawn}
use Rattle.shop_history.specs.declared.acts.Entry.{Entry}
use Rattle.shop_history.specs.declared.keys.Key.{Key}
use Rattle.shop_attempt.specs.declared.attempts.ReadOf.{ReadOf}
use Rattle.shop_attempt.specs.Reads as Reads
use Rattle.shop_draft.specs.declared.draft.Draft.{Draft}
use Rattle.shop_draft.specs.declared.ids.PageIds.{PageIds}
use Rattle.shop_draft.specs.Drawing.{ids_at}
use Rattle.shop_draft.specs.Pages.{Shows}
use Rattle.shop_browse.specs.declared.attempted.Ask.{Ask}
use Rattle.shop_browse.specs.declared.names.Names.{Names}
use Rattle.shop_browse.specs.Counting.{HasCount, drawn_key, number_in}
use Rattle.shop_browse.specs.Driver.{keys_of, AreSeen, AsksFor, Fits, IsPageFor, WereRead}
use Rattle.shop_browse.specs.Footprints.{InFootprint, IsDrawnKey}
use Rattle.shop_browse.specs.Home.{home_in}
use Rattle.shop_browse.specs.Names.{FollowsNamed, HaveTitles, NoneUnread, label_keys}
use Rattle.shop_browse.specs.Related.{related_in}
use Rattle.shop_browse.specs.SearchRequest.{search_in}
use Rattle.shop_browse.proofs.cited.Counting.{asks_behind, drawn_of, number_first, was_shown, were_behind}
use Rattle.shop_browse.proofs.cited.Names.{HasNamed, all_labels, named_may, named_on, titles_are}
use Rattle.shop_browse.proofs.cited.Reads.{shows_page}
use Rattle.shop_browse.proofs.DriverLemmas.{with_ids}
use Rattle.shop_browse.proofs.HomeLemmas.{home_shown, related_read, related_there, search_shown}

-- behind the number of items, the drawn item and labels of items related to it
abbrev pub FollowsDrawn : Catalogue → ℕ → ℕ → ℕ → List ReadOf → Type 0
FollowsDrawn c draw items = FollowsNamed c related_in (drawn_key draw items)

-- the drawn item may be read
pub drawn_may : (follows : ℕ → ℕ → List ReadOf → Type 0) (request : Request) (ask : Ask) (round : ℕ) (reads : List ReadOf) (has : HasCount follows round reads) → AreSeen ask.index.now reads
    → ((opening : Tables) (log : List Entry) (k : Key) → IsDrawnKey opening log ask.draw k → InFootprint opening log request ask.draw k)
    → (opening : Tables) (log : List Entry) → WereRead ask.index.now opening log (has.count ∷ has.rest) → InFootprint opening log request ask.draw (drawn_key ask.draw (number_in has.count.row))
drawn_may follows request ask round reads has seen about opening log were =
    let items : ℕ = number_in has.count.row in
    about opening log (drawn_key ask.draw items)
    (1 + ask.draw % items, drawn_of has.count has.key_is opening log has.rest ask.draw (number_first follows round reads has ask.index.now seen) were.are, refl)

-- labels of items related to the one in a row that was read
pub related_may : (c : Catalogue) (opening : Tables) (log : List Entry) (request : Request) (draw items : ℕ) (drawn : ReadOf) (rest : List ReadOf) → drawn.key ≡ drawn_key draw items → WereRead c opening log (drawn ∷ rest)
    → All (InFootprint opening log request draw) (label_keys c (related_in drawn.row))
related_may c opening log request draw items drawn rest key_is were =
    named_may c opening log request draw related_in (drawn_key draw items) drawn key_is (related_there (1 + draw % items)) were.sound (was_shown opening log drawn rest were.are)

-- where nothing else is read between
module _ (request : Request) (ask : Ask) (round : ℕ) (reads : List ReadOf) (has : HasCount (FollowsDrawn ask.index.now ask.draw) round reads) where
  abbrev drawn : Key
  drawn = drawn_key ask.draw (number_in has.count.row)

  pub asks_drawn : round ≡ 0 → AreSeen ask.index.now reads
      → ((opening : Tables) (log : List Entry) (k : Key) → IsDrawnKey opening log ask.draw k → InFootprint opening log request ask.draw k)
      → AsksFor (HasCount (FollowsDrawn ask.index.now ask.draw)) request ask round reads (drawn_key ask.draw (number_in has.count.row) ∷ [])
  asks_drawn first seen about =
      asks_behind (FollowsDrawn ask.index.now ask.draw) round reads has request ask (drawn ∷ []) (omega (arith, first))
      (λ more of.
      let none : has.rest ≡ [] = subst (λ r. FollowsDrawn ask.index.now ask.draw (number_in has.count.row) r has.rest) first has.rest_are in
      subst (λ r. FollowsDrawn ask.index.now ask.draw (number_in has.count.row) (suc r) (has.rest ++ more)) (sym first) (subst (λ (l : List ReadOf). keys_of (l ++ more) ≡ drawn ∷ []) (sym none) of))
      (λ opening log were.
      let P : Key → Type 0 = InFootprint opening log request ask.draw in
      All-cons P drawn [] (drawn_may (FollowsDrawn ask.index.now ask.draw) request ask round reads has seen about opening log were) (All-nil P))

  -- the drawn item was read
  module _ (named : HasNamed ask.index.now related_in (drawn_key ask.draw (number_in has.count.row)) round has.rest) where
    pub drawn_reads : reads ≡ has.count ∷ named.read ∷ named.labels
    drawn_reads = has.reads_are ∙ ap (λ (l : List ReadOf). has.count ∷ l) named.reads_are

    pub asks_labels : round ≡ 1 → (keys : List Key) → keys ≡ label_keys ask.index.now (related_in named.read.row)
        → AsksFor (HasCount (FollowsDrawn ask.index.now ask.draw)) request ask round reads keys
    asks_labels second keys are =
        asks_behind (FollowsDrawn ask.index.now ask.draw) round reads has request ask keys (omega (arith, second))
        (λ more of. named_on ask.index.now related_in drawn round has.rest more named second (of ∙ are))
        (λ opening log were.
        subst (All (InFootprint opening log request ask.draw)) (sym are)
        (related_may ask.index.now opening log request ask.draw (number_in has.count.row) named.read named.labels named.key_is
        (were_behind ask.index.now opening log has.count (named.read ∷ named.labels) (subst (λ (l : List ReadOf). WereRead ask.index.now opening log (has.count ∷ l)) named.reads_are were))))

    -- the titles of items related to it are known
    pub titles_here : (round ≡ 1 → NoneUnread ask.index.now (number_in has.count.row) (related_in named.read.row)) → (names : Names) → names.index.now ≡ ask.index.now → names.labels.now ≡ named.labels
        → (t : Tables) → Fits ask.index.now t reads → HaveTitles t names (related_in named.read.row)
    titles_here none names index_is labels_are t fits =
        let shows : Reads.Shows t (has.count ∷ named.read ∷ named.labels) = subst (Reads.Shows t) drawn_reads fits.shows in
        let there = related_read ask.draw has.count named.read has.key_is named.key_is t fits.sound shows.0 shows.1.0 in
        let all = all_labels ask.index.now related_in drawn round has.rest named (λ second. none second there) in
        titles_are names t (fits.named ∙ sym index_is) (subst (Reads.Shows t) (sym labels_are) shows.1.1) (related_in named.read.row)
        (ap keys_of labels_are ∙ all ∙ ap (λ (c : Catalogue). label_keys c (related_in named.read.row)) (sym index_is))

    -- the page of Search Request, with the titles that are known
    pub search_next : (asked : search_asked.SearchRequest) → (round ≡ 1 → NoneUnread ask.index.now (number_in has.count.row) (related_in named.read.row)) → (names : Names) → names.index.now ≡ ask.index.now → names.labels.now ≡ named.labels
        → (items : List ℕ) → items ≡ related_in named.read.row → (draft : Draft) (given : PageIds) → ((drawn : Drawn) → ids_at drawn given ≡ asked.ids) → Shows draft (λ drawn. search_in names (ids_at drawn given) items)
        → IsPageFor (SearchRequest asked) ask reads draft
    search_next asked none names index_is labels_are items are draft given same shows t fits =
        let here : Reads.Shows t (has.count ∷ named.read ∷ named.labels) = subst (Reads.Shows t) drawn_reads fits.shows in
        let page : Page = search_in names asked.ids items in
        shows_page t (SearchRequest asked) ask.draw draft page
        (ap Some (search_shown ask.draw has.count named.read has.key_is named.key_is names t asked.ids here.0 here.1.0 (titles_here none names index_is labels_are t fits) ∙ ap (search_in names asked.ids) (sym are)))
        (with_ids draft (λ ids. search_in names ids items) given asked.ids same shows)

    -- that of Home for anyone
    pub anyone_next : (asked : home_asked.Home) → asked.ids.c ≡ None → (round ≡ 1 → NoneUnread ask.index.now (number_in has.count.row) (related_in named.read.row)) → (names : Names) → names.index.now ≡ ask.index.now → names.labels.now ≡ named.labels
        → (items : List ℕ) → items ≡ related_in named.read.row → (draft : Draft) (given : PageIds) → ((drawn : Drawn) → ids_at drawn given ≡ asked.ids) → Shows draft (λ drawn. home_in names ask.draw (ids_at drawn given) None items)
        → IsPageFor (Home asked) ask reads draft
    anyone_next asked anyone none names index_is labels_are items are draft given same shows t fits =
        let here : Reads.Shows t (has.count ∷ named.read ∷ named.labels) = subst (Reads.Shows t) drawn_reads fits.shows in
        let page : Page = home_in names ask.draw asked.ids None items in
        shows_page t (Home asked) ask.draw draft page
        (ap (λ n. refused_or (check_customer t n) (Some (home_page t asked.ids ask.draw (customer_asked t n)))) anyone
        ∙ ap Some (home_shown ask.draw has.count named.read has.key_is named.key_is names t asked.ids None here.0 here.1.0 (titles_here none names index_is labels_are t fits) ∙ ap (home_in names ask.draw asked.ids None) (sym are)))
        (with_ids draft (λ ids. home_in names ask.draw ids None items) given asked.ids same shows)
