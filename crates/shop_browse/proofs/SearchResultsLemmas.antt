-- What a search finds, of the items of the opening and of those that were added.
use Rattle.std.proofs.Common.{◌≡◌, ℕ, cond, not, List, [], ◌∷◌, ◌++◌, length, map, filter, take, All, Option, Some, None, is_some, refl, sym, ◌∙◌, ap, subst, append-nil}
use Rattle.std.proofs.lemmas.List.{map-append, take-map, take_at, drop_at}
use Rattle.std.proofs.lemmas.List.Elements.{All-head, All-tail, All-append, All-map, All-filter, All-take, All-drop}
use Rattle.shop_model.specs.asked.SearchAsked.{SearchAsked}
use Rattle.shop_model.specs.declared.author.Author.{Author}
use Rattle.shop_model.specs.declared.requests.Request.TheVariants.{SearchResults}
use Rattle.shop_model.specs.declared.requests.SearchKind.{SearchKind}
use Rattle.shop_model.specs.declared.tables.Tables.{Tables}
use Rattle.shop_model.specs.lists.Catalogues.{Catalogue, Naming, Search, naming, catalogue, opened, added, matches, by_title, compared, found, search_for}
use Rattle.shop_model.specs.lists.Rankings.{in_order}
use Rattle.shop_model.specs.rows.Limits.{list_limit}
use Rattle.shop_model.specs.rows.Lookups.{row_numbered, title_of}
use Rattle.shop_model.specs.rows.Sound.{Has, Sound}
use Rattle.shop_model.proofs.cited.Opened.{opened_added}
use Rattle.shop_history.specs.declared.keys.Key.TheVariants as key
use Rattle.shop_history.specs.Keys.{row_of}
use Rattle.shop_history.proofs.cited.Places.{some_row}
use Rattle.shop_ranking.proofs.cited.Standing.{map_in_order}
use Rattle.shop_search.specs.Titles.{TitledItem, titled, by_titled, firsts, firsts_found}
use Rattle.shop_search.proofs.cited.Founds.{over, found_merged, found_as_compared}
use Rattle.shop_cache.specs.declared.lines.ListLine.{ListLine}
use Rattle.shop_cache.specs.declared.keys.ListKey.TheVariants.{Found}
use Rattle.shop_attempt.specs.declared.attempts.ReadOf.{ReadOf}
use Rattle.shop_attempt.specs.Reads.{Shows}
use Rattle.shop_browse.specs.declared.names.Names.{Names}
use Rattle.shop_browse.specs.Driver.{keys_of, Fits}
use Rattle.shop_browse.specs.Lines.{items_in, AreLinesOf, IsNamed}
use Rattle.shop_browse.specs.Lists.{AreLines, AreListed}
use Rattle.shop_browse.specs.Names.{title_in, HaveTitles, label_keys}
use Rattle.shop_browse.specs.SearchResults.{added_key, titled_in, IsFound}
use Rattle.shop_browse.proofs.LinesLemmas.{row_shown, labels_shown, lines_are}
use Rattle.shop_browse.proofs.ListedItems.{all_firsts, first_ids, opened_within, added_within, born_found, titles_named}
use Rattle.shop_browse.proofs.cited.Names.{HasNamed, titles_are, all_named}

-- items of a catalogue need no labels
none_needed : (c : Catalogue) (ids others : List ℕ) → All (Has (length c.items)) ids → label_keys c (ids ++ others) ≡ label_keys c others
none_needed c [] others there = refl
none_needed c (id ∷ ids) others there =
    let item = some_row c.items id (All-head (Has (length c.items)) id ids there) in
    let rest : List ℕ = filter (λ id. not (is_some (row_numbered c.items id))) (ids ++ others) in
    ap (λ (o : Option Naming). map key.Label (cond (not (is_some o)) (id ∷ rest) rest)) item.1 ∙ none_needed c ids others (All-tail (Has (length c.items)) id ids there)

-- items by the titles that are known of them, where these are their own
own_titles : (t : Tables) (names : Names) (items : List Naming) → All (λ n. title_of t n.id ≡ n.title) items → HaveTitles t names (map (λ n. n.id) items)
    → map (titled_in names) (map (λ n. n.id) items) ≡ map titled items
own_titles t names [] own known = refl
own_titles t names (item ∷ items) own known =
    let P : Naming → Type 0 = λ n. title_of t n.id ≡ n.title in
    let Q : ℕ → Type 0 = λ id. title_in names id ≡ title_of t id in
    let title = All-head Q item.id (map (λ (n : Naming). n.id) items) known ∙ All-head P item items own in
    let first : titled_in names item.id ≡ titled item = ap (λ (s : List ℕ). record { title = s; id = item.id }) title in
    let others = own_titles t names items (All-tail P item items own) (All-tail Q item.id (map (λ (n : Naming). n.id) items) known) in
    cc

-- so what is found is the first of what matches, by title
titles_found : (t : Tables) (names : Names) (c : Catalogue) (kind : SearchKind) (text : List ℕ) → All (λ n. title_of t n.id ≡ n.title) c.items → HaveTitles t names (found c kind text)
    → map (titled_in names) (found c kind text) ≡ firsts_found c kind text
unfolding found
titles_found t names c kind text own known =
    let P : Naming → Type 0 = λ n. title_of t n.id ≡ n.title in
    let passed : List Naming = filter (matches c kind text) c.items in
    own_titles t names (take list_limit (in_order by_title passed)) (all_firsts P by_title passed (All-filter _ P c.items own)) known
    ∙ sym (take-map titled list_limit (in_order by_title passed))
    ∙ ap (take list_limit) (map_in_order titled by_titled passed)

-- of no items nothing is found
none_found : (authors : List Author) (kind : SearchKind) (text : List ℕ) → firsts_found (over authors []) kind text ≡ []
unfolding in_order
none_found authors kind text = refl

-- where the labels of those that were added are read
module _ (names : Names) (t : Tables) (named : opened t ≡ names.index.now) (shows : Shows t names.labels.now) (sought : Search)
    (labels_are : keys_of names.labels.now ≡ label_keys names.index.now (found (added t) sought.kind sought.text)) (sound : Sound t) where
  -- what is found of the items of the opening, and of those that were added
  abbrev pub born : List ℕ
  born = found (opened t) sought.kind sought.text

  abbrev pub new : List ℕ
  new = found (added t) sought.kind sought.text

  both_labels : keys_of names.labels.now ≡ label_keys names.index.now (born ++ new)
  both_labels =
      labels_are
      ∙ ap (λ (c : Catalogue). label_keys c new) (sym named)
      ∙ sym (none_needed (opened t) born new (born_found t sound sought.kind sought.text))
      ∙ ap (λ (c : Catalogue). label_keys c (born ++ new)) named

  both_titled : HaveTitles t names (born ++ new)
  both_titled = titles_are names t named shows (born ++ new) both_labels

  both_named : All (IsNamed names) (born ++ new)
  both_named =
      all_named names t named shows (born ++ new) both_labels
      (All-append (Has (length t.items)) born new (opened_within t sound sought.kind sought.text) (added_within t sound sought.kind sought.text)) sound

  born_titles : map (titled_in names) born ≡ firsts_found (opened t) sought.kind sought.text
  born_titles =
      titles_found t names (opened t) sought.kind sought.text (All-take (λ (n : Naming). title_of t n.id ≡ n.title) t.born_items (map naming t.items) (titles_named t sound))
      (subst (HaveTitles t names) (take_at born new (length born) refl) (All-take (λ id. title_in names id ≡ title_of t id) (length born) (born ++ new) both_titled))

  new_titles : map (titled_in names) new ≡ firsts_found (added t) sought.kind sought.text
  new_titles =
      titles_found t names (added t) sought.kind sought.text (All-drop (λ (n : Naming). title_of t n.id ≡ n.title) t.born_items (map naming t.items) (titles_named t sound))
      (subst (HaveTitles t names) (drop_at born new (length born) refl) (All-drop (λ id. title_in names id ≡ title_of t id) (length born) (born ++ new) both_titled))

  merged : map (λ i. i.id) (firsts (firsts_found (opened t) sought.kind sought.text ++ firsts_found (added t) sought.kind sought.text)) ≡ found (catalogue t) sought.kind sought.text
  merged =
      found_merged t.authors (opened t).items (added t).items sought.kind sought.text
      ∙ ap (λ (items : List Naming). found (over t.authors items) sought.kind sought.text) (opened_added t)

  both_found : map (λ i. i.id) (firsts (map (titled_in names) born ++ map (titled_in names) new)) ≡ found (catalogue t) sought.kind sought.text
  both_found =
      ap (λ (l : List TitledItem). map (λ i. i.id) (firsts (l ++ map (titled_in names) new))) born_titles
      ∙ ap (λ (l : List TitledItem). map (λ i. i.id) (firsts (firsts_found (opened t) sought.kind sought.text ++ l))) new_titles
      ∙ merged

  -- where nothing that was added is found
  born_alone : [] ≡ new → born ≡ found (catalogue t) sought.kind sought.text
  born_alone none =
      let authors : List Author = t.authors in
      let nothing : firsts_found (over authors []) sought.kind sought.text ≡ firsts_found (added t) sought.kind sought.text
      = none_found authors sought.kind sought.text ∙ ap (map (titled_in names)) none ∙ new_titles in
      ap (λ (items : List Naming). found (over authors items) sought.kind sought.text) (sym (append-nil (opened t).items))
      ∙ sym (found_merged authors (opened t).items [] sought.kind sought.text)
      ∙ ap (λ (l : List TitledItem). map (λ i. i.id) (firsts (firsts_found (opened t) sought.kind sought.text ++ l))) nothing
      ∙ merged

  pub found_are : (items ids : List ℕ) → items ≡ new → IsFound names sought items ids → ids ≡ found (catalogue t) sought.kind sought.text
  found_are [] ids is of = of ∙ ap (λ (c : Catalogue). found c sought.kind sought.text) (sym named) ∙ born_alone is
  found_are (item ∷ items) ids is of =
      of
      ∙ ap (λ (c : Catalogue). map (λ i. i.id) (firsts (map (titled_in names) (found c sought.kind sought.text) ++ map (titled_in names) (item ∷ items)))) (sym named)
      ∙ ap (λ (l : List ℕ). map (λ i. i.id) (firsts (map (titled_in names) born ++ map (titled_in names) l))) is
      ∙ both_found

  pub found_named : All (IsNamed names) (found (catalogue t) sought.kind sought.text)
  found_named =
      let P : TitledItem → Type 0 = λ i. IsNamed names i.id in
      subst (All (IsNamed names)) both_found
      (first_ids P (IsNamed names) (λ (i : TitledItem). i.id) by_titled (map (titled_in names) born ++ map (titled_in names) new) (λ i has. has)
      (subst (All P) (map-append (titled_in names) born new) (All-map P (titled_in names) (born ++ new) both_named)))

-- a search whose added items were read, and the labels behind them
module _ (asked : SearchAsked) (round : ℕ) (reads : List ReadOf) (names : Names) (has : HasNamed names.index.now items_in (added_key asked) round reads) (labels_are : names.labels.now ≡ has.labels)
    (all : keys_of has.labels ≡ label_keys names.index.now (items_in has.read.row)) (t : Tables) (fits : Fits names.index.now t reads) where
  abbrev sought : Search
  sought = search_for asked.kind asked.text

  items_shown : items_in has.read.row ≡ found (added t) sought.kind sought.text
  items_shown = ap items_in (row_shown (added_key asked) round reads names has labels_are t fits)

  all_read : keys_of names.labels.now ≡ label_keys names.index.now (found (added t) sought.kind sought.text)
  all_read = ap keys_of labels_are ∙ all ∙ ap (label_keys names.index.now) items_shown

  shows : Shows t names.labels.now
  shows = labels_shown (added_key asked) round reads names has labels_are t fits

  -- the lines that were made of what was found
  module _ (search : Search) (search_is : search ≡ sought) (items : List ℕ) (items_are : items ≡ items_in has.read.row) (ids : List ℕ) (found_of : IsFound names search items ids)
      (listed : List ℕ) (same : listed ≡ ids) (made : Option (List ListLine)) (of : AreLinesOf names listed made) where
    listed_are : listed ≡ found (catalogue t) sought.kind sought.text
    listed_are =
        same
        ∙ found_are names t fits.named shows sought all_read fits.sound items ids (items_are ∙ items_shown)
        (subst (λ (s : Search). IsFound names s items ids) search_is found_of)

    pub found_lines : (lines : List ListLine) → made ≡ Some lines → AreListed t (SearchResults asked) lines
    found_lines lines some = record {
      key = Found asked.kind asked.text;
      asked = refl;
      are = subst (λ (l : List ℕ). AreLines t l lines) (listed_are ∙ found_as_compared (catalogue t) asked.kind asked.text)
          (lines_are names t fits.named shows listed lines (subst (AreLinesOf names listed) some of));
    }

    pub none_unfound : made ≡ None → ⊥
    none_unfound none =
        subst (AreLinesOf names listed) none of (subst (All (IsNamed names)) (sym listed_are) (found_named names t fits.named shows sought all_read fits.sound))

-- the added items are there that are found
pub added_there : (asked : SearchAsked) (t : Tables) → Sound t → All (Has (length t.items)) (items_in (row_of t (added_key asked)))
added_there asked t sound = added_within t sound asked.kind (compared asked.kind asked.text)
