-- What is known of items is what tables have that opened with the catalogue and show the labels.
use Rattle.std.proofs.Common.{◌≡◌, ℕ, ◌<◌, zero, suc, true, false, cond, not, List, [], ◌∷◌, ◌++◌, length, map, filter, take, get_or, All, Option, Some, None, is_some, option_map, unwrap_or, eqb, refl, sym, ◌∙◌, ap, subst, inl, inr, ⊎_elim, arith}
use Rattle.std.specs.Option.{option_or}
use Rattle.std.specs.Prelude.{MatchOption}
use Rattle.std.specs.List.{Contains}
use Rattle.std.proofs.lemmas.Bool.{eqb-true, eq-eqb, cases_eq}
use Rattle.std.proofs.lemmas.List.Elements.{All-nil, All-cons, All-head, All-tail, All-map, All-filter, All-weaker, All-contains_itself}
use Rattle.shop_model.proofs.cited.Lookups.{numbered_map}
use Rattle.shop_model.proofs.cited.Opened.{opened_named}
use Rattle.shop_model.specs.declared.author.Author.{Author}
use Rattle.shop_model.specs.declared.requests.IdsAsked.{IdsAsked}
use Rattle.shop_model.specs.declared.requests.Request.{Request}
use Rattle.shop_model.specs.declared.tables.Tables.{Tables}
use Rattle.shop_model.specs.lists.Catalogues.{Catalogue, Naming, naming, opened}
use Rattle.shop_model.specs.pages.Promotion.{promoted}
use Rattle.shop_model.specs.rows.Lookups.{row_numbered, title_of}
use Rattle.shop_model.specs.rows.Rows.{ItemRow}
use Rattle.shop_model.specs.rows.Sound.{Has, Sound}
use Rattle.shop_history.specs.declared.acts.Entry.{Entry}
use Rattle.shop_history.specs.declared.keys.Key.{Key}
use Rattle.shop_history.specs.declared.keys.Key.TheVariants as key
use Rattle.shop_history.specs.declared.keys.Row.{Row}
use Rattle.shop_history.specs.declared.keys.Row.TheVariants as row
use Rattle.shop_history.specs.Keys.{row_of, shown, label_of}
use Rattle.shop_history.specs.Labels.{LabelRow}
use Rattle.shop_history.specs.Logs.{tables}
use Rattle.shop_history.proofs.cited.Places.{all_numbered, some_row}
use Rattle.shop_attempt.specs.declared.attempts.ReadOf.{ReadOf}
use Rattle.shop_attempt.specs.Reads.{Shows}
use Rattle.shop_browse.specs.Driver.{keys_of}
use Rattle.shop_browse.specs.Footprints.{InFootprint, WasShown}
use Rattle.shop_browse.specs.Lines.{IsNamed}
use Rattle.shop_browse.specs.declared.names.Names.{Names}
use Rattle.shop_browse.specs.Names.{named_by, label_at, label_read, label_by, label_in, known_by, known_title, title_in, HaveTitles, label_keys, FollowsNamed}
use Rattle.shop_browse.specs.Related.{promoted_in}

-- labels that were read

-- the label of an item, if there is the item
abbrev label_shown : Tables → ℕ → Option LabelRow
label_shown t id = option_map (label_of t) (row_numbered t.items id)

same_option : (t : Tables) (o : Option ItemRow) (label : LabelRow) → shown (λ item. row.Label (label_of t item)) o ≡ row.Label label → option_map (label_of t) o ≡ Some label
same_option t None label is = absurd cc
same_option t (Some x) label is = ap Some (same_label (label_of t x) label is)
  where
    same_label : (one other : LabelRow) → row.Label one ≡ row.Label other → one ≡ other
    same_label one other is = cc

module _ (t : Tables) where
  -- a read of the label of an item
  read_here : (id : ℕ) (r : Row) → row_of t (key.Label id) ≡ r → label_at id (key.Label id) r ≡ label_shown t id
  read_here id r shows = by (row_numbered t.items id) r shows
    where
      by : (o : Option ItemRow) (r : Row) → shown (λ item. row.Label (label_of t item)) o ≡ r → label_at id (key.Label id) r ≡ option_map (label_of t) o
      by None r is = subst (λ r. label_at id (key.Label id) r ≡ None) is refl
      by (Some x) r is = subst (λ r. label_at id (key.Label id) r ≡ Some (label_of t x)) is (ap (λ b. cond b (Some (label_of t x)) None) (eq-eqb id id refl))

  -- a label that a read has is that of the item
  read_at : (id : ℕ) (k : Key) (r : Row) (label : LabelRow) → row_of t k ≡ r → label_at id k r ≡ Some label → label_shown t id ≡ Some label
  read_at id (key.Label other) (row.Label found) label shows is =
      elim (eqb other id) as (λ b. b ≡ eqb other id → cond b (Some found) None ≡ Some label → label_shown t id ≡ Some label) [
        | true ↦ (λ same some. subst (λ n. label_shown t n ≡ Some label) (eqb-true other id (sym same)) (same_option t (row_numbered t.items other) found shows ∙ some))
        | false ↦ (λ apart none. absurd cc)
      ] refl is
  read_at id k r label shows is = absurd cc

  -- the first that was read
  pub read_shown : (labels : List ReadOf) (id : ℕ) (label : LabelRow) → Shows t labels → label_read id labels ≡ Some label → label_shown t id ≡ Some label
  read_shown [] id label shows is = absurd cc
  read_shown (read ∷ labels) id label shows is = by (label_at id read.key read.row) refl (λ later. read_shown labels id label shows.1 later) is
    where
      by : (o : Option LabelRow) → label_at id read.key read.row ≡ o → (label_read id labels ≡ Some label → label_shown t id ≡ Some label) → option_or o (label_read id labels) ≡ Some label → label_shown t id ≡ Some label
      by None at later is = later is
      by (Some found) at later is = read_at id read.key read.row found shows.0 at ∙ is

  -- where the label of an item was read
  pub read_found : (labels : List ReadOf) (id : ℕ) → Shows t labels → Contains (keys_of labels) (key.Label id) → label_read id labels ≡ label_shown t id
  read_found labels id shows (place, within, at) = by (label_read id labels) refl
    where
      none_at : (reads : List ReadOf) (place : ℕ) → place < length (keys_of reads) → Shows t reads → get_or (keys_of reads) place (key.Label id) ≡ key.Label id → label_read id reads ≡ None → label_shown t id ≡ None
      none_at [] place within shows at none = absurd (omega (arith, within))
      none_at (read ∷ reads) zero within shows at none =
          let here : label_at id read.key read.row ≡ label_shown t id = ap (λ k. label_at id k read.row) at ∙ read_here id read.row (ap (row_of t) (sym at) ∙ shows.0) in
          sym here ∙ first (label_at id read.key read.row) none
        where
          first : (o : Option LabelRow) → option_or o (label_read id reads) ≡ None → o ≡ None
          first None is = refl
          first (Some label) is = absurd cc
      none_at (read ∷ reads) (suc place) within shows at none = none_at reads place (omega (arith, within)) shows.1 at (rest (label_at id read.key read.row) none)
        where
          rest : (o : Option LabelRow) → option_or o (label_read id reads) ≡ None → label_read id reads ≡ None
          rest None is = is
          rest (Some label) is = absurd cc

      by : (o : Option LabelRow) → label_read id labels ≡ o → label_read id labels ≡ label_shown t id
      by None none = none ∙ sym (none_at labels place within shows at none)
      by (Some label) some = some ∙ sym (read_shown labels id label shows some)

-- the labels of items that a catalogue doesn't have

pub each_label : (c : Catalogue) (Q : Key → Type 0) (ids : List ℕ) → All Q (label_keys c ids) → All (λ id. row_numbered c.items id ≡ None → Q (key.Label id)) ids
each_label c Q [] all = All-nil (λ id. row_numbered c.items id ≡ None → Q (key.Label id))
each_label c Q (id ∷ ids) all = by (row_numbered c.items id) refl (λ others. each_label c Q ids others) all
  where
    P : ℕ → Type 0
    P id = row_numbered c.items id ≡ None → Q (key.Label id)

    by : (o : Option Naming) → row_numbered c.items id ≡ o → (All Q (label_keys c ids) → All P ids) → All Q (map key.Label (cond (not (is_some o)) (id ∷ filter (λ id. not (is_some (row_numbered c.items id))) ids) (filter (λ id. not (is_some (row_numbered c.items id))) ids)))
        → All P (id ∷ ids)
    by None at more all = All-cons P id ids (λ none. All-head Q (key.Label id) (label_keys c ids) all) (more (All-tail Q (key.Label id) (label_keys c ids) all))
    by (Some item) at more all = All-cons P id ids (λ none. absurd cc) (more all)

-- where none of these labels is to be read
pub none_unread : {None : Type 0} (unread : Option (List Key)) (keys : List Key) → MatchOption unread None (λ some. some ≡ keys) → ((some : List Key) → unread ≡ Some some → ⊥) → None
none_unread None keys is none = is
none_unread (Some some) keys is none = absurd (none some refl)

-- they may be read where the items were there after some beginning of the log
pub labels_may : (c : Catalogue) (opening : Tables) (log : List Entry) (front : ℕ) (request : Request) (draw : ℕ) (ids : List ℕ)
    → All (Has (length (tables opening (take front log)).items)) ids → All (InFootprint opening log request draw) (label_keys c ids)
labels_may c opening log front request draw ids within =
    All-map (InFootprint opening log request draw) key.Label (filter (λ id. not (is_some (row_numbered c.items id))) ids)
    (All-filter (λ id. not (is_some (row_numbered c.items id))) (λ id. InFootprint opening log request draw (key.Label id)) ids
    (All-weaker (Has (length (tables opening (take front log)).items)) (λ id. InFootprint opening log request draw (key.Label id))
    (λ id has. inr (inl (record { front = front; id = id; there = has; key_is = refl }))) ids within))

-- the items that a key names were there when it showed them
pub named_may : (c : Catalogue) (opening : Tables) (log : List Entry) (request : Request) (draw : ℕ) (named : Row → List ℕ) (k : Key) (read : ReadOf) → read.key ≡ k
    → ((t : Tables) → Sound t → All (Has (length t.items)) (named (row_of t k))) → ((front : ℕ) → Sound (tables opening (take front log))) → WasShown opening log read.key read.row
    → All (InFootprint opening log request draw) (label_keys c (named read.row))
named_may c opening log request draw named k read key_is there sound was =
    let then : Tables = tables opening (take was.front log) in
    labels_may c opening log was.front request draw (named read.row)
    (subst (λ r. All (Has (length then.items)) (named r)) (ap (row_of then) (sym key_is) ∙ was.is) (there then (sound was.front)))

-- what is known

module _ (names : Names) (t : Tables) (named : opened t ≡ names.index.now) (shows : Shows t names.labels.now) where
  -- an item of the catalogue is there
  item_opened : (id : ℕ) (item : Naming) → row_numbered names.index.now.items id ≡ Some item → option_map naming (row_numbered t.items id) ≡ Some item
  item_opened id item at =
      sym (numbered_map naming t.items id) ∙ opened_named t id item (ap (λ (d : Catalogue). row_numbered d.items id) named ∙ at)

  -- how an item is named is how its key shows it
  pub label_is : (id : ℕ) (label : LabelRow) → label_in names id ≡ Some label → label_shown t id ≡ Some label
  label_is id label is = by (row_numbered names.index.now.items id) refl is
    where
      of : (x : ItemRow) (a : Option Author) → row_numbered t.authors x.author ≡ a → option_map (named_by (naming x)) a ≡ Some label → label_of t x ≡ label
      of x None at is = absurd cc
      of x (Some a) at is = cc

      opened_by : (item : Naming) (o : Option ItemRow) → option_map naming o ≡ Some item → option_map (named_by item) (row_numbered names.index.now.authors item.author) ≡ Some label → option_map (label_of t) o ≡ Some label
      opened_by item None at is = absurd cc
      opened_by item (Some x) at is =
          let same : naming x ≡ item = cc in
          let authors : t.authors ≡ names.index.now.authors = ap (λ (d : Catalogue). d.authors) named in
          ap Some (of x (row_numbered t.authors x.author) refl
          (ap (λ (l : List Author). option_map (named_by (naming x)) (row_numbered l x.author)) authors ∙ ap (λ (i : Naming). option_map (named_by i) (row_numbered names.index.now.authors i.author)) same ∙ is))

      by : (o : Option Naming) → row_numbered names.index.now.items id ≡ o → label_by names id o ≡ Some label → label_shown t id ≡ Some label
      by None at is = read_shown t names.labels.now id label shows is
      by (Some item) at is = opened_by item (row_numbered t.items id) (item_opened id item at) is

  pub label_of_key : (id : ℕ) (label : LabelRow) → label_in names id ≡ Some label → row_of t (key.Label id) ≡ row.Label label
  label_of_key id label is = by (row_numbered t.items id) (label_is id label is)
    where
      by : (o : Option ItemRow) → option_map (label_of t) o ≡ Some label → shown (λ item. row.Label (label_of t item)) o ≡ row.Label label
      by None is = absurd cc
      by (Some x) is = ap row.Label (cc (is))

  -- where all labels were read that the catalogue doesn't have
  module _ (ids : List ℕ) (labels_are : keys_of names.labels.now ≡ label_keys names.index.now ids) where
    all_read : All (λ id. row_numbered names.index.now.items id ≡ None → label_read id names.labels.now ≡ label_shown t id) ids
    all_read =
        let Q : Key → Type 0 = λ k. (id : ℕ) → k ≡ key.Label id → label_read id names.labels.now ≡ label_shown t id in
        let read : All Q (keys_of names.labels.now)
        = All-weaker (Contains (keys_of names.labels.now)) Q (λ k has id is. read_found t names.labels.now id shows (subst (Contains (keys_of names.labels.now)) is has)) (keys_of names.labels.now) (All-contains_itself (keys_of names.labels.now)) in
        All-weaker (λ id. row_numbered names.index.now.items id ≡ None → Q (key.Label id)) (λ id. row_numbered names.index.now.items id ≡ None → label_read id names.labels.now ≡ label_shown t id)
        (λ id each none. each none id refl) ids
        (each_label names.index.now Q ids (subst (All Q) labels_are read))

    -- the title that is known of an item, if it is there
    known_is : (id : ℕ) → (row_numbered names.index.now.items id ≡ None → label_read id names.labels.now ≡ label_shown t id) → known_title names id ≡ option_map (λ (x : ItemRow). x.title) (row_numbered t.items id)
    known_is id read = by (row_numbered names.index.now.items id) refl
      where
        from : (item : Naming) (o : Option ItemRow) → option_map naming o ≡ Some item → Some item.title ≡ option_map (λ (x : ItemRow). x.title) o
        from item None is = absurd cc
        from item (Some x) is = cc

        shown_title : (o : Option ItemRow) → option_map (λ (l : LabelRow). l.title) (option_map (label_of t) o) ≡ option_map (λ (x : ItemRow). x.title) o
        shown_title None = refl
        shown_title (Some x) = refl

        by : (o : Option Naming) → row_numbered names.index.now.items id ≡ o → known_by names id o ≡ option_map (λ (x : ItemRow). x.title) (row_numbered t.items id)
        by None at = ap (option_map (λ (l : LabelRow). l.title)) (read at) ∙ shown_title (row_numbered t.items id)
        by (Some item) at = from item (row_numbered t.items id) (item_opened id item at)

    pub titles_are : HaveTitles t names ids
    titles_are = All-weaker _ (λ id. title_in names id ≡ title_of t id) (λ id read. ap (λ (o : Option (List ℕ)). unwrap_or o []) (known_is id read)) ids all_read

    module _ (within : All (Has (length t.items)) ids) where
      pub titles_known : All (λ id. known_title names id ≡ Some (title_of t id)) ids
      titles_known k d less =
          let id : ℕ = get_or ids k d in
          let item = some_row t.items id (within k d less) in
          known_is id (all_read k d less) ∙ ap (option_map (λ (x : ItemRow). x.title)) item.1 ∙ ap (λ o. Some (unwrap_or (option_map (λ (x : ItemRow). x.title) o) [])) (sym item.1)

      pub all_named : Sound t → All (IsNamed names) ids
      all_named sound k d less =
          let id : ℕ = get_or ids k d in
          let item = some_row t.items id (within k d less) in
          let author = some_row t.authors item.0.author (all_numbered (λ (i : ItemRow). Has (length t.authors) i.author) t.items id item.0 item.1 sound.names.authors.authors) in
          by id item.0 item.1 author.0 author.1 (all_read k d less) (row_numbered names.index.now.items id) refl
        where
          from : (id : ℕ) (x : ItemRow) (a : Author) (item : Naming) → row_numbered t.items id ≡ Some x → row_numbered t.authors x.author ≡ Some a → option_map naming (row_numbered t.items id) ≡ Some item
              → option_map (named_by item) (row_numbered names.index.now.authors item.author) ≡ Some (named_by item a)
          from id x a item at author is =
              let same : naming x ≡ item = cc (sym (ap (option_map naming) at) ∙ is) in
              let authors : names.index.now.authors ≡ t.authors = ap (λ (d : Catalogue). d.authors) (sym named) in
              ap (option_map (named_by item)) (ap (λ (l : List Author). row_numbered l item.author) authors ∙ ap (λ (i : Naming). row_numbered t.authors i.author) (sym same) ∙ author)

          by : (id : ℕ) (x : ItemRow) → row_numbered t.items id ≡ Some x → (a : Author) → row_numbered t.authors x.author ≡ Some a → (row_numbered names.index.now.items id ≡ None → label_read id names.labels.now ≡ label_shown t id)
              → (o : Option Naming) → row_numbered names.index.now.items id ≡ o → IsNamed names id
          by id x at a author read None none =
              (label_of t x, ap (label_by names id) none ∙ read none ∙ ap (option_map (label_of t)) at)
          by id x at a author read (Some item) some =
              (named_by item a, ap (label_by names id) some ∙ from id x a item at author (item_opened id item some))

-- the links of a promotion

promoted_is : (names : Names) (t : Tables) (ids : IdsAsked) (item : ℕ) → title_in names item ≡ title_of t item → promoted_in names ids item ≡ promoted t ids item
unfolding promoted
promoted_is names t ids item same = cc

pub links_are : (names : Names) (t : Tables) (ids : IdsAsked) (items : List ℕ) → HaveTitles t names items → map (promoted_in names ids) items ≡ map (promoted t ids) items
links_are names t ids [] all = refl
links_are names t ids (item ∷ items) all =
    let P : ℕ → Type 0 = λ id. title_in names id ≡ title_of t id in
    let first = promoted_is names t ids item (All-head P item items all) in
    let others = links_are names t ids items (All-tail P item items all) in
    cc

-- the rounds

-- the row of a key was read, and after the next round the labels behind it
pub record HasNamed (c : Catalogue) (named : Row → List ℕ) (k : Key) (round : ℕ) (reads : List ReadOf) : Type 0 where
  pub read : ReadOf
  pub labels : List ReadOf
  pub reads_are : reads ≡ read ∷ labels
  pub key_is : read.key ≡ k
  pub first : round ≡ 1 → labels ≡ []
  pub labels_are : (round ≡ 1 → ⊥) → keys_of labels ≡ label_keys c (named read.row)

pub has_named : (c : Catalogue) (named : Row → List ℕ) (k : Key) (round : ℕ) (reads : List ReadOf) → (round ≡ 0 → ⊥) → FollowsNamed c named k round reads → HasNamed c named k round reads
has_named c named k zero reads some follows = absurd (some refl)
has_named c named k (suc zero) [] some follows = absurd cc
has_named c named k (suc zero) (read ∷ []) some follows = record { read = read; labels = []; reads_are = refl; key_is = cc; first = λ is. refl; labels_are = λ later. absurd (later refl) }
has_named c named k (suc zero) (read ∷ other ∷ reads) some follows = absurd cc
has_named c named k (suc (suc round)) reads some follows = record {
  read = follows.read;
  labels = follows.labels;
  reads_are = follows.reads_are;
  key_is = follows.key_is;
  first = λ is. absurd (omega (arith, is));
  labels_are = λ later. follows.labels_are;
}

-- the labels that are read next
pub named_on : (c : Catalogue) (named : Row → List ℕ) (k : Key) (round : ℕ) (reads more : List ReadOf) (has : HasNamed c named k round reads) → round ≡ 1 → keys_of more ≡ label_keys c (named has.read.row)
    → FollowsNamed c named k (suc round) (reads ++ more)
named_on c named k round reads more has is of =
    subst (λ r. FollowsNamed c named k (suc r) (reads ++ more)) (sym is) (record {
      read = has.read;
      labels = more;
      reads_are = ap (λ (l : List ReadOf). l ++ more) (has.reads_are ∙ ap (λ (l : List ReadOf). has.read ∷ l) (has.first is));
      key_is = has.key_is;
      labels_are = of;
    })

-- all labels are read, where none is left in the round in which they would be asked for
pub all_labels : (c : Catalogue) (named : Row → List ℕ) (k : Key) (round : ℕ) (reads : List ReadOf) (has : HasNamed c named k round reads) → (round ≡ 1 → label_keys c (named has.read.row) ≡ [])
    → keys_of has.labels ≡ label_keys c (named has.read.row)
all_labels c named k round reads has none = ⊎_elim
    (λ (is : round ≡ 1). ap keys_of (has.first is) ∙ sym (none is))
    (λ (later : round ≡ 1 → ⊥). has.labels_are later)
    (cases_eq round 1)
