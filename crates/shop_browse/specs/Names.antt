-- How items are named: by what never changes of those of the opening, and by labels that were read of others.
use Rattle.std.specs.Prelude.{◌≡◌, ◌==◌, not, ℕ, zero, suc, List, [], ◌∷◌, map, filter, All, Option, Some, None, is_some, option_map, unwrap_or, if◌then◌else◌}
use Rattle.std.specs.Option.{option_or}
use Rattle.shop_model.specs.declared.author.Author.{Author}
use Rattle.shop_model.specs.declared.tables.Tables.{Tables}
use Rattle.shop_model.specs.lists.Catalogues.{Catalogue, Naming}
use Rattle.shop_model.specs.rows.Lookups.{row_numbered, title_of}
use Rattle.shop_model.specs.rows.Sound.{Has}
use Rattle.shop_history.specs.declared.keys.Key.{Key}
use Rattle.shop_history.specs.declared.keys.Key.TheVariants as key
use Rattle.shop_history.specs.declared.keys.Row.{Row}
use Rattle.shop_history.specs.declared.keys.Row.TheVariants as row
use Rattle.shop_history.specs.Labels.{LabelRow}
use Rattle.shop_attempt.specs.declared.attempts.ReadOf.{ReadOf}
use Rattle.shop_browse.specs.declared.names.Names.{Names}
use Rattle.shop_browse.specs.Fitting.{keys_of}

-- how an item of this author is named
abbrev pub named_by : Naming → Author → LabelRow
named_by item author = record { title = item.title; first = author.first; last = author.last }

-- the label of an item, if this row of a key is it
abbrev pub label_at : ℕ → Key → Row → Option LabelRow
label_at id (key.Label other) (row.Label label) = if other == id then Some label else None
label_at id _ _ = None

-- the first label of an item that was read
abbrev pub label_read : ℕ → List ReadOf → Option LabelRow
label_read id [] = None
label_read id (read ∷ reads) = option_or (label_at id read.key read.row) (label_read id reads)

-- how the item with an id is named: by the catalogue, or as it was read where the catalogue doesn't have it
abbrev pub label_by : Names → ℕ → Option Naming → Option LabelRow
label_by names id (Some item) = option_map (named_by item) (row_numbered names.index.now.authors item.author)
label_by names id None = label_read id names.labels.now

abbrev pub label_in : Names → ℕ → Option LabelRow
label_in names id = label_by names id (row_numbered names.index.now.items id)

-- its title, if it is known
abbrev pub known_by : Names → ℕ → Option Naming → Option (List ℕ)
known_by names id (Some item) = Some item.title
known_by names id None = option_map (λ label. label.title) (label_read id names.labels.now)

abbrev pub known_title : Names → ℕ → Option (List ℕ)
known_title names id = known_by names id (row_numbered names.index.now.items id)

-- its title, or none of an item that is not known
abbrev pub title_in : Names → ℕ → List ℕ
title_in names id = unwrap_or (known_title names id) []

-- tables have the titles that are known of these items
abbrev pub HaveTitles : Tables → Names → List ℕ → Type 0
HaveTitles t names ids = All (λ id. title_in names id ≡ title_of t id) ids

-- the keys of the labels of those of these items that a catalogue doesn't have
abbrev pub label_keys : Catalogue → List ℕ → List Key
label_keys c ids = map key.Label (filter (λ id. not (is_some (row_numbered c.items id))) ids)

-- in a shop with so many items none of these has a label to be read
abbrev pub NoneUnread : Catalogue → ℕ → List ℕ → Type 0
NoneUnread c count ids = All (Has count) ids → label_keys c ids ≡ []

-- the row of a key was read, and behind it the labels of the items that it names and the catalogue doesn't have
pub record ReadsNamed (c : Catalogue) (named : Row → List ℕ) (k : Key) (reads : List ReadOf) : Type 0 where
  pub read : ReadOf
  pub labels : List ReadOf
  pub reads_are : reads ≡ read ∷ labels
  pub key_is : read.key ≡ k
  pub labels_are : keys_of labels ≡ label_keys c (named read.row)

-- after the first round the row was read, and after the second these labels
abbrev pub FollowsNamed : Catalogue → (Row → List ℕ) → Key → ℕ → List ReadOf → Type 0
FollowsNamed c named k zero reads = reads ≡ []
FollowsNamed c named k (suc zero) reads = keys_of reads ≡ k ∷ []
FollowsNamed c named k (suc (suc more)) reads = ReadsNamed c named k reads
