-- What never changes of an item and of the authors, and the searches over it. What matches and how
-- ties are broken is this project's own, after the TPC-W specification's Search Results.
use Rattle.std.specs.Prelude.{ℕ, ◌==◌, not, Bool, List, [], ◌∷◌, ◌++◌, length, map, filter, take, drop, unwrap_or, option_map, if◌then◌else◌}
use Rattle.std.specs.declared.cmp.Ordering.{Ordering}
use Rattle.std.specs.Ordering.{ordering_then, nat_cmp}
use Rattle.std.specs.Cmp.Lexicographic.{slice_cmp}
use Rattle.std.specs.List.{list_any}
use Rattle.std.specs.Str.{bytes_eq}
use Rattle.shop_text.specs.Fold.{lower, fold_eq, fold_begins}
use Rattle.shop_model.specs.declared.author.Author.{Author}
use Rattle.shop_model.specs.declared.requests.SearchKind.{SearchKind}
use Rattle.shop_model.specs.declared.requests.SearchKind.TheVariants as kind
use Rattle.shop_model.specs.declared.subject.Subject.{Subject}
use Rattle.shop_model.specs.declared.tables.Tables.{Tables}
use Rattle.shop_model.specs.rows.Limits.{list_limit}
use Rattle.shop_model.specs.rows.Lookups.{row_numbered}
use Rattle.shop_model.specs.lists.Rankings.{in_order}
use Rattle.shop_model.specs.rows.Rows.{ItemRow}
use Rattle.shop_model.specs.rows.Subjects.{subject_name}

-- what never changes of an item
pub record Naming : Type 0 where
  pub id : ℕ
  pub title : List ℕ
  pub author : ℕ
  pub subject : Subject

abbrev pub naming : ItemRow → Naming
naming item = record { id = item.id; title = item.title; author = item.author; subject = item.subject }

-- what never changes: the namings of the items, and the authors
pub record Catalogue : Type 0 where
  pub items : List Naming
  pub authors : List Author

abbrev pub catalogue : Tables → Catalogue
catalogue t = record { items = map naming t.items; authors = t.authors }

-- the part of it that the shop opened with, which stays
abbrev pub opened : Tables → Catalogue
opened t = record { items = take t.born_items (map naming t.items); authors = t.authors }

-- the part that was added since
abbrev pub added : Tables → Catalogue
added t = record { items = drop t.born_items (map naming t.items); authors = t.authors }

-- the runs of bytes between spaces, where these bytes came before; some may be empty
abbrev pub runs_from : List ℕ → List ℕ → List (List ℕ)
runs_from run [] = run ∷ []
runs_from run (byte ∷ bytes) = if byte == 32 then run ∷ runs_from [] bytes else runs_from (run ++ byte ∷ []) bytes

-- the words of a text: its longest runs of bytes other than space
unfoldable pub words : List ℕ → List (List ℕ)
words text = filter (λ run. not (length run == 0)) (runs_from [] text)

-- the last name of an item's author
abbrev pub last_name : Catalogue → Naming → List ℕ
last_name c item = unwrap_or (option_map (λ a. a.last) (row_numbered c.authors item.author)) []

-- whether an item matches a text: a word of its title is the text, its author's last name begins with it, or its subject has this name; the first two without the case of ASCII letters
abbrev pub matches : Catalogue → SearchKind → List ℕ → Naming → Bool
matches c kind.Title text item = list_any (λ word. fold_eq word text) (words item.title)
matches c kind.Author text item = fold_begins (last_name c item) text
matches c kind.Subject text item = bytes_eq (subject_name item.subject) text

-- the form in which a text is compared: in small letters, unless it is the name of a subject
abbrev pub compared : SearchKind → List ℕ → List ℕ
compared kind.Title text = map lower text
compared kind.Author text = map lower text
compared kind.Subject text = text

-- what a search looks for
pub record Search : Type 0 where
  pub kind : SearchKind
  pub text : List ℕ

-- that of a search for a text, in the form in which it is compared
abbrev pub search_for : SearchKind → List ℕ → Search
search_for kind text = record { kind = kind; text = compared kind text }

-- titles in the order of their bytes, then smaller ids
abbrev pub by_title : Naming → Naming → Ordering
by_title a b = ordering_then (slice_cmp nat_cmp a.title b.title) (nat_cmp a.id b.id)

-- the ids of the first items that match
unfoldable pub found : Catalogue → SearchKind → List ℕ → List ℕ
found c kind text = map (λ i. i.id) (take list_limit (in_order by_title (filter (matches c kind text) c.items)))
