-- The lines of items that are known are those of the tables.
use Rattle.std.proofs.Common.{◌≡◌, ℕ, List, [], ◌∷◌, length, All, Option, None, Some, refl, sym, ◌∙◌, ap, subst}
use Rattle.std.proofs.lemmas.List.Elements.{All-nil, All-cons}
use Rattle.shop_model.specs.declared.tables.Tables.{Tables}
use Rattle.shop_model.specs.lists.Catalogues.{opened}
use Rattle.shop_model.specs.rows.Sound.{Has}
use Rattle.shop_history.specs.declared.keys.Key.{Key}
use Rattle.shop_history.specs.declared.keys.Key.TheVariants.{Label}
use Rattle.shop_history.specs.declared.keys.Row.TheVariants as row
use Rattle.shop_history.specs.Keys.{row_of}
use Rattle.shop_cache.specs.declared.lines.ListLine.{ListLine}
use Rattle.shop_attempt.specs.declared.attempts.ReadOf.{ReadOf}
use Rattle.shop_attempt.specs.Reads.{Shows}
use Rattle.shop_browse.specs.declared.names.Names.{Names}
use Rattle.shop_browse.specs.Driver.{keys_of, Fits}
use Rattle.shop_browse.specs.Lines.{items_in, line_names, names_in, AreLinesOf}
use Rattle.shop_browse.specs.Lists.{AreLines}
use Rattle.shop_browse.specs.Names.{label_in, label_keys}
use Rattle.shop_browse.proofs.cited.Names.{HasNamed, label_of_key, all_named}

pub lines_are : (names : Names) (t : Tables) → opened t ≡ names.index.now → Shows t names.labels.now → (items : List ℕ) (lines : List ListLine) → AreLinesOf names items (Some lines) → AreLines t items lines
lines_are names t named shows [] [] same = record { items_are = refl; labels = All-nil (λ (l : ListLine). row_of t (Label l.item) ≡ row.Label l.label) }
lines_are names t named shows [] (line ∷ lines) same = absurd cc
lines_are names t named shows (item ∷ items) [] same = absurd cc
lines_are names t named shows (item ∷ items) (line ∷ lines) same =
    let first : line_names line ≡ names_in names item = cc in
    let item_is : line.item ≡ item = ap (λ (p : ℕ × _). p.0) first in
    let label : label_in names line.item ≡ Some line.label = ap (label_in names) item_is ∙ sym (ap (λ (p : ℕ × _). p.1) first) in
    let others : AreLines t items lines = lines_are names t named shows items lines (cc) in
    let tail = others.items_are in
    record {
      items_are = cc;
      labels = All-cons (λ (l : ListLine). row_of t (Label l.item) ≡ row.Label l.label) line lines (label_of_key names t named shows line.item line.label label) others.labels;
    }

-- a list that was read, and the labels behind it
module _ (k : Key) (round : ℕ) (reads : List ReadOf) (names : Names) (has : HasNamed names.index.now items_in k round reads) (labels_are : names.labels.now ≡ has.labels) (t : Tables) (fits : Fits names.index.now t reads) where
  shown : Shows t (has.read ∷ has.labels)
  shown = subst (Shows t) has.reads_are fits.shows

  pub row_shown : has.read.row ≡ row_of t k
  row_shown = sym shown.0 ∙ ap (row_of t) has.key_is

  pub labels_shown : Shows t names.labels.now
  labels_shown = subst (Shows t) (sym labels_are) shown.1

  -- the lines that were made of its items
  module _ (items : List ℕ) (are : items ≡ items_in has.read.row) (made : Option (List ListLine)) (of : AreLinesOf names items made) where
    items_are : items ≡ items_in (row_of t k)
    items_are = are ∙ ap items_in row_shown

    pub key_lines : (lines : List ListLine) → made ≡ Some lines → AreLines t (items_in (row_of t k)) lines
    key_lines lines some =
        subst (λ (l : List ℕ). AreLines t l lines) items_are (lines_are names t fits.named labels_shown items lines (subst (AreLinesOf names items) some of))

    pub none_unnamed : (round ≡ 1 → ⊥) → All (Has (length t.items)) (items_in (row_of t k)) → made ≡ None → ⊥
    none_unnamed later within none =
        subst (AreLinesOf names items) none of
        (all_named names t fits.named labels_shown items (ap keys_of labels_are ∙ has.labels_are later ∙ ap (label_keys names.index.now) (sym are))
        (subst (All (Has (length t.items))) (sym items_are) within) fits.sound)
