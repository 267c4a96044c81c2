-- The lines of a list, by what is known of its items.
use Rattle.std.specs.Prelude.{◌≡◌, ℕ, List, [], map, All, Option, Some, None}
use Rattle.shop_cache.specs.declared.lines.ListLine.{ListLine}
use Rattle.shop_history.specs.declared.keys.Row.{Row}
use Rattle.shop_history.specs.declared.keys.Row.TheVariants as row
use Rattle.shop_history.specs.Labels.{LabelRow}
use Rattle.shop_browse.specs.declared.names.Names.{Names}
use Rattle.shop_browse.specs.Names.{label_in}

-- the items on the list in a row
abbrev pub items_in : Row → List ℕ
items_in (row.Items items) = items
items_in _ = []

-- an item, and how a line names it, or what is known of items
abbrev pub line_names : ListLine → ℕ × Option LabelRow
line_names line = (line.item, Some line.label)

abbrev pub names_in : Names → ℕ → ℕ × Option LabelRow
names_in names item = (item, label_in names item)

-- an item is known
abbrev pub IsNamed : Names → ℕ → Type 0
IsNamed names item = (label : LabelRow) × (label_in names item ≡ Some label)

-- a line for each item, or one is not known
abbrev pub AreLinesOf : Names → List ℕ → Option (List ListLine) → Type 0
AreLinesOf names items (Some lines) = map line_names lines ≡ map (names_in names) items
AreLinesOf names items None = All (IsNamed names) items → ⊥
