-- Lists that are kept by key, the one used last first.
use Rattle.std.specs.Prelude.{ℕ, ◌≤◌, ◌-◌, nat_le, Option, Some, None, List, ◌∷◌, take, if◌then◌else◌, All}
use Rattle.std.specs.Map.{lookup, remove_entry}
use Rattle.lru.specs.LruCache.{promoted}
use Rattle.shop_cache.specs.declared.cache.Kept.{Kept}
use Rattle.shop_cache.specs.declared.keys.ListKey.{ListKey}
use Rattle.shop_cache.specs.Keys.{same_list}

-- the pairs, the one used last first
abbrev pub Entries : Type 0
Entries = List (ListKey × Kept)

-- how many lists are kept
abbrev pub room : ℕ
room = 96

-- how old a list may be, in milliseconds
abbrev pub age_limit : ℕ
age_limit = 30_000

-- a list that is young enough at a moment
abbrev pub young : ℕ → Option Kept → Option Kept
young moment None = None
young moment (Some kept) = if nat_le (moment - kept.taken) age_limit then Some kept else None

-- no list was taken after the moment
abbrev pub AllTaken : ℕ → Entries → Type 0
AllTaken moment entries = All (λ e. e.1.taken ≤ moment) entries

-- the list of a key that is found at a moment
abbrev pub found : ListKey → ℕ → Entries → Option Kept
found key moment entries = young moment (lookup (same_list key) entries)

-- after a look for a key: if it is there, it goes first
abbrev pub looked : ListKey → Entries → Entries
looked key entries = promoted (same_list key) entries

-- after a list is kept: it goes first, and as many others stay as there is room for
abbrev pub with_kept : ListKey → Kept → Entries → Entries
with_kept key kept entries = (key, kept) ∷ take (room - 1) (remove_entry (same_list key) entries)
