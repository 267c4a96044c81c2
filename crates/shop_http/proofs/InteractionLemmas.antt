-- The table of paths: that they are text and have no parameters, and what a router of it finds.
use Rattle.std.proofs.Common.{◌≡◌, ℕ, zero, suc, ◌<◌, Bool, true, false, ◌&&◌, cond, List, [], ◌∷◌, length, drop, get_or, codes, is_none, Option, Some, None, refl, sym, ap, ◌∙◌, subst, true≢false, arith}
use Rattle.std.specs.Prelude.{option_map, Ok}
use Rattle.std.specs.Bool.{one_answer}
use Rattle.std.specs.Char.{is_ascii}
use Rattle.std.specs.List.{find, list_all}
use Rattle.std.specs.Str.{IsUtf8, bytes_eq}
use Rattle.std.proofs.lemmas.List.Sums.{AllPass-from_list_all}
use Rattle.std.proofs.lemmas.Slice.Eq.{bytes_eq-Decides}
use Rattle.std.proofs.lemmas.Str.{IsUtf8-from_ascii}
use Rattle.std.proofs.lemmas.Str.Ascii.{IsAscii-from_all}
use Rattle.std.proofs.lemmas.Bool.{and_parts}
use Rattle.matchit.specs.Order.{lookup, placed}
use Rattle.matchit.specs.Route.{parse_route}
use Rattle.matchit.specs.Router.{RouteOf, nearest}
use Rattle.matchit.specs.Rows.{RowsOf}
use Rattle.matchit.proofs.OnLiterals.{matchit_on_literals}
use Rattle.shop_model.specs.declared.requests.Interaction.{Interaction}
use Rattle.shop_model.specs.declared.requests.Interaction.TheVariants.{Home}
use Rattle.shop_model.specs.declared.requests.TheConstants.{INTERACTIONS}
use Rattle.shop_model.specs.asked.Interactions.{paths, path_of, interaction_of}
use Rattle.shop_http.specs.Routes.{plain_scan, row_of, rows_of, FindsAll}
use Rattle.shop_http.proofs.RouteLemmas.{first_literal}

turned : (a b : List ℕ) → bytes_eq a b ≡ bytes_eq b a
turned a b =
    let decides = bytes_eq-Decides b a in
    one_answer _ _ (bytes_eq-Decides a b) (λ is. sym (decides.0 is), λ same. decides.1 (sym same))

finds : (table : List (List ℕ × Interaction)) (path : List ℕ)
    → option_map (λ route. route.value) (lookup path (rows_of table))
    ≡ option_map (λ row. row.1) (find (λ row. bytes_eq path row.0) table)
finds [] path = refl
finds ((text, interaction) ∷ rest) path = go (bytes_eq text path) (bytes_eq path text) (turned text path) (finds rest path)
  where
    go : (a b : Bool) → a ≡ b
        → option_map (λ route. route.value) (lookup path (rows_of rest))
        ≡ option_map (λ row. row.1) (find (λ row. bytes_eq path row.0) rest)
        → option_map (λ route. route.value) (cond a (Some (row_of (text, interaction)).1) (lookup path (rows_of rest)))
        ≡ option_map (λ row. row.1) (cond b (Some (text, interaction)) (find (λ row. bytes_eq path row.0) rest))
    go true true same others = refl
    go true false same others = absurd (true≢false same)
    go false true same others = absurd (true≢false (sym same))
    go false false same others = others

pub finds_all : FindsAll (rows_of paths)
unfolding interaction_of
finds_all path = ap (option_map (λ route. route.value)) (first_literal (rows_of paths) path refl) ∙ finds paths path

below : (byte : ℕ) → is_ascii byte ≡ true → byte < 128
below byte is = grind arith

ascii_text : (bytes : List ℕ) → list_all is_ascii bytes ≡ true → IsUtf8 bytes
ascii_text bytes all =
    IsUtf8-from_ascii bytes
    (IsAscii-from_all bytes (λ k d within. below _ (AllPass-from_list_all is_ascii bytes all k d within)))

none_found : (table : List (List ℕ × Interaction)) (path : List ℕ)
    → list_all (λ row. list_all is_ascii row.0) table ≡ true → ¬ IsUtf8 path
    → find (λ row. bytes_eq path row.0) table ≡ None
none_found [] path ascii text = refl
none_found ((row, interaction) ∷ rest) path ascii text =
    let parts = and_parts _ _ ascii in
    go (bytes_eq path row) (λ same. text (subst IsUtf8 (sym ((bytes_eq-Decides path row).0 same)) (ascii_text row parts.0)))
    (none_found rest path parts.1 text)
  where
    go : (same : Bool) → (same ≡ true → ⊥) → find (λ row. bytes_eq path row.0) rest ≡ None
        → cond same (Some (row, interaction)) (find (λ row. bytes_eq path row.0) rest) ≡ None
    go true not others = absurd (not refl)
    go false not others = others

pub none_unless_text : (path : List ℕ) → ¬ IsUtf8 path → interaction_of path ≡ None
unfolding interaction_of
none_unless_text path text = ap (option_map (λ row. row.1)) (none_found paths path refl text)

pub plain_paths : (interaction : Interaction) → parse_route (path_of interaction) ≡ Ok (plain_scan (path_of interaction))
unfolding matchit_on_literals
plain_paths Home = refl
plain_paths _ = refl

-- the rows of a router to which these were added
abbrev pub added : RowsOf (RouteOf Interaction) → List Interaction → RowsOf (RouteOf Interaction)
added rows [] = rows
added rows (interaction ∷ rest) = added (placed (row_of (path_of interaction, interaction)) rows) rest

-- none of these is there before it is added
abbrev pub are_free : RowsOf (RouteOf Interaction) → List Interaction → Bool
are_free rows [] = true
are_free rows (interaction ∷ rest) = is_none (nearest (path_of interaction) rows) && are_free (placed (row_of (path_of interaction, interaction)) rows) rest

split_at : (all : List Interaction) (k : ℕ) (none : Interaction) → k < length all → drop k all ≡ get_or all k none ∷ drop (suc k) all
split_at [] k none within = absurd (omega (arith, within))
split_at (x ∷ rest) zero none within = refl
split_at (x ∷ rest) (suc k) none within = split_at rest k none (omega (arith, within))

none_there : {A : Type 0} (found : Option A) → is_none found ≡ true → found ≡ None
none_there None none = refl
none_there (Some x) none = absurd (true≢false (sym none))

-- one of those that are left is added
module _ (rows : RowsOf (RouteOf Interaction)) (k : ℕ) (none : Interaction) (within : k < length INTERACTIONS) where
  abbrev next : Interaction
  next = get_or INTERACTIONS k none

  abbrev more : RowsOf (RouteOf Interaction)
  more = placed (row_of (path_of next, next)) rows

  here : drop k INTERACTIONS ≡ next ∷ drop (suc k) INTERACTIONS
  here = split_at INTERACTIONS k none within

  free_parts : are_free rows (drop k INTERACTIONS) ≡ true → (is_none (nearest (path_of next) rows) ≡ true) × (are_free more (drop (suc k) INTERACTIONS) ≡ true)
  free_parts free = and_parts (is_none (nearest (path_of next) rows)) (are_free more (drop (suc k) INTERACTIONS)) (subst (λ (rest : List Interaction). are_free rows rest ≡ true) here free)

  pub next_free : are_free rows (drop k INTERACTIONS) ≡ true → nearest (path_of next) rows ≡ None
  next_free free = none_there (nearest (path_of next) rows) (free_parts free).0

  pub others_free : are_free rows (drop k INTERACTIONS) ≡ true → are_free more (drop (suc k) INTERACTIONS) ≡ true
  others_free free = (free_parts free).1

  pub others_added : added more (drop (suc k) INTERACTIONS) ≡ added rows (drop k INTERACTIONS)
  others_added = sym (ap (added rows) here)

pub all_free : are_free [] INTERACTIONS ≡ true
unfolding matchit_on_literals
all_free = refl

pub all_added : placed (row_of (codes "/", Home)) (added [] INTERACTIONS) ≡ rows_of paths
unfolding matchit_on_literals
all_added = refl

pub slash_free : nearest (codes "/") (added [] INTERACTIONS) ≡ None
unfolding matchit_on_literals
slash_free = refl
