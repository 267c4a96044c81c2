-- The keys under which searches find an item.
use Rattle.std.specs.Prelude.{ℕ, Bool, List, [], ◌∷◌, map, unwrap_or, option_map}
use Rattle.std.specs.List.{list_any}
use Rattle.std.specs.Str.{bytes_eq}
use Rattle.shop_text.specs.Fold.{lower}
use Rattle.shop_model.specs.declared.author.Author.{Author}
use Rattle.shop_model.specs.declared.requests.SearchKind.{SearchKind}
use Rattle.shop_model.specs.declared.requests.SearchKind.TheVariants as kind
use Rattle.shop_model.specs.lists.Catalogues.{Naming, words}
use Rattle.shop_model.specs.rows.Lookups.{row_numbered}
use Rattle.shop_model.specs.rows.Subjects.{subject_name}

-- the fronts of a text, the shortest first
unfoldable pub fronts : List ℕ → List (List ℕ)
fronts [] = [] ∷ []
fronts (byte ∷ bytes) = [] ∷ map (λ front. byte ∷ front) (fronts bytes)

-- the last name of the author with an id
abbrev pub last_of : List Author → ℕ → List ℕ
last_of authors id = unwrap_or (option_map (λ a. a.last) (row_numbered authors id)) []

-- the keys of an item: the words of its title, the fronts of its author's last name, or the name of its subject
abbrev pub keys_of : List Author → SearchKind → Naming → List (List ℕ)
keys_of authors kind.Title item = map (map lower) (words item.title)
keys_of authors kind.Author item = fronts (map lower (last_of authors item.author))
keys_of authors kind.Subject item = subject_name item.subject ∷ []

-- whether a key is among others
abbrev pub is_among : List ℕ → List (List ℕ) → Bool
is_among key keys = list_any (λ k. bytes_eq k key) keys
