-- Lists of ids by keys.
use Rattle.std.specs.Prelude.{◌≡◌, ℕ, nat_lt, if◌then◌else◌, List, [], ◌∷◌, ◌++◌, length, map, filter, take, unwrap_or}
use Rattle.std.specs.HashMap.{HashMap, get}
use Rattle.std.specs.Str.{bytes_eq}
use Rattle.shop_model.specs.declared.author.Author.{Author}
use Rattle.shop_model.specs.declared.requests.SearchKind.{SearchKind}
use Rattle.shop_model.specs.declared.requests.SearchKind.TheVariants as kind
use Rattle.shop_model.specs.lists.Catalogues.{Catalogue, Naming, compared, found}
use Rattle.shop_model.specs.rows.Limits.{list_limit}
use Rattle.shop_search.specs.Keys.{keys_of, is_among}

-- the ids at a key
abbrev pub ids_at : {S : Type 0} → HashMap (List ℕ) (List ℕ) S → List ℕ → List ℕ
ids_at lists key = unwrap_or (get bytes_eq lists key) []

-- one id more, where there is room
abbrev pub with_id : List ℕ → ℕ → List ℕ
with_id ids id = if nat_lt (length ids) list_limit then ids ++ id ∷ [] else ids

-- an id was added at a key
pub record Adds {S : Type 0} (old new : HashMap (List ℕ) (List ℕ) S) (key : List ℕ) (id : ℕ) : Type 0 where
  pub each : (q : List ℕ) → ids_at new q ≡ (if bytes_eq key q then with_id (ids_at old q) id else ids_at old q)

-- an id was added at these keys, once at each
pub record AddsAll {S : Type 0} (old new : HashMap (List ℕ) (List ℕ) S) (keys : List (List ℕ)) (id : ℕ) : Type 0 where
  pub each : (q : List ℕ) → ids_at new q ≡ (if is_among q keys then with_id (ids_at old q) id else ids_at old q)

-- each key has the ids of the first of these namings among whose keys it is
pub record Lists {S : Type 0} (authors : List Author) (kind : SearchKind) (namings : List Naming) (lists : HashMap (List ℕ) (List ℕ) S) : Type 0 where
  pub each : (q : List ℕ) → ids_at lists q ≡ take list_limit (map (λ i. i.id) (filter (λ i. is_among q (keys_of authors kind i)) namings))

-- what searches of a kind find stands at their keys
pub record Answers {S : Type 0} (c : Catalogue) (kind : SearchKind) (lists : HashMap (List ℕ) (List ℕ) S) : Type 0 where
  pub each : (text : List ℕ) → ids_at lists (compared kind text) ≡ found c kind text

-- what searches of each kind find
pub record IsIndex {S : Type 0} (c : Catalogue) (titles authors subjects : HashMap (List ℕ) (List ℕ) S) : Type 0 where
  pub titles_found : Answers c kind.Title titles
  pub authors_found : Answers c kind.Author authors
  pub subjects_found : Answers c kind.Subject subjects
