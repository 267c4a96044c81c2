-- How options stand in the words of a command: GNU's long options, each with one value.
use Rattle.std.specs.Prelude.{◌≡◌, ◌≢◌, ◌<◌, ◌++◌, List, [], ◌∷◌, ℕ, Option, Some, None, map, length, slice_index, option_map, codes}
use Rattle.std.specs.List.{All, Contains, IsDistinct, find, flat_map}
use Rattle.std.specs.Str.{bytes_eq, IsAscii, IsUtf8}

-- an option with its name and its value, as it stands: in two words, or in one
pub data Given : Type 0 where
  apart : List ℕ → List ℕ → Given
  joined : List ℕ → List ℕ → Given

abbrev pub name_of : Given → List ℕ
name_of (apart name value) = name
name_of (joined name value) = name

abbrev pub value_of : Given → List ℕ
value_of (apart name value) = value
value_of (joined name value) = value

-- `--name value`, or `--name=value`
abbrev pub words_of : Given → List (List ℕ)
words_of (apart name value) = (codes "--" ++ name) ∷ value ∷ []
words_of (joined name value) = (codes "--" ++ (name ++ (codes "=" ++ value))) ∷ []

-- the words are these options, which have some of the names, and no two the same
pub record AreOptions (names words : List (List ℕ)) (given : List Given) : Type 0 where
  pub stand : words ≡ flat_map words_of given
  pub known : All (Contains names) (map name_of given)
  pub once : IsDistinct bytes_eq (map name_of given)

-- the value given to a name
abbrev pub value_for : List Given → List ℕ → Option (List ℕ)
value_for given name = option_map value_of (find (λ g. bytes_eq (name_of g) name) given)

-- an option's value by its form, or where it is not given its default
abbrev pub IsChosen : {A : Type 0} → (List ℕ → Option A) → A → Option (List ℕ) → A → Type 0
IsChosen form fallback None chosen = chosen ≡ fallback
IsChosen form fallback (Some text) chosen = form text ≡ Some chosen

-- the value of an option that has to be given: it has this form
pub record IsRequired (Form : List ℕ → Type 0) (value : Option (List ℕ)) (chosen : List ℕ) : Type 0 where
  pub given : value ≡ Some chosen
  pub form : Form chosen

-- ---- what clap is given

-- a name that can be told from the value behind it
pub record IsOptionName (name : List ℕ) : Type 0 where
  pub some : 0 < length name
  pub ascii : IsAscii name
  pub no_equals : All (λ byte. byte ≢ 61) name

-- a value that can't be taken for an option
pub record IsPlain (value : List ℕ) : Type 0 where
  pub utf8 : IsUtf8 value
  pub no_hyphen : slice_index value 0 ≢ 45

-- a word that may stand among options: text, and not two hyphens alone
pub record IsWord (word : List ℕ) : Type 0 where
  pub utf8 : IsUtf8 word
  pub no_hyphens : word ≢ codes "--"

-- the words are options with these values, and no others where all are plain
pub record IsReading (names words : List (List ℕ)) (values : List ℕ → Option (List ℕ)) : Type 0 where
  pub given : List Given
  pub options : AreOptions names words given
  pub those : (name : List ℕ) → values name ≡ value_for given name
  pub only : (other : List Given) → AreOptions names words other → All IsPlain (map value_of other)
      → (name : List ℕ) → values name ≡ value_for other name
