-- The links of a page as they stand in the bytes of its text.
use Rattle.std.specs.Prelude.{◌≡◌, ◌⊎◌, ℕ, ◌+◌, ◌^◌, ◌==◌, ◌<◌, ◌≤◌, nat_eq, List, [], ◌∷◌, ◌++◌, length, map, drop, Bool, true, false, codes, Option, Some, None, if◌then◌else◌}
use Rattle.std.specs.List.{flat_map, list_all, starts_with, slice_split, before_first}
use Rattle.std.specs.Char.{is_ascii_digit}
use Rattle.std.specs.Str.Parse.{digits_value}
use Rattle.std.specs.Option.{option_or}
use Rattle.shop_text.specs.Escape.{escape}
use Rattle.shop_text.specs.Numbers.{number_of}
use Rattle.shop_model.specs.declared.requests.IdsAsked.{IdsAsked}
use Rattle.shop_browsers.specs.Shown.{first_number, pairs_in}

-- what stands behind each opening of a link, up to the next quote
unfoldable pub links_in : List ℕ → List (List ℕ)
links_in [] = []
links_in (byte ∷ bytes) =
    if starts_with nat_eq (byte ∷ bytes) (codes "<a href=\"") then before_first (λ b. b == 34) (drop 8 bytes) ∷ links_in bytes
    else links_in bytes

-- the pairs between the signs `&`
abbrev pub split : List ℕ → List (List ℕ)
split query = slice_split (λ byte. byte == 38) query

-- whether a target ends here: nothing follows, or a quote
abbrev pub ends : List ℕ → Bool
ends [] = true
ends (byte ∷ bytes) = byte == 34

-- a target begins these bytes, escaped, and ends before the tail
pub record Begins (bytes target tail : List ℕ) : Type 0 where
  pub is : bytes ≡ escape target ++ tail
  pub ended : ends tail ≡ true

-- the pair before the first `&`
abbrev pub first_pair : List ℕ → List ℕ
first_pair [] = []
first_pair (byte ∷ bytes) = if byte == 38 then [] else byte ∷ first_pair bytes

-- whether no byte stands before the first `&`
abbrev pub pair_over : List ℕ → Bool
pair_over [] = true
pair_over (byte ∷ bytes) = byte == 38

-- what is left of the bytes of a query, of whose first pair some was read
pub record IsLeft (query tail left : List ℕ) : Type 0 where
  pub passed : List ℕ
  pub others : List ℕ
  pub pair : first_pair query ≡ passed ++ first_pair others
  pub all : query ≡ passed ++ others
  pub begins : Begins left others tail

-- what follows the first pair of a query
abbrev pub IsNextPair : List ℕ → List ℕ → Option (List ℕ) → Type 0
IsNextPair query tail None = split query ≡ first_pair query ∷ []
IsNextPair query tail (Some after) = (others : List ℕ) × Begins after others tail × (split query ≡ first_pair query ∷ split others)

-- digits in front, at most ten, their value, and what follows them
pub record AreDigits (bytes : List ℕ) (value : ℕ) (left : List ℕ) : Type 0 where
  pub digits : List ℕ
  pub is : bytes ≡ digits ++ left
  pub all : list_all is_ascii_digit digits ≡ true
  pub few : length digits ≤ 10
  pub value_is : value ≡ digits_value 10 digits
  pub below : value < 10 ^ length digits

-- no digit follows, or there are ten
abbrev pub Stops : List ℕ → List ℕ → Type 0
Stops bytes [] = Unit {0}
Stops bytes (byte ∷ left) = (is_ascii_digit byte ≡ false) ⊎ (length bytes ≡ length (byte ∷ left) + 10)

-- these ids, and where one lacks that of the first pair that has it
abbrev pub with_pairs : IdsAsked → List (List ℕ) → IdsAsked
with_pairs ids pairs = record {
  c = option_or ids.c (first_number (codes "c=") pairs);
  cart = option_or ids.cart (first_number (codes "cart=") pairs);
}

-- no link in these bytes names a cart
abbrev pub NamesNoCart : List ℕ → Type 0
NamesNoCart bytes =
    (targets : List (List ℕ)) → links_in bytes ≡ map escape targets → first_number (codes "cart=") (flat_map pairs_in targets) ≡ None

-- no link in these bytes names what these ids lack
abbrev pub NamesNoMore : IdsAsked → List ℕ → Type 0
NamesNoMore ids bytes =
    (targets : List (List ℕ)) → links_in bytes ≡ map escape targets → with_pairs ids (flat_map pairs_in targets) ≡ ids

-- the number that the first pair of a query is, once it was read
abbrev pub TakesNumber : List ℕ → List ℕ → Option ℕ → List ℕ → Type 0
TakesNumber query tail number left = (number ≡ number_of (first_pair query)) × IsLeft query tail left

-- these ids, once the first pair of a query was read
abbrev pub TakesPair : IdsAsked → List ℕ → List ℕ → IdsAsked → List ℕ → Type 0
TakesPair ids query tail taken left = (taken ≡ with_pairs ids (first_pair query ∷ [])) × IsLeft query tail left
