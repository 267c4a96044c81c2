-- The quantities that a request for the shopping cart sets, each in a parameter such as `qty_46=2`;
-- this project's own.
use Rattle.std.specs.Prelude.{◌≡◌, ℕ, nat_le, List, [], ◌∷◌, ◌++◌, length, take, drop, Option, Some, None, if◌then◌else◌, codes}
use Rattle.std.specs.List.{filter_map}
use Rattle.std.specs.Option.{option_map, option_and_then}
use Rattle.std.specs.Str.{bytes_eq}
use Rattle.shop_model.specs.rows.Limits.{quantity_limit, sets_limit}
use Rattle.shop_text.specs.Numbers.{number_of}

-- a quantity that is not over the limit
abbrev pub quantity_of : List ℕ → Option ℕ
quantity_of digits = option_and_then (λ quantity. if nat_le quantity quantity_limit then Some quantity else None) (number_of digits)

-- an item's id and a quantity, each in its form
unfoldable pub set_of : List ℕ → List ℕ → Option (ℕ × ℕ)
set_of item quantity =
    option_and_then (λ id. option_map (λ number. (id, number)) (quantity_of quantity)) (number_of item)

-- what a name and a value set, where the name begins with `qty_`; none within where the rest is not in its form
unfoldable pub set_asked : List ℕ × List ℕ → Option (Option (ℕ × ℕ))
set_asked (name, value) =
    if bytes_eq (take 4 name) (codes "qty_") then Some (set_of (drop 4 name) value) else None

-- none of the pairs sets a quantity
abbrev pub SetNothing : List (List ℕ × List ℕ) → Type 0
SetNothing pairs = filter_map set_asked pairs ≡ []

-- the values of all of these; none where one has none
unfoldable pub all_of : {A : Type 0} → List (Option A) → Option (List A)
all_of [] = Some []
all_of (None ∷ others) = None
all_of (Some value ∷ others) = option_map (λ values. value ∷ values) (all_of others)

-- these sets, and behind them all that the pairs set; none where one is not in its form
abbrev pub sets_behind : List (ℕ × ℕ) → List (List ℕ × List ℕ) → Option (List (ℕ × ℕ))
sets_behind sets pairs = option_map (λ more. sets ++ more) (all_of (filter_map set_asked pairs))

-- no more sets than one request may have
abbrev pub few : List (ℕ × ℕ) → Option (List (ℕ × ℕ))
few sets = if nat_le (length sets) sets_limit then Some sets else None

-- all that the pairs set, in their order; none where one is not in its form, or there are too many
unfoldable pub sets_asked : List (List ℕ × List ℕ) → Option (List (ℕ × ℕ))
sets_asked pairs = option_and_then few (all_of (filter_map set_asked pairs))
