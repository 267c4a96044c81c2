-- How many items there are, which a request reads before its rounds, and the item that a word draws of so many.
use Rattle.std.specs.Prelude.{◌≡◌, ℕ, ◌+◌, ◌%◌, ◌≤◌, List, ◌∷◌}
use Rattle.shop_history.specs.declared.keys.Key.{Key}
use Rattle.shop_history.specs.declared.keys.Key.TheVariants.{Count, Item}
use Rattle.shop_history.specs.declared.keys.Row.{Row}
use Rattle.shop_history.specs.declared.keys.Row.TheVariants.{Number}
use Rattle.shop_attempt.specs.declared.attempts.ReadOf.{ReadOf}

-- the number in a row; another row has none
abbrev pub number_in : Row → ℕ
number_in (Number number) = number
number_in _ = 0

-- a row is a number of items, of which no shop has fewer than six
pub record IsNumber (shown : Row) : Type 0 where
  pub is : shown ≡ Number (number_in shown)
  pub six : 6 ≤ number_in shown

-- the key of the item that a word draws of so many
abbrev pub drawn_key : ℕ → ℕ → Key
drawn_key draw items = Item (1 + draw % items)

-- the number of items was read, and behind it what is read in so many rounds by this number
pub record HasCount (follows : ℕ → ℕ → List ReadOf → Type 0) (round : ℕ) (reads : List ReadOf) : Type 0 where
  pub count : ReadOf
  pub rest : List ReadOf
  pub reads_are : reads ≡ count ∷ rest
  pub key_is : count.key ≡ Count
  pub rest_are : follows (number_in count.row) round rest
