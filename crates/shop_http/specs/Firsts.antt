-- The first values of the parameters.
use Rattle.std.specs.Prelude.{ℕ, List, Option}
use Rattle.std.specs.Borrow.{Bor}
use Rattle.std.specs.Option.{option_map, option_or}
use Rattle.shop_model.specs.declared.parameter.Parameter.{Parameter}
use Rattle.shop_http.specs.Forms.{Pair, decoded_text, value_of}

-- the value of each parameter, where it has one
abbrev pub Firsts : Type 0
Firsts = Parameter → Option (List ℕ)

-- their values among pairs
abbrev pub firsts_of : List Pair → Firsts
firsts_of pairs parameter = value_of pairs parameter

-- these values, and those among pairs behind them
abbrev pub behind : Firsts → List Pair → Firsts
behind firsts pairs parameter = option_or (firsts parameter) (value_of pairs parameter)

-- an encoded value, as it is read
abbrev pub kept : Option (Bor (List ℕ)) → Option (List ℕ)
kept value = option_map (λ encoded. decoded_text encoded.now) value
