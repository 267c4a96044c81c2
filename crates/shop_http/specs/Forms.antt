-- The parameters of a message, and the forms that they are to have. The syntax of pairs is that of the URL
-- Standard, section 5; the forms are this project's own.
use Rattle.std.specs.Prelude.{ℕ, ◌&&◌, ◌==◌, Bool, not, nat_lt, nat_le, List, [], length, map, Option, Some, None, unwrap_or, Result, Ok, if◌then◌else◌}
use Rattle.std.specs.List.{find}
use Rattle.std.specs.Option.{option_map, option_and_then, ok_or}
use Rattle.std.specs.Str.{bytes_eq}
use Rattle.std.specs.Str.Lossy.{utf8_lossy}
use Rattle.form_urlencoded.specs.Form.{decode, parse}
use Rattle.shop_model.specs.declared.parameter.Parameter.{Parameter}
use Rattle.shop_model.specs.rows.Limits.{added_stock_limit, pages_limit, price_limit, text_limit}
use Rattle.shop_model.specs.asked.Cards.{is_card_number, is_month}
use Rattle.shop_model.specs.asked.Parameters.{parameter_name}
use Rattle.shop_model.specs.trade.Stocks.{least_stock}
use Rattle.shop_text.specs.Numbers.{number_of}

-- a name and a value
abbrev pub Pair : Type 0
Pair = List ℕ × List ℕ

-- the decoded pairs of an encoded text, as texts: what isn't UTF-8 in them is replaced
abbrev pub pairs : List ℕ → List Pair
pairs encoded = map (λ pair. (utf8_lossy pair.0, utf8_lossy pair.1)) (parse encoded)

-- what an encoded name or value stands for, as a text
abbrev pub decoded_text : List ℕ → List ℕ
decoded_text encoded = utf8_lossy (decode encoded)

-- an encoded pair as it is read
abbrev pub decoded : Pair → Pair
decoded (name, value) = (decoded_text name, decoded_text value)

-- a byte that stands for itself, whatever is beside it: of ASCII, and neither `%` nor `+`
abbrev pub is_plain : ℕ → Bool
is_plain byte = nat_lt byte 128 && not (byte == 37) && not (byte == 43)

-- the value of the first pair that has the name
abbrev pub value_named : List Pair → List ℕ → Option (List ℕ)
value_named pairs name = option_map (λ pair. pair.1) (find (λ pair. bytes_eq pair.0 name) pairs)

-- the value of a parameter
abbrev pub value_of : List Pair → Parameter → Option (List ℕ)
value_of pairs parameter = value_named pairs (parameter_name parameter)

-- what a form reads a value as, where the value is in it
abbrev pub Form : Type 0 → Type 0
Form A = List ℕ → Option A

-- a parameter that has to be there, in its form; else it is named
abbrev pub required : {A : Type 0} → Form A → List Pair → Parameter → Result A Parameter
required form pairs parameter = ok_or (option_and_then form (value_of pairs parameter)) parameter

-- a value that may be absent; where it is there and not in its form its parameter is named
abbrev pub optional_by : {A : Type 0} → Form A → Option (List ℕ) → Parameter → Result (Option A) Parameter
optional_by form None parameter = Ok None
optional_by form (Some value) parameter = ok_or (option_map (λ x. Some x) (form value)) parameter

-- a parameter that may be absent
abbrev pub optional : {A : Type 0} → Form A → List Pair → Parameter → Result (Option A) Parameter
optional form pairs parameter = optional_by form (value_of pairs parameter) parameter

-- a parameter that is empty where it is absent
abbrev pub or_empty : {A : Type 0} → Form A → List Pair → Parameter → Result A Parameter
or_empty form pairs parameter = ok_or (form (unwrap_or (value_of pairs parameter) [])) parameter

-- a text that isn't empty, within the limit
unfoldable pub text_of : Form (List ℕ)
text_of text = if nat_le 1 (length text) && nat_le (length text) text_limit then Some text else None

-- a text within the limit, which may be empty
unfoldable pub short_text_of : Form (List ℕ)
short_text_of text = if nat_le (length text) text_limit then Some text else None

-- the id of one of the 92 countries
unfoldable pub country_of : Form ℕ
country_of digits = option_and_then (λ id. if nat_le 1 id && nat_le id 92 then Some id else None) (number_of digits)

-- a cost in cents
unfoldable pub cost_of : Form ℕ
cost_of digits = option_and_then (λ cost. if nat_le 1 cost && nat_le cost price_limit then Some cost else None) (number_of digits)

-- a number between two others, or one of them
unfoldable pub number_between : ℕ → ℕ → Form ℕ
number_between least most digits =
    option_and_then (λ number. if nat_le least number && nat_le number most then Some number else None) (number_of digits)

-- the units in stock that an item is added with, and its pages
abbrev pub stock_of : Form ℕ
stock_of = number_between least_stock added_stock_limit

abbrev pub pages_of : Form ℕ
pages_of = number_between 1 pages_limit

-- the number of a card
unfoldable pub card_number_of : Form (List ℕ)
card_number_of number = if is_card_number number then Some number else None

-- the month in which one expires
unfoldable pub month_of : Form (List ℕ)
month_of month = if is_month month then Some month else None
