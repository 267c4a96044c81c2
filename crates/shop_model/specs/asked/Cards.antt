-- The forms in which a payment card is named; this project's own.
use Rattle.std.specs.Prelude.{ℕ, ◌&&◌, ◌==◌, Bool, false, nat_le, List, length, take, drop, get_or, Option, Some, None, IsTrue}
use Rattle.std.specs.List.{list_all}
use Rattle.std.specs.Char.{is_ascii_digit}
use Rattle.shop_text.specs.Numbers.{number_of}

-- 12 to 19 digits
unfoldable pub is_card_number : List ℕ → Bool
is_card_number number = nat_le 12 (length number) && nat_le (length number) 19 && list_all is_ascii_digit number

abbrev pub IsCardNumber : List ℕ → Type 0
IsCardNumber number = IsTrue (is_card_number number)

-- 1 to 12
abbrev pub is_month_number : Option ℕ → Bool
is_month_number None = false
is_month_number (Some number) = nat_le 1 number && nat_le number 12

-- a month as `YYYY-MM`: four digits, a hyphen, whose code is 45, and 01 to 12
unfoldable pub is_month : List ℕ → Bool
is_month text =
    length text == 7 && list_all is_ascii_digit (take 4 text) && get_or text 4 0 == 45 && is_month_number (number_of (drop 5 text))

abbrev pub IsMonth : List ℕ → Type 0
IsMonth text = IsTrue (is_month text)
