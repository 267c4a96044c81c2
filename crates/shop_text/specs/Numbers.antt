-- Numbers as they stand in requests and in words, this project's own.
use Rattle.std.specs.Prelude.{ℕ, ◌&&◌, nat_le, List, length, Option, Some, None, if◌then◌else◌}
use Rattle.std.specs.List.{list_all}
use Rattle.std.specs.Char.{is_ascii_digit}
use Rattle.std.specs.Str.Parse.{digits_value}

-- the number that 1 to 10 digits write, where it is below 2 ^ 32
unfoldable pub number_of : List ℕ → Option ℕ
number_of digits =
    if nat_le 1 (length digits) && nat_le (length digits) 10 && list_all is_ascii_digit digits && nat_le (digits_value 10 digits) 4_294_967_295
    then Some (digits_value 10 digits) else None
