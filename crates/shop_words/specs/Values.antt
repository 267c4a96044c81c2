-- The values of options, this project's own.
use Rattle.std.specs.Prelude.{◌≢◌, ◌≤◌, ℕ, ◌&&◌, ◌||◌, ◌==◌, nat_le, Bool, List, Option, Some, None, if◌then◌else◌, codes, length, slice_index}
use Rattle.std.specs.List.{before_first, after_first}
use Rattle.std.specs.Str.{bytes_eq, IsUtf8}
use Rattle.shop_text.specs.Numbers.{number_of}
use Rattle.shop_model.specs.population.Scales.{ScaleRow, desk, larger}
use Rattle.shop_browsers.specs.declared.mix.Mix.{Mix}
use Rattle.shop_browsers.specs.declared.mix.Mix.TheVariants.{Browsing, Shopping, Ordering}

-- the scale of so many items, for so many emulated browsers: 1,000 or 10,000, for 1 to 10
unfoldable pub larger_of : ℕ → ℕ → Option ScaleRow
larger_of items ebs = if (items == 1000 || items == 10_000) && nat_le 1 ebs && nat_le ebs 10 then Some (larger items ebs) else None

abbrev pub larger_of_both : Option ℕ → Option ℕ → Option ScaleRow
larger_of_both (Some items) (Some ebs) = larger_of items ebs
larger_of_both _ _ = None

-- an `x`
abbrev pub is_x : ℕ → Bool
is_x byte = byte == 120

-- the scale with this name: `desk`, or the two numbers of a larger one with an `x` between them
unfoldable pub scale_of : List ℕ → Option ScaleRow
scale_of text =
    if bytes_eq text (codes "desk") then Some desk
    else larger_of_both (number_of (before_first is_x text)) (number_of (after_first is_x text))

-- the number, if it is one of these
abbrev pub within : ℕ → ℕ → Option ℕ → Option ℕ
within low high None = None
within low high (Some number) = if nat_le low number && nat_le number high then Some number else None

-- how many browsers there are: 1 to 64
abbrev pub browsers_of : List ℕ → Option ℕ
browsers_of text = within 1 64 (number_of text)

-- how many workers or lanes there are: 1 to 16
abbrev pub workers_of : List ℕ → Option ℕ
workers_of text = within 1 16 (number_of text)

-- how many connections are served: 1 to 1,000,000
abbrev pub connections_of : List ℕ → Option ℕ
connections_of text = within 1 1_000_000 (number_of text)

-- a port: 1 to 65,535
abbrev pub port_of : List ℕ → Option ℕ
port_of text = within 1 65_535 (number_of text)

-- the port of a gateway, or 0 for none: 0 to 65,535
abbrev pub gateway_of : List ℕ → Option ℕ
gateway_of text = within 0 65_535 (number_of text)

-- how many changes the log may hold: 1 to 1,000,000
abbrev pub limit_of : List ℕ → Option ℕ
limit_of text = within 1 1_000_000 (number_of text)

-- how many steps each makes: 1 to 100,000
abbrev pub steps_of : List ℕ → Option ℕ
steps_of text = within 1 100_000 (number_of text)

-- the mix with this name
unfoldable pub mix_of : List ℕ → Option Mix
mix_of text =
    if bytes_eq text (codes "browsing") then Some Browsing else
    (if bytes_eq text (codes "shopping") then Some Shopping else
    (if bytes_eq text (codes "ordering") then Some Ordering else None))

-- the name of a file: text of 1 to 100 bytes that can't be taken for an option
pub record IsFileName (name : List ℕ) : Type 0 where
  pub utf8 : IsUtf8 name
  pub some : 1 ≤ length name
  pub few : length name ≤ 100
  pub no_hyphen : slice_index name 0 ≢ 45
