-- What reading up to the next line comes to.
use Rattle.std.specs.Prelude.{◌≡◌, ℕ, ◌+◌, ◌*◌, ◌<◌, ◌≤◌, List, [], length, drop, take, Option}
use Rattle.std.specs.Io.KnownBytes.{Keeps, Consumes, IsAtEnd}
use Rattle.shop_edges.specs.declared.source.Got.{Got}
use Rattle.shop_edges.specs.declared.source.Got.TheVariants as got
use Rattle.shop_gateway.specs.declared.line_reader.Front.{Front}
use Rattle.shop_gateway.specs.declared.line_reader.Front.TheVariants as front
use Rattle.shop_gateway.specs.declared.line_reader.NextLine.{NextLine}
use Rattle.shop_gateway.specs.declared.line_reader.NextLine.TheVariants as next
use Rattle.shop_gateway.specs.Lines.{IsOpen, IsLong, HasLine, EndsOpen, Gathers}

-- the bytes from a start to an end
abbrev pub unread : List ℕ → ℕ → ℕ → List ℕ
unread bytes start end = drop start (take end bytes)

-- a reader holds the bytes from a start to an end
pub record IsReader (bytes : List ℕ) (start end : ℕ) : Type 0 where
  pub order : start ≤ end
  pub within : end ≤ length bytes

-- what stands at the front of the bytes
abbrev pub IsFront : List ℕ → Front → Type 0
IsFront bytes (front.Whole len) = HasLine bytes len
IsFront bytes front.Long = IsLong bytes
IsFront bytes front.Open = IsOpen bytes

-- a piece comes behind the bytes, or the source has ended, or it failed
abbrev pub IsFilled : Option (List ℕ) → Option (List ℕ) → List ℕ → List ℕ → Got → Type 0
IsFilled left left' before after (got.Bytes n) = Gathers left left' before after
IsFilled left left' before after got.End = Consumes left left' [] × IsAtEnd left' × (after ≡ before)
IsFilled left left' before after got.Failed = Keeps left left' × (after ≡ before)

-- what the bytes come to where reading stops
abbrev pub IsStop : Option (List ℕ) → List ℕ → NextLine → Type 0
IsStop left bytes (next.Whole len) = HasLine bytes len
IsStop left bytes next.End = IsAtEnd left × (bytes ≡ [])
IsStop left bytes next.Cut = EndsOpen left bytes × (0 < length bytes)
IsStop left bytes next.TooLong = IsLong bytes
IsStop left bytes next.Failed = IsOpen bytes

-- a bound of the reads and lines that are left: each read that gives bytes lowers it, and each line that is passed
abbrev pub weight : ℕ → List ℕ → ℕ
weight reads bytes = 513 * reads + length bytes
