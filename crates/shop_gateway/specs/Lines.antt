-- The lines between a shop and its payment gateway; this project's own.
use Rattle.std.specs.Prelude.{◌≡◌, ◌≢◌, ℕ, ◌+◌, ◌<◌, ◌≤◌, List, [], ◌∷◌, ◌++◌, length, take, drop, Option}
use Rattle.std.specs.List.{All}
use Rattle.std.specs.Io.KnownBytes.{Consumes, IsAtEnd}

-- the most bytes of a line before its line feed
abbrev pub LINE_LIMIT : ℕ
LINE_LIMIT = 200

-- no line feed is among the bytes
abbrev pub HasNoFeed : List ℕ → Type 0
HasNoFeed bytes = All (λ byte. byte ≢ 10) bytes

-- the bytes begin with this line and its line feed, and this rest follows them
pub record IsLine (bytes line rest : List ℕ) : Type 0 where
  pub is : bytes ≡ line ++ 10 ∷ rest
  pub whole : HasNoFeed line
  pub short : length line ≤ LINE_LIMIT

-- a line that may become whole, or nothing
pub record IsOpen (bytes : List ℕ) : Type 0 where
  pub open_end : HasNoFeed bytes
  pub short : length bytes ≤ LINE_LIMIT

-- the bytes begin with a line that is too long
pub record IsLong (bytes : List ℕ) : Type 0 where
  pub long : LINE_LIMIT < length bytes
  pub none : HasNoFeed (take (LINE_LIMIT + 1) bytes)

-- the bytes begin with these lines, in order, and this rest follows them
abbrev pub Lines : List ℕ → List (List ℕ) → List ℕ → Type 0
Lines bytes [] rest = rest ≡ bytes
Lines bytes (line ∷ lines) rest = (after : List ℕ) × IsLine bytes line after × Lines after lines rest

-- ---- how they are read

-- a source gave a piece, which came behind the bytes that were held
pub record Gathers (left left' : Option (List ℕ)) (before after : List ℕ) : Type 0 where
  pub piece : List ℕ
  pub taken : Consumes left left' piece
  pub is : after ≡ before ++ piece

-- so many bytes at the front are a line, and its line feed follows them
pub record HasLine (bytes : List ℕ) (len : ℕ) : Type 0 where
  pub line : IsLine bytes (take len bytes) (drop (len + 1) bytes)
  pub within : len < length bytes

-- the source has ended, inside a line of the bytes or behind the last one
pub record EndsOpen (left : Option (List ℕ)) (bytes : List ℕ) : Type 0 where
  pub ended : IsAtEnd left
  pub part : IsOpen bytes
