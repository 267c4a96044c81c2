-- What a buffer of bytes holds, and how far it was searched for the end of a head.
use Rattle.std.specs.Prelude.{◌≡◌, ℕ, ◌+◌, ◌≤◌, ◌⊎◌, List, [], ◌∷◌, ◌++◌, length, take, drop, Option, Some, None}
use Rattle.std.specs.Option.{option_map}
use Rattle.httparse.specs.declared.spans.HeaderSpan.{HeaderSpan}
use Rattle.shop_message.specs.declared.buffer.Prefix.{Prefix}
use Rattle.shop_message.specs.declared.buffer.Search.{Search}
use Rattle.shop_message.specs.declared.buffer.Search.TheVariants.{Found, Open}
use Rattle.shop_message.specs.Messages.{head_len, line_feeds}

-- the bytes from a start to an end
abbrev pub unserved : List ℕ → ℕ → ℕ → List ℕ
unserved bytes start end = drop start (take end bytes)

-- a prefix of the bytes, with its line feeds, behind which a head ends, whatever comes behind the bytes
pub record IsSearched (bytes : List ℕ) (prefix : Prefix) : Type 0 where
  pub within : prefix.len ≤ length bytes
  pub lines : prefix.lines ≡ line_feeds (take prefix.len bytes)
  pub behind : (more : List ℕ) → head_len (bytes ++ more) ≡ option_map (λ n. prefix.len + n) (head_len (drop prefix.len (bytes ++ more)))

-- the bytes begin with a whole head, and this is it
pub record HasHead (bytes : List ℕ) (head : Prefix) : Type 0 where
  pub at : head_len bytes ≡ Some head.len
  pub lines : head.lines ≡ line_feeds (take head.len bytes)

-- the whole head that the bytes begin with, if there is one
abbrev pub HasHeadOrNone : List ℕ → Option Prefix → Type 0
HasHeadOrNone bytes (Some head) = HasHead bytes head
HasHeadOrNone bytes None = head_len bytes ≡ None

-- what a search comes to: the head, or how far there is none
abbrev pub IsSearch : List ℕ → Search → Type 0
IsSearch bytes (Found head) = HasHead bytes head
IsSearch bytes (Open searched) = IsSearched bytes searched × (head_len bytes ≡ None)

-- nothing, or CR alone: the beginning of an empty line
abbrev pub IsOpenLine : List ℕ → Type 0
IsOpenLine bytes = (bytes ≡ []) ⊎ (bytes ≡ 13 ∷ [])

-- a buffer holds the bytes from a start to an end, of which a prefix was searched, and has room for the longest message
-- and for 64 fields
pub record IsBuffer (bytes : List ℕ) (start end : ℕ) (prefix : Prefix) (fields : List HeaderSpan) : Type 0 where
  pub size : 32_768 ≤ length bytes
  pub order : start ≤ end
  pub within : end ≤ length bytes
  pub searched : IsSearched (unserved bytes start end) prefix
  pub room : length fields ≡ 64
