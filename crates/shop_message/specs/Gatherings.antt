-- The bytes that were given in pieces.
use Rattle.std.specs.Prelude.{ℕ, ◌<◌, ◌≤◌, Bool, List, ◌++◌, length}
use Rattle.shop_message.specs.Messages.{IsUnready, StandsFor}

-- those that are not taken yet, and whether no more come
pub record Gathering : Type 0 where
  pub held : List ℕ
  pub ended : Bool

-- fewer bytes than these, which begin with those that are held, are no message yet
pub record Awaits (held : List ℕ) (wanted : ℕ) : Type 0 where
  pub few : wanted ≤ 32_768
  pub part : (piece : List ℕ) → length (held ++ piece) < wanted → IsUnready (held ++ piece)

-- there is no message yet: but for line ends, what is held now is what was held, and it is nothing, or a part of one
pub record Waits (before after : List ℕ) : Type 0 where
  pub short : length after < 32_768
  pub unready : IsUnready after
  pub same : StandsFor before after
