-- What a search is for, and its bounds.
use Rattle.std.specs.Prelude.{ℕ, ◌<◌, ◌≤◌, List, length}
use Rattle.shop_model.specs.rows.Limits.{text_limit}
use Rattle.shop_model.specs.declared.requests.IdsAsked.{IdsAsked}
use Rattle.shop_model.specs.declared.requests.SearchKind.{SearchKind}

-- a text, and what it is compared with
pub record SearchAsked : Type 0 where
  pub kind : SearchKind
  pub text : List ℕ
  pub ids : IdsAsked

-- the text is not empty, and short
pub record IsSearchAsked (asked : SearchAsked) : Type 0 where
  pub some : 0 < length asked.text
  pub short : length asked.text ≤ text_limit
