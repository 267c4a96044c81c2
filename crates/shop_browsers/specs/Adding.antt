-- Parameters that were added to a target.
use Rattle.std.specs.Prelude.{◌≡◌, ℕ, List, [], ◌++◌, Option, Some, None, decimal}
use Rattle.shop_model.specs.declared.page.Field.{Field}
use Rattle.shop_model.specs.pages.Targets.{pairs}

-- an id with what stands before it, where there is one
abbrev pub id_text : List ℕ → Option ℕ → List ℕ
id_text front None = []
id_text front (Some id) = front ++ decimal id

-- these parameters came to a text, the first behind a sign, and behind the next sign there may come more
pub record Adds (before : List ℕ) (sign : List ℕ) (fields : List Field) (after : List ℕ) (next : List ℕ) : Type 0 where
  pub behind : (more : List Field) → after ++ pairs next more ≡ before ++ pairs sign (fields ++ more)

-- these parameters came, and no more
abbrev pub AddsLast : List ℕ → List ℕ → List Field → List ℕ → Type 0
AddsLast before sign fields after = after ≡ before ++ pairs sign fields
