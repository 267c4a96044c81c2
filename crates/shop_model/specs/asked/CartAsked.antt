-- What a request for the shopping cart asks for, and its bounds.
use Rattle.std.specs.Prelude.{ℕ, ◌≤◌, List, length, All, Option, IfSome}
use Rattle.shop_model.specs.rows.Limits.{quantity_limit, sets_limit}
use Rattle.shop_model.specs.declared.requests.IdsAsked.{IdsAsked}
use Rattle.shop_model.specs.asked.CustomersAsked.{IsId, IsIdsAsked}

-- an item of which one more unit is to come, and pairs of an item and the quantity that it is to have
pub record CartAsked : Type 0 where
  pub item : Option ℕ
  pub sets : List (ℕ × ℕ)
  pub ids : IdsAsked

-- ids, few pairs, and no quantity that a line can't have
pub record IsCartAsked (asked : CartAsked) : Type 0 where
  pub item : IfSome asked.item IsId
  pub few : length asked.sets ≤ sets_limit
  pub sets : All (λ set. IsId set.0 × (set.1 ≤ quantity_limit)) asked.sets
  pub ids : IsIdsAsked asked.ids
