-- What the change of an item is asked for by, and the forms of it.
use Rattle.std.specs.Prelude.{ℕ, ◌≤◌, List}
use Rattle.shop_model.specs.declared.requests.IdsAsked.{IdsAsked}
use Rattle.shop_model.specs.asked.CustomersAsked.{IsId, IsIdsAsked, IsFilled}
use Rattle.shop_model.specs.rows.Limits.{price_limit}

-- a cost in cents that may be asked for
pub record IsCost (cost : ℕ) : Type 0 where
  pub some : 1 ≤ cost
  pub low : cost ≤ price_limit

-- an item, what it is to cost, and the links to its pictures
pub record AdminAsked : Type 0 where
  pub item : ℕ
  pub cost : ℕ
  pub image : List ℕ
  pub thumb : List ℕ
  pub ids : IdsAsked

pub record IsAdminAsked (asked : AdminAsked) : Type 0 where
  pub item : IsId asked.item
  pub cost : IsCost asked.cost
  pub image : IsFilled asked.image
  pub thumb : IsFilled asked.thumb
  pub ids : IsIdsAsked asked.ids
