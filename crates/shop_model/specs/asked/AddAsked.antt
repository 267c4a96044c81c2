-- What a new item is asked for by, and the forms of it.
use Rattle.std.specs.Prelude.{ℕ, ◌≤◌, List}
use Rattle.shop_model.specs.declared.backing.Backing.{Backing}
use Rattle.shop_model.specs.declared.requests.IdsAsked.{IdsAsked}
use Rattle.shop_model.specs.declared.subject.Subject.{Subject}
use Rattle.shop_model.specs.asked.AdminAsked.{IsCost}
use Rattle.shop_model.specs.asked.CustomersAsked.{IsId, IsIdsAsked, IsFilled}
use Rattle.shop_model.specs.rows.Limits.{added_stock_limit, pages_limit}
use Rattle.shop_model.specs.trade.Stocks.{least_stock}

-- a number between two others, or one of them
pub record IsBetween (least most number : ℕ) : Type 0 where
  pub low : least ≤ number
  pub high : number ≤ most

-- what is said of an item, and the id of its author
pub record AddAsked : Type 0 where
  pub title : List ℕ
  pub author : ℕ
  pub subject : Subject
  pub publisher : List ℕ
  pub about : List ℕ
  pub image : List ℕ
  pub thumb : List ℕ
  pub srp : ℕ
  pub cost : ℕ
  pub stock : ℕ
  pub pages : ℕ
  pub backing : Backing
  pub ids : IdsAsked

pub record IsAddAsked (asked : AddAsked) : Type 0 where
  pub title : IsFilled asked.title
  pub author : IsId asked.author
  pub publisher : IsFilled asked.publisher
  pub about : IsFilled asked.about
  pub image : IsFilled asked.image
  pub thumb : IsFilled asked.thumb
  pub srp : IsCost asked.srp
  pub cost : IsCost asked.cost
  pub stock : IsBetween least_stock added_stock_limit asked.stock
  pub pages : IsBetween 1 pages_limit asked.pages
  pub ids : IsIdsAsked asked.ids
