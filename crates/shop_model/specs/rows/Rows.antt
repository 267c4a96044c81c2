-- What contracts see of the rows that have bounds, and these bounds.
use Rattle.std.specs.Prelude.{ℕ, ◌+◌, ◌≤◌, List, All}
use Rattle.shop_model.specs.rows.Limits.{discount_limit, rate_limit, charged_rate_limit, price_limit, quantity_limit, stock_limit, restocks_limit, day_limit, stamp_limit, session_time}
use Rattle.shop_model.specs.declared.subject.Subject.{Subject}
use Rattle.shop_model.specs.declared.backing.Backing.{Backing}
use Rattle.shop_model.specs.declared.card_type.CardType.{CardType}
use Rattle.shop_model.specs.declared.ship_type.ShipType.{ShipType}
use Rattle.shop_model.specs.declared.order_state.OrderState.{OrderState}

-- a country, with the rate of its tax
pub record CountryRow : Type 0 where
  pub id : ℕ
  pub name : List ℕ
  pub rate : ℕ

pub record IsCountry (row : CountryRow) : Type 0 where
  pub rate : row.rate ≤ rate_limit

-- a customer
pub record CustomerRow : Type 0 where
  pub id : ℕ
  pub user : List ℕ
  pub password : List ℕ
  pub first : List ℕ
  pub last : List ℕ
  pub address : ℕ
  pub discount : ℕ
  pub phone : List ℕ
  pub email : List ℕ
  pub login : ℕ
  pub expiry : ℕ

pub record IsCustomer (row : CustomerRow) : Type 0 where
  pub discount : row.discount ≤ discount_limit
  pub login : row.login ≤ stamp_limit
  pub expiry : row.expiry ≤ stamp_limit + session_time

-- a book
pub record ItemRow : Type 0 where
  pub id : ℕ
  pub title : List ℕ
  pub author : ℕ
  pub subject : Subject
  pub published : ℕ
  pub publisher : List ℕ
  pub about : List ℕ
  pub related : List ℕ
  pub thumb : List ℕ
  pub image : List ℕ
  pub srp : ℕ
  pub cost : ℕ
  pub stock : ℕ
  pub restocks : ℕ
  pub first_stock : ℕ
  pub pages : ℕ
  pub backing : Backing

pub record IsItem (row : ItemRow) : Type 0 where
  pub published : row.published ≤ day_limit
  pub srp : row.srp ≤ price_limit
  pub cost : row.cost ≤ price_limit
  pub stock : row.stock ≤ stock_limit
  pub first_stock : row.first_stock ≤ stock_limit
  pub restocks : row.restocks ≤ restocks_limit

-- a line of an order
pub record LineRow : Type 0 where
  pub number : ℕ
  pub item : ℕ
  pub quantity : ℕ
  pub cost : ℕ

pub record IsLine (row : LineRow) : Type 0 where
  pub quantity : row.quantity ≤ quantity_limit
  pub cost : row.cost ≤ price_limit

-- a payment by card; `auth` has the codes of the authorisation's digits
pub record CardUseRow : Type 0 where
  pub card : CardType
  pub number : List ℕ
  pub name : List ℕ
  pub expiry : List ℕ
  pub auth : List ℕ
  pub total : ℕ
  pub stamp : ℕ
  pub country : ℕ

pub record IsCardUse (row : CardUseRow) : Type 0 where
  pub stamp : row.stamp ≤ stamp_limit

-- an order with its lines and its payment
pub record OrderRow : Type 0 where
  pub id : ℕ
  pub customer : ℕ
  pub placed : ℕ
  pub discount : ℕ
  pub rate : ℕ
  pub sub : ℕ
  pub tax : ℕ
  pub ship : ℕ
  pub total : ℕ
  pub ship_type : ShipType
  pub ship_day : ℕ
  pub ship_address : ℕ
  pub status : OrderState
  pub lines : List LineRow
  pub card : CardUseRow

pub record IsOrder (row : OrderRow) : Type 0 where
  pub placed : row.placed ≤ stamp_limit
  pub discount : row.discount ≤ discount_limit
  pub rate : row.rate ≤ charged_rate_limit
  pub ship_day : row.ship_day ≤ day_limit

-- a cart, whose lines are pairs of an item and a quantity
pub record CartRow : Type 0 where
  pub id : ℕ
  pub lines : List (ℕ × ℕ)

pub record IsCart (row : CartRow) : Type 0 where
  pub quantities : All (λ line. line.1 ≤ quantity_limit) row.lines
