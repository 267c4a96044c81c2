-- How the number of a card is kept; this project's own.
use Rattle.std.specs.Prelude.{ℕ, ◌≡◌, ◌≤◌, ◌-◌, List, length, take, drop, replicate}
use Rattle.shop_model.specs.declared.cards.CardNumber.TheInside.{Inside}
use Rattle.shop_model.specs.asked.Cards.{IsCardNumber}

abbrev pub digits_of : Inside → List ℕ
digits_of i = take i.len i.digits

-- the digits are a card's number, with zeros behind them
pub record IsKept (i : Inside) : Type 0 where
  pub size : length i.digits ≡ 19
  pub within : i.len ≤ 19
  pub number : IsCardNumber (digits_of i)
  pub zeros : drop i.len i.digits ≡ replicate (19 - i.len) 0
