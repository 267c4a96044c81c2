-- Emulated browsers, after the TPC-W specification; what they draw is this project's own.
use Rattle.std.specs.Prelude.{ℕ, ◌+◌, ◌-◌, ◌*◌, ◌^◌, min, Option, Some, None}
use Rattle.shop_model.specs.declared.requests.Interaction.{Interaction}
use Rattle.shop_model.specs.declared.requests.Interaction.TheVariants.{ShoppingCart, BuyRequest, BuyConfirm}
use Rattle.shop_model.specs.population.Scales.{ScaleRow}
use Rattle.shop_model.specs.population.Words.{word}
use Rattle.shop_browsers.specs.declared.mix.Mix.{Mix}
use Rattle.shop_browsers.specs.Mixes.{picked}

-- a browser: what it was made with, how many requests it made, the ids that it has, and what it asked for last
pub record BrowserState : Type 0 where
  pub seed : ℕ
  pub number : ℕ
  pub mix : Mix
  pub scale : ScaleRow
  pub step : ℕ
  pub customer : Option ℕ
  pub cart : Option ℕ
  pub asked : Option Interaction

-- one that made no request yet
abbrev pub new_browser : ℕ → ℕ → Mix → ScaleRow → BrowserState
new_browser seed number mix scale = record {
  seed = seed;
  number = number;
  mix = mix;
  scale = scale;
  step = 0;
  customer = None;
  cart = None;
  asked = None;
}

-- word k, from 0, of the four that it draws at its step; table 17 has the words of browsers
abbrev pub word_at : BrowserState → ℕ → ℕ
word_at b k = word b.seed b.scale 17 b.number (4 * b.step + k)

-- who buys is a known customer, or else becomes one
abbrev pub as_customer : Option ℕ → Interaction → Interaction
as_customer None BuyConfirm = BuyRequest
as_customer customer interaction = interaction

-- who buys has a cart, or else gets one
abbrev pub with_cart : Option ℕ → Interaction → Interaction
with_cart None BuyRequest = ShoppingCart
with_cart None BuyConfirm = ShoppingCart
with_cart cart interaction = interaction

-- what it asks for next
abbrev pub meant : BrowserState → Interaction
meant b = with_cart b.cart (as_customer b.customer (picked b.mix (word_at b 0)))

-- the largest step that is counted
abbrev pub step_limit : ℕ
step_limit = 2 ^ 64 - 1

-- the browser once it asked; at the limit its step stays
abbrev pub after_request : BrowserState → BrowserState
after_request b = record b { step = min (b.step + 1) step_limit; asked = Some (meant b) }
