use Rattle.std.specs.Prelude.{◌≡◌, ℕ, ◌+◌, List, [], ◌∷◌}
use Rattle.shop_model.specs.population.Words.{Drawing, to_come}
use Rattle.shop_browsers.specs.declared.browser.Browser.TheInside.{Inside}
use Rattle.shop_browsers.specs.Browsers.{BrowserState, word_at}

abbrev pub state_of : Inside → BrowserState
state_of i = record {
  seed = i.seed;
  number = i.number;
  mix = i.mix;
  scale = i.scale;
  step = i.step;
  customer = i.customer;
  cart = i.cart;
  asked = i.asked;
}

-- the words of its step are drawn, and those of its later steps are to come
pub record AreDrawn (b : BrowserState) (drawn : List ℕ) (words : Drawing) : Type 0 where
  pub now : drawn ≡ word_at b 0 ∷ word_at b 1 ∷ word_at b 2 ∷ word_at b 3 ∷ []
  pub later : (k : ℕ) → to_come words k ≡ word_at b (4 + k)
