-- How often a browser asks for each interaction. The mixes are named after those of the TPC-W specification;
-- their weights are this project's own.
use Rattle.std.specs.Prelude.{ℕ, ◌-◌, ◌%◌, nat_lt, List, [], ◌∷◌, if◌then◌else◌}
use Rattle.std.specs.List.{zip}
use Rattle.shop_model.specs.declared.requests.Interaction.{Interaction}
use Rattle.shop_model.specs.declared.requests.Interaction.TheVariants.{Home, NewProducts, BestSellers, ProductDetail, SearchRequest, SearchResults, ShoppingCart, CustomerRegistration, BuyRequest, BuyConfirm, OrderInquiry, OrderDisplay, AdminRequest, AdminConfirm}
use Rattle.shop_browsers.specs.declared.mix.Mix.{Mix}
use Rattle.shop_browsers.specs.declared.mix.Mix.TheVariants.{Browsing, Shopping, Ordering}

-- the interactions in the order of the weights
unfoldable pub interactions : List Interaction
interactions =
    Home ∷ NewProducts ∷ BestSellers ∷ ProductDetail ∷ SearchRequest ∷ SearchResults ∷ ShoppingCart ∷
    CustomerRegistration ∷ BuyRequest ∷ BuyConfirm ∷ OrderInquiry ∷ OrderDisplay ∷ AdminRequest ∷ AdminConfirm ∷ []

-- their weights in hundredths of a per cent
unfoldable pub weights_of : Mix → List ℕ
weights_of Browsing =
    2900 ∷ 1100 ∷ 1100 ∷ 2100 ∷ 1200 ∷ 1100 ∷ 200 ∷ 82 ∷ 75 ∷ 69 ∷ 30 ∷ 25 ∷ 10 ∷ 9 ∷ []
weights_of Shopping =
    1600 ∷ 500 ∷ 500 ∷ 1700 ∷ 2000 ∷ 1700 ∷ 1160 ∷ 300 ∷ 260 ∷ 120 ∷ 75 ∷ 66 ∷ 10 ∷ 9 ∷ []
weights_of Ordering =
    912 ∷ 46 ∷ 46 ∷ 1235 ∷ 1453 ∷ 1308 ∷ 1353 ∷ 1286 ∷ 1273 ∷ 1018 ∷ 25 ∷ 22 ∷ 12 ∷ 11 ∷ []

-- each interaction with its weight
abbrev pub shares_of : Mix → List (Interaction × ℕ)
shares_of mix = zip interactions (weights_of mix)

-- the interaction in whose share a number falls, where the shares lie one behind another
unfoldable pub share_at : List (Interaction × ℕ) → ℕ → Interaction
share_at [] number = Home
share_at (share ∷ shares) number = if nat_lt number share.1 then share.0 else share_at shares (number - share.1)

-- what a drawn word picks
abbrev pub picked : Mix → ℕ → Interaction
picked mix word = share_at (shares_of mix) (word % 10_000)
