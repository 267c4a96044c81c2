-- The web interactions that are served: those of the TPC-W specification, and Admin Add, which is this project's own
-- as the paths are.
use Rattle.std.specs.Prelude.{ℕ, List, [], ◌∷◌, codes, Option}
use Rattle.std.specs.List.{find}
use Rattle.std.specs.Option.{option_map}
use Rattle.std.specs.Str.{bytes_eq}
use Rattle.shop_model.specs.declared.requests.Interaction.{Interaction}
use Rattle.shop_model.specs.declared.requests.Interaction.TheVariants.{Home, NewProducts, BestSellers, ProductDetail, SearchRequest, SearchResults, ShoppingCart, CustomerRegistration, BuyRequest, BuyConfirm, OrderInquiry, OrderDisplay, AdminRequest, AdminConfirm, AdminAdd}

-- the path of each
abbrev pub path_of : Interaction → List ℕ
path_of Home = codes "/home"
path_of NewProducts = codes "/new_products"
path_of BestSellers = codes "/best_sellers"
path_of ProductDetail = codes "/product_detail"
path_of SearchRequest = codes "/search_request"
path_of SearchResults = codes "/search_results"
path_of ShoppingCart = codes "/shopping_cart"
path_of CustomerRegistration = codes "/customer_registration"
path_of BuyRequest = codes "/buy_request"
path_of BuyConfirm = codes "/buy_confirm"
path_of OrderInquiry = codes "/order_inquiry"
path_of OrderDisplay = codes "/order_display"
path_of AdminRequest = codes "/admin_request"
path_of AdminConfirm = codes "/admin_confirm"
path_of AdminAdd = codes "/admin_add"

-- all paths, each with its interaction: by their bytes, but that `/` stands last
abbrev pub paths : List (List ℕ × Interaction)
paths =
    (path_of AdminAdd, AdminAdd)
    ∷ (path_of AdminConfirm, AdminConfirm)
    ∷ (path_of AdminRequest, AdminRequest)
    ∷ (path_of BestSellers, BestSellers)
    ∷ (path_of BuyConfirm, BuyConfirm)
    ∷ (path_of BuyRequest, BuyRequest)
    ∷ (path_of CustomerRegistration, CustomerRegistration)
    ∷ (path_of Home, Home)
    ∷ (path_of NewProducts, NewProducts)
    ∷ (path_of OrderDisplay, OrderDisplay)
    ∷ (path_of OrderInquiry, OrderInquiry)
    ∷ (path_of ProductDetail, ProductDetail)
    ∷ (path_of SearchRequest, SearchRequest)
    ∷ (path_of SearchResults, SearchResults)
    ∷ (path_of ShoppingCart, ShoppingCart)
    ∷ (codes "/", Home)
    ∷ []

-- the interaction of a path, which is compared byte for byte
unfoldable pub interaction_of : List ℕ → Option Interaction
interaction_of path = option_map (λ row. row.1) (find (λ row. bytes_eq path row.0) paths)
