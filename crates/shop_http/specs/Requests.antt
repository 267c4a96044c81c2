-- What a message asks for. The paths and the parameters are this project's own.
use Rattle.std.specs.Prelude.{ℕ, ◌==◌, ◌||◌, ◌++◌, List, [], codes, Option, Some, None, is_some, unwrap_or, Result, Ok, Err, if◌then◌else◌}
use Rattle.std.specs.List.{before_first, after_first}
use Rattle.std.specs.Option.{ok_or}
use Rattle.std.specs.Result.{result_map_both}
use Rattle.std.specs.Str.{bytes_eq}
use Rattle.shop_model.specs.declared.requests.Interaction.{Interaction}
use Rattle.shop_model.specs.declared.requests.Interaction.TheVariants as interaction
use Rattle.shop_model.specs.declared.parameter.Parameter.{Parameter}
use Rattle.shop_model.specs.declared.parameter.Parameter.TheVariants.{C, Cart, Item, Qty, Subject, Kind, Text, User, Pass, FirstName, LastName, Street1, Street2, City, State, Zip, Country, Phone, Email, Card, Number, Name, Expiry, Ship, Cost, Image, Thumb, Title, Author, Publisher, About, Srp, Stock, Pages, Backing}
use Rattle.shop_model.specs.declared.address.AddressText.{AddressText}
use Rattle.shop_model.specs.declared.buying.Buyer.{Buyer}
use Rattle.shop_model.specs.declared.buying.Buyer.TheVariants as buyer
use Rattle.shop_model.specs.declared.ship_type.ShipType.{ShipType}
use Rattle.shop_model.specs.asked.AddAsked.{AddAsked}
use Rattle.shop_model.specs.asked.AdminAsked.{AdminAsked}
use Rattle.shop_model.specs.declared.ship_type.ShipType.TheVariants.{Mail}
use Rattle.shop_model.specs.declared.requests.IdsAsked.{IdsAsked}
use Rattle.shop_model.specs.declared.requests.Request.{Request}
use Rattle.shop_model.specs.declared.requests.Request.TheVariants as request
use Rattle.shop_model.specs.asked.CustomersAsked.{LoginAsked, NewcomerAsked}
use Rattle.shop_model.specs.asked.Interactions.{interaction_of}
use Rattle.shop_model.specs.asked.Kinds.{kind_of}
use Rattle.shop_model.specs.asked.PurchaseAsked.{CardAsked, PurchaseAsked}
use Rattle.shop_model.specs.rows.Subjects.{subject_of, backing_of, card_of, ship_of}
use Rattle.shop_message.specs.declared.messages.Message.{Message}
use Rattle.shop_model.specs.declared.refusal.Refusal as told
use Rattle.shop_model.specs.declared.refusal.Refusal.TheVariants as page
use Rattle.shop_http.specs.declared.requests.Refusal.{Refusal}
use Rattle.shop_http.specs.declared.requests.Refusal.TheVariants as refusal
use Rattle.shop_http.specs.Forms.{Pair, pairs, value_of, required, optional, or_empty, text_of, short_text_of, country_of, card_number_of, month_of, cost_of, stock_of, pages_of}
use Rattle.shop_text.specs.Numbers.{number_of}
use Rattle.shop_http.specs.Sets.{sets_asked}

-- first this, then what follows from it; the first fault is the answer
abbrev pub in_turn : {A B E : Type 0} → Result A E → (A → Result B E) → Result B E
in_turn (Ok x) next = next x
in_turn (Err e) next = Err e

-- the ids that a request carries along
abbrev pub ids_asked : List Pair → Result IdsAsked Parameter
ids_asked pairs =
    in_turn (optional number_of pairs C) (λ c.
    in_turn (optional number_of pairs Cart) (λ cart.
    Ok (record { c = c; cart = cart })))

-- the requests of the interactions, each with its parameters in their order
abbrev pub home : List Pair → Result Request Parameter
home pairs = in_turn (ids_asked pairs) (λ ids. Ok (request.Home (record { ids = ids })))

abbrev pub new_products : List Pair → Result Request Parameter
new_products pairs =
    in_turn (required subject_of pairs Subject) (λ subject.
    in_turn (ids_asked pairs) (λ ids.
    Ok (request.NewProducts (record { subject = subject; ids = ids }))))

abbrev pub best_sellers : List Pair → Result Request Parameter
best_sellers pairs =
    in_turn (required subject_of pairs Subject) (λ subject.
    in_turn (ids_asked pairs) (λ ids.
    Ok (request.BestSellers (record { subject = subject; ids = ids }))))

abbrev pub product_detail : List Pair → Result Request Parameter
product_detail pairs =
    in_turn (required number_of pairs Item) (λ item.
    in_turn (ids_asked pairs) (λ ids.
    Ok (request.ProductDetail (record { item = item; ids = ids }))))

abbrev pub search_request : List Pair → Result Request Parameter
search_request pairs = in_turn (ids_asked pairs) (λ ids. Ok (request.SearchRequest (record { ids = ids })))

abbrev pub search_results : List Pair → Result Request Parameter
search_results pairs =
    in_turn (required kind_of pairs Kind) (λ kind.
    in_turn (required text_of pairs Text) (λ text.
    in_turn (ids_asked pairs) (λ ids.
    Ok (request.SearchResults (record { kind = kind; text = text; ids = ids })))))

abbrev pub shopping_cart : List Pair → Result Request Parameter
shopping_cart pairs =
    in_turn (optional number_of pairs Item) (λ item.
    in_turn (ok_or (sets_asked pairs) Qty) (λ sets.
    in_turn (ids_asked pairs) (λ ids.
    Ok (request.CartRequest (record { item = item; sets = sets; ids = ids })))))

abbrev pub customer_registration : List Pair → Result Request Parameter
customer_registration pairs =
    in_turn (ids_asked pairs) (λ ids. Ok (request.CustomerRegistration (record { ids = ids })))

-- the name of a customer, and its password
abbrev pub login_asked : List Pair → Result LoginAsked Parameter
login_asked pairs =
    in_turn (required text_of pairs User) (λ user.
    in_turn (required short_text_of pairs Pass) (λ pass.
    Ok (record { user = user; pass = pass })))

-- what an address says
abbrev pub address_asked : List Pair → Result AddressText Parameter
address_asked pairs =
    in_turn (required text_of pairs Street1) (λ street1.
    in_turn (or_empty short_text_of pairs Street2) (λ street2.
    in_turn (required text_of pairs City) (λ city.
    in_turn (or_empty short_text_of pairs State) (λ state.
    in_turn (required text_of pairs Zip) (λ zip.
    in_turn (required country_of pairs Country) (λ country.
    Ok (record { street1 = street1; street2 = street2; city = city; state = state; zip = zip; country = country })))))))

-- who is no customer yet
abbrev pub newcomer_asked : List Pair → Result NewcomerAsked Parameter
newcomer_asked pairs =
    in_turn (required text_of pairs FirstName) (λ first.
    in_turn (required text_of pairs LastName) (λ last.
    in_turn (address_asked pairs) (λ address.
    in_turn (required text_of pairs Phone) (λ phone.
    in_turn (required text_of pairs Email) (λ email.
    Ok (record { first = first; last = last; address = address; phone = phone; email = email }))))))

-- who buys: a customer where one is named, and else who is none yet
abbrev pub buyer_asked : List Pair → Result Buyer Parameter
buyer_asked pairs =
    if is_some (value_of pairs User)
    then in_turn (login_asked pairs) (λ login. Ok (buyer.Returning login))
    else in_turn (newcomer_asked pairs) (λ newcomer. Ok (buyer.Newcomer newcomer))

abbrev pub buy_request : List Pair → Result Request Parameter
buy_request pairs =
    in_turn (required number_of pairs Cart) (λ cart.
    in_turn (buyer_asked pairs) (λ buyer.
    Ok (request.BuyRequest (record { cart = cart; buyer = buyer }))))

-- a payment card
abbrev pub card_asked : List Pair → Result CardAsked Parameter
card_asked pairs =
    in_turn (required card_of pairs Card) (λ card.
    in_turn (required card_number_of pairs Number) (λ number.
    in_turn (required text_of pairs Name) (λ name.
    in_turn (required month_of pairs Expiry) (λ expiry.
    Ok (record { card = card; number = number; name = name; expiry = expiry })))))

-- how an order is shipped: by mail where nothing is said
abbrev pub ship_asked : List Pair → Result ShipType Parameter
ship_asked pairs = in_turn (optional ship_of pairs Ship) (λ ship. Ok (unwrap_or ship Mail))

-- where an order ships to, if not to its customer's address: an address where its first street is there
abbrev pub ship_address_asked : List Pair → Result (Option AddressText) Parameter
ship_address_asked pairs =
    if is_some (value_of pairs Street1)
    then in_turn (address_asked pairs) (λ address. Ok (Some address))
    else Ok None

-- who buys which cart, and how
abbrev pub purchase_asked : List Pair → Result PurchaseAsked Parameter
purchase_asked pairs =
    in_turn (required number_of pairs C) (λ c.
    in_turn (required number_of pairs Cart) (λ cart.
    in_turn (card_asked pairs) (λ payment.
    in_turn (ship_asked pairs) (λ ship.
    in_turn (ship_address_asked pairs) (λ address.
    Ok (record { c = c; cart = cart; payment = payment; ship = ship; address = address }))))))

abbrev pub buy_confirm : List Pair → Result Request Parameter
buy_confirm pairs = in_turn (purchase_asked pairs) (λ purchase. Ok (request.BuyConfirm purchase))

abbrev pub order_inquiry : List Pair → Result Request Parameter
order_inquiry pairs = in_turn (ids_asked pairs) (λ ids. Ok (request.OrderInquiry (record { ids = ids })))

abbrev pub order_display : List Pair → Result Request Parameter
order_display pairs =
    in_turn (login_asked pairs) (λ login.
    in_turn (ids_asked pairs) (λ ids.
    Ok (request.OrderDisplay (record { login = login; ids = ids }))))

abbrev pub admin_request : List Pair → Result Request Parameter
admin_request pairs =
    in_turn (required number_of pairs Item) (λ item.
    in_turn (ids_asked pairs) (λ ids.
    Ok (request.AdminRequest (record { item = item; ids = ids }))))

abbrev pub administration_asked : List Pair → Result AdminAsked Parameter
administration_asked pairs =
    in_turn (required number_of pairs Item) (λ item.
    in_turn (required cost_of pairs Cost) (λ cost.
    in_turn (required text_of pairs Image) (λ image.
    in_turn (required text_of pairs Thumb) (λ thumb.
    in_turn (ids_asked pairs) (λ ids.
    Ok (record { item = item; cost = cost; image = image; thumb = thumb; ids = ids }))))))

abbrev pub admin_confirm : List Pair → Result Request Parameter
admin_confirm pairs = in_turn (administration_asked pairs) (λ asked. Ok (request.AdminConfirm asked))

-- what an item that is added is to be
abbrev pub addition_asked : List Pair → Result AddAsked Parameter
addition_asked pairs =
    in_turn (required text_of pairs Title) (λ title.
    in_turn (required number_of pairs Author) (λ author.
    in_turn (required subject_of pairs Subject) (λ subject.
    in_turn (required text_of pairs Publisher) (λ publisher.
    in_turn (required text_of pairs About) (λ about.
    in_turn (required text_of pairs Image) (λ image.
    in_turn (required text_of pairs Thumb) (λ thumb.
    in_turn (required cost_of pairs Srp) (λ srp.
    in_turn (required cost_of pairs Cost) (λ cost.
    in_turn (required stock_of pairs Stock) (λ stock.
    in_turn (required pages_of pairs Pages) (λ pages.
    in_turn (required backing_of pairs Backing) (λ backing.
    in_turn (ids_asked pairs) (λ ids.
    Ok (record {
      title = title;
      author = author;
      subject = subject;
      publisher = publisher;
      about = about;
      image = image;
      thumb = thumb;
      srp = srp;
      cost = cost;
      stock = stock;
      pages = pages;
      backing = backing;
      ids = ids;
    }))))))))))))))

abbrev pub admin_add : List Pair → Result Request Parameter
admin_add pairs = in_turn (addition_asked pairs) (λ asked. Ok (request.AdminAdd asked))

-- what the pairs ask for at an interaction, or the first parameter that is missing or not in its form
abbrev pub request_by : Interaction → List Pair → Result Request Parameter
request_by interaction.Home = home
request_by interaction.NewProducts = new_products
request_by interaction.BestSellers = best_sellers
request_by interaction.ProductDetail = product_detail
request_by interaction.SearchRequest = search_request
request_by interaction.SearchResults = search_results
request_by interaction.ShoppingCart = shopping_cart
request_by interaction.CustomerRegistration = customer_registration
request_by interaction.BuyRequest = buy_request
request_by interaction.BuyConfirm = buy_confirm
request_by interaction.OrderInquiry = order_inquiry
request_by interaction.OrderDisplay = order_display
request_by interaction.AdminRequest = admin_request
request_by interaction.AdminConfirm = admin_confirm
request_by interaction.AdminAdd = admin_add

-- what stands before the first `?`, and what follows it
abbrev pub path_of : List ℕ → List ℕ
path_of target = before_first (λ byte. byte == 63) target

abbrev pub query_of : List ℕ → List ℕ
query_of target = after_first (λ byte. byte == 63) target

-- the pairs of a message: the query's, and behind them a POST's body's
abbrev pub pairs_asked : List ℕ → List ℕ → List ℕ → List Pair
pairs_asked method target body =
    pairs (query_of target) ++ (if bytes_eq method (codes "POST") then pairs body else [])

-- a request, or the refusal that names the parameter
abbrev pub named : Result Request Parameter → Result Request Refusal
named read = result_map_both (λ request. request) (λ parameter. refusal.Parameter parameter) read

-- what is read as a form of a message with this method: a POST's body, and nothing of a GET
abbrev pub form_of : List ℕ → List ℕ → Option (List ℕ)
form_of method body =
    if bytes_eq method (codes "GET") then Some [] else (if bytes_eq method (codes "POST") then Some body else None)

-- what is asked for at a path: path before method, method before parameters
abbrev pub asked_at : Option Interaction → List ℕ → List Pair → Result Request Refusal
asked_at None method pairs = Err refusal.NoPage
asked_at (Some interaction) method pairs =
    if bytes_eq method (codes "GET") || bytes_eq method (codes "POST")
    then named (request_by interaction pairs)
    else Err refusal.Method

-- what a method (RFC 9110, section 9, which is compared byte for byte), a target and a body ask for
unfoldable pub asked_of : List ℕ → List ℕ → List ℕ → Result Request Refusal
asked_of method target body =
    asked_at (interaction_of (path_of target)) method (pairs_asked method target body)

-- what a message asks for
abbrev pub asked : Message → Result Request Refusal
asked message = asked_of message.method message.target message.body

-- the refusal whose page tells it
abbrev pub told_by : Refusal → told.Refusal
told_by refusal.NoPage = page.NoPage
told_by refusal.Method = page.NotGetOrPost
told_by (refusal.Parameter parameter) = page.BadParameter parameter
