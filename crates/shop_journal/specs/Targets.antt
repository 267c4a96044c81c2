-- The targets by which requests that change the shop are kept. Each spells its request in one way: the parameters in the
-- order in which they are read, numbers without leading zeros, and those that have a default always.
use Rattle.std.specs.Prelude.{ℕ, List, [], ◌∷◌, ◌++◌, map, codes, decimal, Option, Some, None}
use Rattle.shop_model.specs.declared.address.AddressText.{AddressText}
use Rattle.shop_model.specs.declared.buying.Buyer.{Buyer}
use Rattle.shop_model.specs.declared.buying.Buyer.TheVariants as buyer
use Rattle.shop_model.specs.declared.buying.BuyRequest as buying
use Rattle.shop_model.specs.declared.parameter.Parameter.TheVariants.{C, Cart, Item, Subject, User, Pass, FirstName, LastName, Street1, Street2, City, State, Zip, Country, Phone, Email, Card, Number, Name, Expiry, Ship, Cost, Image, Thumb, Title, Author, Publisher, About, Srp, Stock, Pages, Backing}
use Rattle.shop_model.specs.declared.requests.IdsAsked.{IdsAsked}
use Rattle.shop_model.specs.declared.requests.Interaction.TheVariants as interaction
use Rattle.shop_model.specs.declared.requests.Request.{Request}
use Rattle.shop_model.specs.declared.requests.Request.TheVariants as request
use Rattle.shop_model.specs.asked.AddAsked.{AddAsked}
use Rattle.shop_model.specs.asked.AdminAsked.{AdminAsked}
use Rattle.shop_model.specs.asked.CartAsked.{CartAsked}
use Rattle.shop_model.specs.asked.CustomersAsked.{LoginAsked, NewcomerAsked}
use Rattle.shop_model.specs.asked.Interactions.{path_of}
use Rattle.shop_model.specs.asked.PurchaseAsked.{CardAsked, PurchaseAsked}
use Rattle.shop_model.specs.rows.Subjects.{subject_name, backing_name, card_name, ship_name}
use Rattle.shop_http.specs.Forms.{Pair}
use Rattle.shop_journal.specs.Pairs.{target_with, number_pair, text_pair, optional_pair}

abbrev pub ids_pairs : IdsAsked → List Pair
ids_pairs ids = optional_pair C ids.c ++ optional_pair Cart ids.cart

abbrev pub set_pair : ℕ × ℕ → Pair
set_pair set = (codes "qty_" ++ decimal set.0, decimal set.1)

abbrev pub cart_pairs : CartAsked → List Pair
cart_pairs asked = optional_pair Item asked.item ++ (map set_pair asked.sets ++ ids_pairs asked.ids)

-- where in a city an address is, and where that city is
abbrev pub street_pairs : AddressText → List Pair
street_pairs text = text_pair Street1 text.street1 ∷ text_pair Street2 text.street2 ∷ text_pair City text.city ∷ []

abbrev pub region_pairs : AddressText → List Pair
region_pairs text = text_pair State text.state ∷ text_pair Zip text.zip ∷ number_pair Country text.country ∷ []

abbrev pub address_pairs : AddressText → List Pair
address_pairs text = street_pairs text ++ region_pairs text

abbrev pub newcomer_pairs : NewcomerAsked → List Pair
newcomer_pairs asked =
    text_pair FirstName asked.first
    ∷ text_pair LastName asked.last
    ∷ (address_pairs asked.address ++ text_pair Phone asked.phone ∷ text_pair Email asked.email ∷ [])

abbrev pub login_pairs : LoginAsked → List Pair
login_pairs asked = text_pair User asked.user ∷ text_pair Pass asked.pass ∷ []

abbrev pub buyer_pairs : Buyer → List Pair
buyer_pairs (buyer.Returning asked) = login_pairs asked
buyer_pairs (buyer.Newcomer asked) = newcomer_pairs asked

abbrev pub buy_pairs : buying.BuyRequest → List Pair
buy_pairs asked = number_pair Cart asked.cart ∷ buyer_pairs asked.buyer

abbrev pub optional_address_pairs : Option AddressText → List Pair
optional_address_pairs None = []
optional_address_pairs (Some text) = address_pairs text

abbrev pub payment_pairs : CardAsked → List Pair
payment_pairs card =
    text_pair Card (card_name card.card)
    ∷ text_pair Number card.number
    ∷ text_pair Name card.name
    ∷ text_pair Expiry card.expiry
    ∷ []

-- the way of shipping is there always
abbrev pub purchase_pairs : PurchaseAsked → List Pair
purchase_pairs asked =
    number_pair C asked.c
    ∷ number_pair Cart asked.cart
    ∷ (payment_pairs asked.payment ++ text_pair Ship (ship_name asked.ship) ∷ optional_address_pairs asked.address)

abbrev pub admin_pairs : AdminAsked → List Pair
admin_pairs asked =
    number_pair Item asked.item
    ∷ number_pair Cost asked.cost
    ∷ text_pair Image asked.image
    ∷ text_pair Thumb asked.thumb
    ∷ ids_pairs asked.ids

-- what an item that is added is called, and by whom it is
abbrev pub titled_pairs : AddAsked → List Pair
titled_pairs asked =
    text_pair Title asked.title
    ∷ number_pair Author asked.author
    ∷ text_pair Subject (subject_name asked.subject)
    ∷ text_pair Publisher asked.publisher
    ∷ []

-- what it is about, and its pictures
abbrev pub described_pairs : AddAsked → List Pair
described_pairs asked =
    text_pair About asked.about
    ∷ text_pair Image asked.image
    ∷ text_pair Thumb asked.thumb
    ∷ []

-- what it costs, and how much there is of it
abbrev pub priced_pairs : AddAsked → List Pair
priced_pairs asked =
    number_pair Srp asked.srp
    ∷ number_pair Cost asked.cost
    ∷ number_pair Stock asked.stock
    ∷ number_pair Pages asked.pages
    ∷ text_pair Backing (backing_name asked.backing)
    ∷ []

abbrev pub add_pairs : AddAsked → List Pair
add_pairs asked = titled_pairs asked ++ (described_pairs asked ++ (priced_pairs asked ++ ids_pairs asked.ids))

abbrev pub cart_target : CartAsked → List ℕ
cart_target asked = target_with (path_of interaction.ShoppingCart) (cart_pairs asked)

abbrev pub buy_target : buying.BuyRequest → List ℕ
buy_target asked = target_with (path_of interaction.BuyRequest) (buy_pairs asked)

abbrev pub purchase_target : PurchaseAsked → List ℕ
purchase_target asked = target_with (path_of interaction.BuyConfirm) (purchase_pairs asked)

abbrev pub admin_target : AdminAsked → List ℕ
admin_target asked = target_with (path_of interaction.AdminConfirm) (admin_pairs asked)

abbrev pub add_target : AddAsked → List ℕ
add_target asked = target_with (path_of interaction.AdminAdd) (add_pairs asked)

-- the target of a request that changes the shop, and nothing for one that reads
abbrev pub target_of : Request → List ℕ
target_of (request.CartRequest asked) = cart_target asked
target_of (request.BuyRequest asked) = buy_target asked
target_of (request.BuyConfirm asked) = purchase_target asked
target_of (request.AdminConfirm asked) = admin_target asked
target_of (request.AdminAdd asked) = add_target asked
target_of other = []
