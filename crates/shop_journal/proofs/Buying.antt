-- What a request to buy a cart spells is read as that request.
use Rattle.std.proofs.Common.{◌≡◌, ℕ, ◌∷◌, [], codes, Some, refl, arith}
use Rattle.std.specs.Prelude.{Ok}
use Rattle.shop_model.specs.declared.address.AddressText.{AddressText}
use Rattle.shop_model.specs.declared.buying.Buyer.{Buyer}
use Rattle.shop_model.specs.declared.buying.Buyer.TheVariants as buyer
use Rattle.shop_model.specs.declared.buying.BuyRequest.{BuyRequest}
use Rattle.shop_model.specs.declared.parameter.Parameter.TheVariants.{Cart, User, Pass, FirstName, LastName, Street1, Street2, City, State, Zip, Country, Phone, Email}
use Rattle.shop_model.specs.declared.requests.Interaction.TheVariants as interaction
use Rattle.shop_model.specs.declared.requests.Request.TheVariants as request
use Rattle.shop_model.specs.asked.CustomersAsked.{IsId, LoginAsked, NewcomerAsked, IsAddressAsked, IsLoginAsked, IsNewcomerAsked}
use Rattle.shop_model.specs.asked.Interactions.{interaction_of, path_of}
use Rattle.shop_http.specs.Requests.{asked_of, login_asked, address_asked, newcomer_asked, buy_request}
use Rattle.shop_history.specs.Acts.{IsBuyer}
use Rattle.shop_journal.specs.Pairs.{number_pair, text_pair}
use Rattle.shop_journal.specs.Targets.{address_pairs, buyer_pairs, login_pairs, newcomer_pairs, buy_pairs, buy_target}
use Rattle.shop_journal.proofs.Forms.{filled_again, short_again, country_again}
use Rattle.shop_journal.proofs.Numbers.{number_again}
use Rattle.shop_journal.proofs.Spelled.{AllSpelled, HasPath, both, filled_named, number_named, read_at, short_named}

address_again : (cart : ℕ) (asked : NewcomerAsked) → IsNewcomerAsked asked → address_asked (number_pair Cart cart ∷ newcomer_pairs asked) ≡ Ok asked.address
address_again cart asked is =
    let form = is.address in
    let text = asked.address in
    rw (filled_again text.street1 form.street1, short_again text.street2 form.street2, filled_again text.city form.city, short_again text.state form.state, filled_again text.zip form.zip, country_again text.country form.country) refl

newcomer_again : (cart : ℕ) (asked : NewcomerAsked) → IsNewcomerAsked asked → newcomer_asked (number_pair Cart cart ∷ newcomer_pairs asked) ≡ Ok asked
newcomer_again cart asked is =
    rw (address_again cart asked is, filled_again asked.first is.first, filled_again asked.last is.last, filled_again asked.phone is.phone, filled_again asked.email is.email) refl

login_again : (cart : ℕ) (asked : LoginAsked) → IsLoginAsked asked → login_asked (number_pair Cart cart ∷ login_pairs asked) ≡ Ok asked
login_again cart asked is = rw (filled_again asked.user is.user, short_again asked.pass is.pass) refl

buy_again : (asked : BuyRequest) → IsId asked.cart → IsBuyer asked.buyer → buy_request (buy_pairs asked) ≡ Ok (request.BuyRequest asked)
buy_again asked cart form = by asked.buyer form
  where
    by : (b : Buyer) → IsBuyer b → buy_request (number_pair Cart asked.cart ∷ buyer_pairs b) ≡ Ok (request.BuyRequest (record { cart = asked.cart; buyer = b }))
    by (buyer.Returning login) form = rw (number_again asked.cart cart, login_again asked.cart login form) refl
    by (buyer.Newcomer newcomer) form = rw (number_again asked.cart cart, newcomer_again asked.cart newcomer form) refl

buy_cut : HasPath (path_of interaction.BuyRequest)
buy_cut [] = (refl, refl)
buy_cut (pair ∷ others) = (refl, refl)

buy_found : interaction_of (path_of interaction.BuyRequest) ≡ Some interaction.BuyRequest
unfolding interaction_of
buy_found = refl

pub address_spelled : (text : AddressText) → IsAddressAsked text → AllSpelled (address_pairs text)
address_spelled text is = (
  filled_named Street1 text.street1 refl is.street1,
  (
    short_named Street2 text.street2 refl is.street2,
    (
      filled_named City text.city refl is.city,
      (
        short_named State text.state refl is.state,
        (filled_named Zip text.zip refl is.zip, (number_named Country text.country refl (omega (arith, is.country)), tt)),
      ),
    ),
  ),
)

buyer_spelled : (b : Buyer) → IsBuyer b → AllSpelled (buyer_pairs b)
buyer_spelled (buyer.Returning asked) is = (filled_named User asked.user refl is.user, (short_named Pass asked.pass refl is.pass, tt))
buyer_spelled (buyer.Newcomer asked) is = (
  filled_named FirstName asked.first refl is.first,
  (
    filled_named LastName asked.last refl is.last,
    both (address_pairs asked.address) (text_pair Phone asked.phone ∷ text_pair Email asked.email ∷ []) (address_spelled asked.address is.address)
        (filled_named Phone asked.phone refl is.phone, (filled_named Email asked.email refl is.email, tt)),
  ),
)

pub buy_spelled : (asked : BuyRequest) → IsId asked.cart → IsBuyer asked.buyer → AllSpelled (buy_pairs asked)
buy_spelled asked cart form = (number_named Cart asked.cart refl cart, buyer_spelled asked.buyer form)

pub buy_written : (asked : BuyRequest) → IsId asked.cart → IsBuyer asked.buyer → asked_of (codes "GET") (buy_target asked) [] ≡ Ok (request.BuyRequest asked)
buy_written asked cart form =
    read_at interaction.BuyRequest (path_of interaction.BuyRequest) (buy_pairs asked) (request.BuyRequest asked) buy_cut buy_found
    (buy_spelled asked cart form) (buy_again asked cart form)
