-- What a purchase spells is read as that purchase.
use Rattle.std.proofs.Common.{◌≡◌, ◌≤◌, ℕ, true, List, [], ◌∷◌, codes, length, Option, Some, None, IfSome, IsUtf8, refl, arith}
use Rattle.std.proofs.lemmas.Bool.{and_parts}
use Rattle.std.specs.Prelude.{Ok}
use Rattle.std.specs.Char.{is_ascii, is_ascii_digit}
use Rattle.std.specs.List.{list_all}
use Rattle.shop_model.specs.declared.address.AddressText.{AddressText}
use Rattle.shop_model.specs.declared.parameter.Parameter.TheVariants.{C, Cart, Card, Number, Name, Expiry, Ship}
use Rattle.shop_model.specs.declared.requests.Interaction.TheVariants as interaction
use Rattle.shop_model.specs.declared.requests.Request.TheVariants as request
use Rattle.shop_model.specs.asked.Cards.{IsCardNumber, IsMonth, is_card_number, is_month, is_month_number}
use Rattle.shop_model.specs.asked.CustomersAsked.{IsAddressAsked}
use Rattle.shop_model.specs.asked.Interactions.{interaction_of, path_of}
use Rattle.shop_model.specs.asked.PurchaseAsked.{PurchaseAsked, IsPurchaseAsked}
use Rattle.shop_model.specs.rows.Subjects.{card_name, ship_name}
use Rattle.shop_http.specs.Forms.{card_number_of, month_of}
use Rattle.shop_http.specs.Requests.{asked_of, buy_confirm}
use Rattle.shop_text.specs.Numbers.{number_of}
use Rattle.shop_journal.specs.Targets.{optional_address_pairs, purchase_pairs, purchase_target}
use Rattle.shop_journal.proofs.Buying.{address_spelled}
use Rattle.shop_journal.proofs.Choices.{card_named, ship_named}
use Rattle.shop_journal.proofs.Forms.{filled_again, short_again, country_again}
use Rattle.shop_journal.proofs.Numbers.{number_again}
use Rattle.shop_journal.proofs.Spelled.{AllSpelled, HasPath, ascii_text, filled_named, named, number_named, read_at}

card_number_again : (number : List ℕ) → IsCardNumber number → card_number_of number ≡ Some number
unfolding card_number_of
card_number_again number is = rw is refl

month_again : (month : List ℕ) → IsMonth month → month_of month ≡ Some month
unfolding month_of
month_again month is = rw is refl

-- ---- digits are a text

low : (b : ℕ) → is_ascii_digit b ≡ true → is_ascii b ≡ true
low b is = grind arith

digits_low : (bytes : List ℕ) → list_all is_ascii_digit bytes ≡ true → list_all is_ascii bytes ≡ true
digits_low [] all = refl
digits_low (b ∷ bytes) all = let parts = and_parts (is_ascii_digit b) (list_all is_ascii_digit bytes) all in rw (low b parts.0) (digits_low bytes parts.1)

number_digits : (bytes : List ℕ) → is_month_number (number_of bytes) ≡ true → list_all is_ascii_digit bytes ≡ true
unfolding number_of
number_digits bytes is = grind arith

card_number_text : (number : List ℕ) → IsCardNumber number → IsUtf8 number
unfolding is_card_number
card_number_text number is = ascii_text number (digits_low number (grind arith))

month_low : (month : List ℕ) → is_month month ≡ true → list_all is_ascii month ≡ true
unfolding is_month
month_low [] is = refl
month_low (a ∷ []) is = absurd (cc is)
month_low (a ∷ b ∷ []) is = absurd (cc is)
month_low (a ∷ b ∷ c ∷ []) is = absurd (cc is)
month_low (a ∷ b ∷ c ∷ d ∷ []) is = absurd (cc is)
month_low (a ∷ b ∷ c ∷ d ∷ e ∷ rest) is =
    let front : list_all is_ascii_digit (a ∷ b ∷ c ∷ d ∷ []) ≡ true = grind arith in
    let hyphen : e ≡ 45 = grind arith in
    let behind : is_month_number (number_of rest) ≡ true = grind arith in
    let low_front = digits_low (a ∷ b ∷ c ∷ d ∷ []) front in
    let low_rest = digits_low rest (number_digits rest behind) in
    grind arith

card_number_short : (number : List ℕ) → IsCardNumber number → length number ≤ 100
unfolding is_card_number
card_number_short number is = grind arith

month_short : (month : List ℕ) → IsMonth month → length month ≤ 100
unfolding is_month
month_short month is = grind arith

month_text : (month : List ℕ) → IsMonth month → IsUtf8 month
month_text month is = ascii_text month (month_low month is)

-- ---- the whole

purchase_again : (asked : PurchaseAsked) → IsPurchaseAsked asked → buy_confirm (purchase_pairs asked) ≡ Ok (request.BuyConfirm asked)
purchase_again asked is = by asked.address is.address
  where
    by : (address : Option AddressText) → IfSome address IsAddressAsked
        → buy_confirm (purchase_pairs (record asked { address = address })) ≡ Ok (request.BuyConfirm (record asked { address = address }))
    by None form =
        let card = asked.payment in
        rw (
          number_again asked.c is.c,
          number_again asked.cart is.cart,
          (card_named card.card).again,
          card_number_again card.number is.payment.number,
          filled_again card.name is.payment.name,
          month_again card.expiry is.payment.expiry,
          (ship_named asked.ship).again,
        ) refl
    by (Some text) form =
        let card = asked.payment in
        rw (
          number_again asked.c is.c,
          number_again asked.cart is.cart,
          (card_named card.card).again,
          card_number_again card.number is.payment.number,
          filled_again card.name is.payment.name,
          month_again card.expiry is.payment.expiry,
          (ship_named asked.ship).again,
          filled_again text.street1 form.street1,
          short_again text.street2 form.street2,
          filled_again text.city form.city,
          short_again text.state form.state,
          filled_again text.zip form.zip,
          country_again text.country form.country,
        ) refl

purchase_cut : HasPath (path_of interaction.BuyConfirm)
purchase_cut [] = (refl, refl)
purchase_cut (pair ∷ others) = (refl, refl)

purchase_found : interaction_of (path_of interaction.BuyConfirm) ≡ Some interaction.BuyConfirm
unfolding interaction_of
purchase_found = refl

optional_spelled : (address : Option AddressText) → IfSome address IsAddressAsked → AllSpelled (optional_address_pairs address)
optional_spelled None form = tt
optional_spelled (Some text) form = address_spelled text form

pub purchase_spelled : (asked : PurchaseAsked) → IsPurchaseAsked asked → AllSpelled (purchase_pairs asked)
purchase_spelled asked is =
    let card = asked.payment in
    let type = card_named card.card in
    let way = ship_named asked.ship in (
      number_named C asked.c refl is.c,
      (
        number_named Cart asked.cart refl is.cart,
        (
          named Card (card_name card.card) refl (ascii_text _ type.ascii) (omega (arith, type.short)),
          (
            named Number card.number refl (card_number_text card.number is.payment.number) (card_number_short card.number is.payment.number),
            (
              filled_named Name card.name refl is.payment.name,
              (
                named Expiry card.expiry refl (month_text card.expiry is.payment.expiry) (month_short card.expiry is.payment.expiry),
                (named Ship (ship_name asked.ship) refl (ascii_text _ way.ascii) (omega (arith, way.short)), optional_spelled asked.address is.address),
              ),
            ),
          ),
        ),
      ),
    )

pub purchase_written : (asked : PurchaseAsked) → IsPurchaseAsked asked → asked_of (codes "GET") (purchase_target asked) [] ≡ Ok (request.BuyConfirm asked)
purchase_written asked is =
    read_at interaction.BuyConfirm (path_of interaction.BuyConfirm) (purchase_pairs asked) (request.BuyConfirm asked) purchase_cut purchase_found
    (purchase_spelled asked is) (purchase_again asked is)
