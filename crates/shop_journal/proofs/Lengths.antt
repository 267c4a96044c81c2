-- The payload of every entry fits into a record.
use Rattle.std.proofs.Common.{◌≡◌, ℕ, ◌+◌, ◌*◌, ◌≤◌, List, [], ◌∷◌, ◌++◌, map, length, codes, decimal, Option, Some, None, refl, ap, arith}
use Rattle.std.specs.List.{AllByRecursion}
use Rattle.std.proofs.lemmas.Bool.Decides.{nat_tests}
use Rattle.std.proofs.lemmas.List.{length-append, length-map}
use Rattle.form_urlencoded.specs.Form.{byte_serialize, serialize_byte, serialize_pair, ampersand}
use Rattle.percent_encoding.specs.Percent.{percent_encode_byte}
use Rattle.shop_model.specs.asked.CartAsked.{CartAsked, IsCartAsked}
use Rattle.shop_model.specs.declared.address.AddressText.{AddressText}
use Rattle.shop_model.specs.declared.buying.Buyer.{Buyer}
use Rattle.shop_model.specs.declared.buying.Buyer.TheVariants as buyer
use Rattle.shop_model.specs.declared.parameter.Parameter.TheVariants.{C, Cart, Item}
use Rattle.shop_model.specs.declared.parameter.Parameter.{Parameter}
use Rattle.shop_model.specs.declared.requests.IdsAsked.{IdsAsked}
use Rattle.shop_history.specs.declared.acts.Act.{Act}
use Rattle.shop_history.specs.declared.acts.Act.TheVariants.{Cart as CartAct, Enter, Confirm, Admin, Add}
use Rattle.shop_history.specs.declared.acts.Entry.{Entry}
use Rattle.shop_history.specs.Acts.{IsInForm, request_of}
use Rattle.shop_http.specs.Forms.{Pair}
use Rattle.shop_journal.specs.declared.headers.Format.{Format}
use Rattle.shop_journal.specs.declared.headers.Format.TheVariants.{First, Second}
use Rattle.shop_journal.specs.Pairs.{mark_after, optional_pair, pairs_behind}
use Rattle.shop_journal.specs.Payloads.{IsBounded, auth_of, front_of, payload_of}
use Rattle.shop_journal.specs.Targets.{buyer_pairs, cart_pairs, buy_pairs, optional_address_pairs, purchase_pairs, admin_pairs, add_pairs, ids_pairs, set_pair, target_of}
use Rattle.shop_journal.proofs.Administration.{admin_spelled, add_spelled}
use Rattle.shop_journal.proofs.Buying.{buy_spelled}
use Rattle.shop_journal.proofs.Carts.{IsSet, each}
use Rattle.shop_journal.proofs.Marks.{pairs_behind-append}
use Rattle.shop_journal.proofs.Numbers.{number_length}
use Rattle.shop_journal.proofs.Purchases.{purchase_spelled}
use Rattle.shop_journal.proofs.Spelled.{AllSpelled, ids_named, optional_named}

-- ---- pairs

byte_length : (b : ℕ) → length (serialize_byte b) ≤ 3
unfolding percent_encode_byte
byte_length b = grind (arith, nat_tests)

text_length : (text : List ℕ) → length (byte_serialize text) ≤ 3 * length text
unfolding byte_serialize
text_length [] = omega arith
text_length (b ∷ text) = omega (arith, length-append (serialize_byte b) (byte_serialize text), byte_length b, text_length text)

pair_length : (pair : Pair) → length (serialize_pair pair) ≤ 3 * (length pair.0 + length pair.1) + 1
pair_length pair =
    omega (arith, length-append (byte_serialize pair.0 ++ 61 ∷ []) (byte_serialize pair.1), length-append (byte_serialize pair.0) (61 ∷ []), text_length pair.0, text_length pair.1)

-- so many pairs, of so many bytes each
pairs_length : (most : ℕ) (sign : ℕ) (pairs : List Pair) → AllByRecursion (λ pair. length pair.0 + length pair.1 ≤ most) pairs
    → length (pairs_behind sign pairs) ≤ length pairs * (3 * most + 2)
pairs_length most sign [] each = omega arith
pairs_length most sign (pair ∷ pairs) each =
    omega (arith, length-append (serialize_pair pair) (pairs_behind ampersand pairs), pair_length pair, each.0, pairs_length most ampersand pairs each.1)

short : (pairs : List Pair) → AllSpelled pairs → AllByRecursion (λ pair. length pair.0 + length pair.1 ≤ 120) pairs
short [] each = tt
short (pair ∷ pairs) each = (each.0.short, short pairs each.1)

-- few pairs
few_pairs : (pairs : List Pair) → AllSpelled pairs → length pairs ≤ 20 → (sign : ℕ) → length (pairs_behind sign pairs) ≤ 7_240
few_pairs pairs each few sign = omega (arith, pairs_length 120 sign pairs (short pairs each), few)

-- ---- requests for a cart

set_short : (sets : List (ℕ × ℕ)) → AllByRecursion IsSet sets → AllByRecursion (λ pair. length pair.0 + length pair.1 ≤ 24) (map set_pair sets)
set_short [] are = tt
set_short (set ∷ sets) are = (
  omega (arith, length-append (codes "qty_") (decimal set.0), number_length set.0 are.0.0, number_length set.1 (omega (arith, are.0.1))),
  set_short sets are.1,
)

optional_length : (parameter : Parameter) (number : Option ℕ) → length (optional_pair parameter number) ≤ 1
optional_length parameter None = omega arith
optional_length parameter (Some n) = omega arith

ids_length : (ids : IdsAsked) → length (ids_pairs ids) ≤ 2
ids_length ids = omega (arith, length-append (optional_pair C ids.c) (optional_pair Cart ids.cart), optional_length C ids.c, optional_length Cart ids.cart)

cart_length : (asked : CartAsked) → IsCartAsked asked → (sign : ℕ) → length (pairs_behind sign (cart_pairs asked)) ≤ 9_000
cart_length asked is sign =
    let item = optional_pair Item asked.item in
    let sets = map set_pair asked.sets in
    let ids = ids_pairs asked.ids in
    let behind = mark_after sign item in
    let last = mark_after behind sets in
    omega (
      arith,
      ap length (pairs_behind-append sign item (sets ++ ids)),
      length-append (pairs_behind sign item) (pairs_behind behind (sets ++ ids)),
      ap length (pairs_behind-append behind sets ids),
      length-append (pairs_behind behind sets) (pairs_behind last ids),
      pairs_length 120 sign item (short item (optional_named Item asked.item refl is.item)),
      optional_length Item asked.item,
      pairs_length 24 behind sets (set_short asked.sets (each _ asked.sets is.sets)),
      length-map asked.sets set_pair,
      is.few,
      pairs_length 120 last ids (short ids (ids_named asked.ids is.ids)),
      ids_length asked.ids,
    )

-- ---- every entry

buyer_count : (b : Buyer) → length (buyer_pairs b) ≤ 12
buyer_count (buyer.Returning asked) = omega arith
buyer_count (buyer.Newcomer asked) = omega arith

address_count : (address : Option AddressText) → length (optional_address_pairs address) ≤ 6
address_count None = omega arith
address_count (Some text) = omega arith

target_length : (act : Act) → IsInForm act → length (target_of (request_of act)) ≤ 10_000
target_length (CartAct asked draw) form = omega (arith, cart_length asked form 63)
target_length (Enter asked draw) form =
    omega (arith, few_pairs (buy_pairs asked) (buy_spelled asked form.0 form.1) (omega (arith, buyer_count asked.buyer)) 63)
target_length (Confirm asked draw auth tax) form =
    omega (arith, few_pairs (purchase_pairs asked) (purchase_spelled asked form) (omega (arith, address_count asked.address)) 63)
target_length (Admin asked) form = omega (arith, few_pairs (admin_pairs asked) (admin_spelled asked form) (omega (arith, ids_length asked.ids)) 63)
target_length (Add asked) form = omega (arith, few_pairs (add_pairs asked) (add_spelled asked form) (omega (arith, ids_length asked.ids)) 63)

front_length : (format : Format) (entry : Entry) → length (auth_of entry.act) ≡ 15 → length (front_of format entry) ≤ 40
front_length First entry digits = omega (arith, digits)
front_length Second entry digits = omega (arith, digits)

pub fits : (format : Format) (entry : Entry) → IsBounded entry → length (payload_of format entry) ≤ 16_384
fits format entry is =
    omega (
      arith,
      length-append (front_of format entry) (target_of (request_of entry.act)),
      front_length format entry is.auth.fifteen,
      target_length entry.act is.form,
    )
