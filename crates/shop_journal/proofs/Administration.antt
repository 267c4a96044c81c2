-- What the change of an item spells, and an item that is added, is read as that request.
use Rattle.std.proofs.Common.{◌≡◌, ℕ, [], ◌∷◌, codes, decimal, Some, refl, arith}
use Rattle.std.specs.Prelude.{Ok}
use Rattle.std.proofs.lemmas.Bool.{le-leb}
use Rattle.shop_model.specs.declared.parameter.Parameter.TheVariants.{C, Cart, Item, Subject, Cost, Image, Thumb, Title, Author, Publisher, About, Srp, Stock, Pages, Backing}
use Rattle.shop_model.specs.declared.requests.Interaction.TheVariants as interaction
use Rattle.shop_model.specs.declared.requests.Request.TheVariants as request
use Rattle.shop_model.specs.asked.AddAsked.{AddAsked, IsAddAsked, IsBetween}
use Rattle.shop_model.specs.asked.AdminAsked.{AdminAsked, IsAdminAsked, IsCost}
use Rattle.shop_model.specs.asked.CustomersAsked.{IsId}
use Rattle.shop_model.specs.asked.Interactions.{interaction_of, path_of}
use Rattle.shop_model.specs.rows.Limits.{added_stock_limit, pages_limit}
use Rattle.shop_model.specs.rows.Subjects.{backing_name, subject_name}
use Rattle.shop_model.specs.trade.Stocks.{least_stock}
use Rattle.shop_http.specs.Forms.{cost_of, number_between}
use Rattle.shop_http.specs.Requests.{asked_of, admin_confirm, admin_add}
use Rattle.shop_journal.specs.Targets.{add_pairs, add_target, admin_pairs, admin_target}
use Rattle.shop_journal.proofs.Choices.{backing_named, subject_named}
use Rattle.shop_journal.proofs.Forms.{filled_again, optional_is}
use Rattle.shop_journal.proofs.Numbers.{number_again}
use Rattle.shop_journal.proofs.Spelled.{AllSpelled, HasPath, ascii_text, c_first, cart_first, filled_named, ids_named, named, number_named, read_at}

cost_again : (cost : ℕ) → IsCost cost → cost_of (decimal cost) ≡ Some cost
unfolding cost_of
cost_again cost is = rw (number_again cost (omega (arith, is.low)), le-leb 1 cost is.some, le-leb cost 999_999 is.low) refl

cost_id : (cost : ℕ) → IsCost cost → IsId cost
cost_id cost is = omega (arith, is.low)

between_again : (least most number : ℕ) → IsBetween least most number → IsId most → number_between least most (decimal number) ≡ Some number
unfolding number_between
between_again least most number is id = rw (number_again number (omega (arith, is.high, id)), le-leb least number is.low, le-leb number most is.high) refl

-- ---- the change of an item

admin_again : (asked : AdminAsked) → IsAdminAsked asked → admin_confirm (admin_pairs asked) ≡ Ok (request.AdminConfirm asked)
admin_again asked is =
    let pairs = admin_pairs asked in
    let c = optional_is pairs C asked.ids.c is.ids.0 (c_first asked.ids.c asked.ids.cart) in
    let cart = optional_is pairs Cart asked.ids.cart is.ids.1 (cart_first asked.ids.c asked.ids.cart) in
    rw (number_again asked.item is.item, cost_again asked.cost is.cost, filled_again asked.image is.image, filled_again asked.thumb is.thumb, c, cart) refl

admin_cut : HasPath (path_of interaction.AdminConfirm)
admin_cut [] = (refl, refl)
admin_cut (pair ∷ others) = (refl, refl)

admin_found : interaction_of (path_of interaction.AdminConfirm) ≡ Some interaction.AdminConfirm
unfolding interaction_of
admin_found = refl

pub admin_spelled : (asked : AdminAsked) → IsAdminAsked asked → AllSpelled (admin_pairs asked)
admin_spelled asked is = (
  number_named Item asked.item refl is.item,
  (
    number_named Cost asked.cost refl (cost_id asked.cost is.cost),
    (filled_named Image asked.image refl is.image, (filled_named Thumb asked.thumb refl is.thumb, ids_named asked.ids is.ids)),
  ),
)

pub admin_written : (asked : AdminAsked) → IsAdminAsked asked → asked_of (codes "GET") (admin_target asked) [] ≡ Ok (request.AdminConfirm asked)
admin_written asked is =
    read_at interaction.AdminConfirm (path_of interaction.AdminConfirm) (admin_pairs asked) (request.AdminConfirm asked) admin_cut admin_found
    (admin_spelled asked is) (admin_again asked is)

-- ---- an item that is added

add_again : (asked : AddAsked) → IsAddAsked asked → admin_add (add_pairs asked) ≡ Ok (request.AdminAdd asked)
add_again asked is =
    let pairs = add_pairs asked in
    let c = optional_is pairs C asked.ids.c is.ids.0 (c_first asked.ids.c asked.ids.cart) in
    let cart = optional_is pairs Cart asked.ids.cart is.ids.1 (cart_first asked.ids.c asked.ids.cart) in
    rw (
      filled_again asked.title is.title,
      number_again asked.author is.author,
      (subject_named asked.subject).again,
      filled_again asked.publisher is.publisher,
      filled_again asked.about is.about,
      filled_again asked.image is.image,
      filled_again asked.thumb is.thumb,
      cost_again asked.srp is.srp,
      cost_again asked.cost is.cost,
      between_again least_stock added_stock_limit asked.stock is.stock (omega arith),
      between_again 1 pages_limit asked.pages is.pages (omega arith),
      (backing_named asked.backing).again,
      c,
      cart,
    ) refl

add_cut : HasPath (path_of interaction.AdminAdd)
add_cut [] = (refl, refl)
add_cut (pair ∷ others) = (refl, refl)

add_found : interaction_of (path_of interaction.AdminAdd) ≡ Some interaction.AdminAdd
unfolding interaction_of
add_found = refl

pub add_spelled : (asked : AddAsked) → IsAddAsked asked → AllSpelled (add_pairs asked)
add_spelled asked is =
    let subject = subject_named asked.subject in
    let backing = backing_named asked.backing in (
      filled_named Title asked.title refl is.title,
      (
        number_named Author asked.author refl is.author,
        (
          named Subject (subject_name asked.subject) refl (ascii_text _ subject.ascii) (omega (arith, subject.short)),
          (
            filled_named Publisher asked.publisher refl is.publisher,
            (
              filled_named About asked.about refl is.about,
              (
                filled_named Image asked.image refl is.image,
                (
                  filled_named Thumb asked.thumb refl is.thumb,
                  (
                    number_named Srp asked.srp refl (cost_id asked.srp is.srp),
                    (
                      number_named Cost asked.cost refl (cost_id asked.cost is.cost),
                      (
                        number_named Stock asked.stock refl (omega (arith, is.stock.high)),
                        (
                          number_named Pages asked.pages refl (omega (arith, is.pages.high)),
                          (named Backing (backing_name asked.backing) refl (ascii_text _ backing.ascii) (omega (arith, backing.short)), ids_named asked.ids is.ids),
                        ),
                      ),
                    ),
                  ),
                ),
              ),
            ),
          ),
        ),
      ),
    )

pub add_written : (asked : AddAsked) → IsAddAsked asked → asked_of (codes "GET") (add_target asked) [] ≡ Ok (request.AdminAdd asked)
add_written asked is =
    read_at interaction.AdminAdd (path_of interaction.AdminAdd) (add_pairs asked) (request.AdminAdd asked) add_cut add_found
    (add_spelled asked is) (add_again asked is)
