-- The callers of a new shop of two desks are posted there.
use Rattle.std.proofs.Common.{◌≡◌, ℕ, List, [], ◌∷◌, ◌++◌, length, get_or, arith, sym, ap, subst, ◌∙◌, length-append}
use Rattle.shop_model.specs.lists.Catalogues.{Catalogue, opened}
use Rattle.shop_model.specs.population.Scales.{ScaleRow}
use Rattle.shop_model.specs.declared.tables.Tables.{Tables}
use Rattle.shop_attempt.specs.Seats.{IsSeat}
use Rattle.shop_book.specs.Books.{BookValue}
use Rattle.shop_engine.specs.Posts.{IsPosted}
use Rattle.shop_turn.specs.Desks.{DeskValue, seat_of}
use Rattle.shop_turn.specs.Shops.{Opens, new_desk}

-- two that were taken from the end of a list of two
two_left : (one two : DeskValue) (front : List DeskValue) (first second : DeskValue) → one ∷ two ∷ [] ≡ (front ++ first ∷ []) ++ second ∷ [] → (first ≡ one) × (second ≡ two)
two_left one two [] first second is = (ap (λ (ds : List DeskValue). get_or ds 0 one) (sym is), ap (λ (ds : List DeskValue). get_or ds 1 two) (sym is))
two_left one two (x ∷ front) first second is =
    absurd (omega (arith, ap length is, length-append (front ++ first ∷ []) (second ∷ []), length-append front (first ∷ [])))

module _ (book : BookValue) (desks left front : List DeskValue) (first second : DeskValue) (opens : Opens book 2 desks)
    (popped : desks ≡ left ++ second ∷ []) (popped_too : left ≡ front ++ first ∷ []) where
  both : (first ≡ new_desk opens.table book 2 1) × (second ≡ new_desk opens.table book 2 2)
  both = two_left _ _ front first second (sym opens.are ∙ popped ∙ ap (λ (ds : List DeskValue). ds ++ second ∷ []) popped_too)

  module _ (t : Tables) (scale : ScaleRow) (index : Catalogue) (limit : ℕ)
      (book_is : book ≡ record { opening = record { tables = t; limit = limit }; log = []; latest = 0 })
      (named : index ≡ opened t) where
    posted : (number : ℕ) (desk : DeskValue) → desk ≡ new_desk opens.table book 2 number → IsSeat (seat_of desk)
        → IsPosted (seat_of desk) index (record { number = number; seed = 0; scale = scale })
    posted number desk is valid =
        let tables : desk.origin.opening.tables ≡ t = ap (λ (d : DeskValue). d.origin.opening.tables) is ∙ ap (λ (b : BookValue). b.opening.tables) book_is in
        record {
          valid = valid;
          number = ap (λ (d : DeskValue). d.number) is;
          named = named ∙ ap opened (sym tables);
        }

    size : length desks ≡ 2
    size = ap length opens.are

    pub first_posted : IsPosted (seat_of first) index (record { number = 1; seed = 0; scale = scale })
    first_posted =
        let here : get_or desks 0 first ≡ first = ap (λ (ds : List DeskValue). get_or ds 0 first) opens.are ∙ sym both.0 in
        posted 1 first both.0 (subst (λ (d : DeskValue). IsSeat (seat_of d)) here (opens.valid 0 first (omega (arith, size))))

    pub second_posted : IsPosted (seat_of second) index (record { number = 2; seed = 0; scale = scale })
    second_posted =
        let here : get_or desks 1 second ≡ second = ap (λ (ds : List DeskValue). get_or ds 1 second) opens.are ∙ sym both.1 in
        posted 2 second both.1 (subst (λ (d : DeskValue). IsSeat (seat_of d)) here (opens.valid 1 second (omega (arith, size))))
